use Rattle.std.proofs.Common.{◌-◌, ◌%◌}
use Rattle.probing.specs.Cyclic.{dist}
use Rattle.probing.specs.Keep.{Walked}
use Rattle.map_store.proofs.Maps.{Passed}
use Rattle.map_store.proofs.index.Index.seek.Given as goal

abbrev pub invariant-loop-self : goal.invariant-loop-self
invariant-loop-self l = Walked (Passed l.cells l.self.at l.hash l.key) l.self.len (l.hash % l.self.len) l.slot

abbrev pub decreases-loop-self : goal.decreases-loop-self
decreases-loop-self l = l.self.len - dist l.self.len (l.hash % l.self.len) l.slot
