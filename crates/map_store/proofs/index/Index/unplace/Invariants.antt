use Rattle.std.proofs.Common.{◌-◌}
use Rattle.probing.specs.Cyclic.{dist}
use Rattle.probing.specs.Table.{vacancy}
use Rattle.map_store.specs.Half.{held}
use Rattle.map_store.proofs.Maps.{Removing}
use Rattle.map_store.proofs.index.Index.unplace.Given as goal

abbrev pub invariant-loop-word : goal.invariant-loop-word
invariant-loop-word l = Removing l.initial.cells l.cells l.self.at l.self.len l.m (vacancy l.self.len (held l.initial.cells l.self.at)) l.fn.seat.slot l.hole l.next

abbrev pub decreases-loop-word : goal.decreases-loop-word
decreases-loop-word l = l.self.len - dist l.self.len l.fn.seat.slot l.next
