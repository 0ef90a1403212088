use Rattle.std.proofs.Common.{ℕ, ◌-◌, ◌%◌, ◌≢◌}
use Rattle.probing.specs.Cyclic.{dist}
use Rattle.probing.specs.Keep.{Walked}
use Rattle.map_store.specs.Half.{held}
use Rattle.map_store.proofs.index.Index.slot_of.Given as goal

abbrev pub invariant-loop-self : goal.invariant-loop-self
invariant-loop-self l = Walked (λ (t : ℕ). held l.cells l.self.at t ≢ l.pos) l.self.len (l.hash % l.self.len) l.slot

abbrev pub decreases-loop-self : goal.decreases-loop-self
decreases-loop-self l = l.self.len - dist l.self.len (l.hash % l.self.len) l.slot
