use Rattle.std.proofs.Common.{ℕ, ◌-◌, ◌%◌, ◌≢◌}
use Rattle.probing.specs.Cyclic.{dist}
use Rattle.probing.specs.Probing.{EMPTY}
use Rattle.probing.specs.Keep.{Walked}
use Rattle.map_store.specs.Half.{held}
use Rattle.map_store.proofs.index.Index.place.Given as goal

abbrev pub invariant-loop-slot : goal.invariant-loop-slot
invariant-loop-slot l = Walked (λ (t : ℕ). held l.cells l.self.at t ≢ EMPTY) l.self.len (l.hash % l.self.len) l.slot

abbrev pub decreases-loop-slot : goal.decreases-loop-slot
decreases-loop-slot l = l.self.len - dist l.self.len (l.hash % l.self.len) l.slot
