-- What holds of a sheet between commands.
use Rattle.std.specs.Prelude.{ℕ, ◌≤◌, List}
use Rattle.std.proofs.Math.Bridge.{le_prop}
use Rattle.std.proofs.Math.Nat.{ℕ_set}
use Rattle.heap.specs.State.{State, state}
use Rattle.heap.specs.Good.{Good, Rested}
use Rattle.heap.specs.GoodOnce.{good-prop}
use Rattle.heap.specs.declared.Heap.{Heap}
use Rattle.sheet.specs.declared.state.Buffers.{Buffers}

-- the record over the buffers
abbrev pub held_in : Heap → Buffers → State
held_in h b = state h b.slots b.scalars b.list b.directory b.cells

-- the heap h is good over the buffers b, those for its collections are at rest, and at most 64 roots are given
pub record Whole (h : Heap) (b : Buffers) (count : ℕ) : Type 0 where
  pub good : Good (held_in h b)
  pub rested : Rested h.size b.marks b.order
  pub few : count ≤ 64

-- at most one proof
rested-prop : (size : ℕ) (marks order : List ℕ) → IsProp (Rested size marks order)
rested-prop size marks order = hlevel (le_prop, ℕ_set)

pub whole-prop : (h : Heap) (b : Buffers) (count : ℕ) → IsProp (Whole h b count)
whole-prop h b count =
    let good = good-prop (held_in h b) in
    let rested = rested-prop h.size b.marks b.order in
    hlevel (le_prop, good, rested)
