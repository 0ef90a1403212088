-- When a slot is good, by its row. Assumes nothing.
use Prim.Native.Nat.{ℕ, ◌≤◌, ◌<◌}
use mathlib.Core.Path.{◌≡◌, refl, subst, sym, ◌∙◌}
use native.Mathlib.Omega.{arith}
use Rattle.heap_slots.specs.Kinds.{ITERATOR, MAP, NONE}
use Rattle.heap_slots.specs.Limits.{HALF, HALF_END}
use Rattle.heap_slots.specs.Scalars.{coroutine_part, iterator_part}
use Rattle.heap_slots.specs.declared.Scalars.{Scalars}
use Rattle.heap_slots.proofs.Cases.{by_cases, same_or_not}
use Rattle.heap_cells.specs.Raw.{RawSlot}
use Rattle.heap.specs.Kinds.{LAST_ROW}
use Rattle.heap.specs.Good.{Holds, SlotGood}
use Rattle.heap.proofs.RowLaws.{by_row}

-- what the slot's row asks
pub holds_as : {r : RawSlot} {x : Scalars} (k : ℕ) → r.kind ≡ k → SlotGood r x → Holds k r x
holds_as {r} {x} k e g = subst (λ (n : ℕ). Holds n r x) e g.holds

pub good_as : {r : RawSlot} {x : Scalars} (k : ℕ) → r.kind ≡ k → k ≤ LAST_ROW → HALF ≤ r.half → r.half < HALF_END → Holds k r x → SlotGood r x
good_as {r} {x} k e m lo hi h = record { half_low = lo; half_high = hi; kind = omega (arith, e, m); holds = subst (λ (n : ℕ). Holds n r x) (sym e) h }

-- integer, cell, error, box
pub good_plain : {r : RawSlot} {x : Scalars} → 2 ≤ r.kind → r.kind ≤ 5 → HALF ≤ r.half → r.half < HALF_END → r.size ≡ 0 → SlotGood r x
good_plain {r} {x} from to lo hi h = good_as r.kind refl (omega (arith, to)) lo hi (holds r.kind from to)
  where
    holds : (k : ℕ) → 2 ≤ k → k ≤ 5 → Holds k r x
    holds k from to =
        by_row (λ (n : ℕ). 2 ≤ n → n ≤ 5 → Holds n r x) (λ a b. absurd (omega (arith, a))) (λ a b. h) (λ a b. h) (λ a b. h) (λ a b. h) (λ a b. absurd (omega (arith, b))) (λ a b. absurd (omega (arith, b)))
        (λ a b. absurd (omega (arith, b))) (λ a b. absurd (omega (arith, b))) (λ a b. absurd (omega (arith, b))) (λ a b. absurd (omega (arith, b))) k (omega (arith, from)) (omega (arith, to)) from to

-- array, struct, function: as many cells as words
pub good-words : {r : RawSlot} {x : Scalars} → 6 ≤ r.kind → r.kind ≤ 9 → (r.kind ≡ MAP → ⊥) → HALF ≤ r.half → r.half < HALF_END → r.len ≡ r.size → SlotGood r x
good-words {r} {x} from to no-map lo hi h = good_as r.kind refl (omega (arith, to)) lo hi (holds r.kind from to no-map)
  where
    holds : (k : ℕ) → 6 ≤ k → k ≤ 9 → (k ≡ MAP → ⊥) → Holds k r x
    holds k from to no-map =
        by_row (λ (n : ℕ). 6 ≤ n → n ≤ 9 → (n ≡ MAP → ⊥) → Holds n r x) (λ a b c. absurd (omega (arith, a))) (λ a b c. absurd (omega (arith, a))) (λ a b c. absurd (omega (arith, a))) (λ a b c. absurd (omega (arith, a)))
        (λ a b c. absurd (omega (arith, a))) (λ a b c. omega (arith, h)) (λ a b c. absurd (c refl)) (λ a b c. h) (λ a b c. h) (λ a b c. absurd (omega (arith, b))) (λ a b c. absurd (omega (arith, b)))
        k (omega (arith, from)) (omega (arith, to)) from to no-map

module _ {r q : RawSlot} {x y : Scalars} (g : SlotGood r x) (same_kind : q.kind ≡ r.kind) (lo : HALF ≤ q.half) (hi : q.half < HALF_END) where
  -- a slot of the same kind is good again if what its row asks is kept
  pub good_again : (Holds r.kind r x → Holds r.kind q y) → SlotGood q y
  good_again f = good_as r.kind same_kind g.kind lo hi (f g.holds)

  -- and it is, if lengths and number of frames are kept, and what else a slot without an object, a map and an iterator need
  pub good-kept : (r.kind ≡ NONE → q.half ≡ r.half) → q.len ≡ r.len → q.size ≡ r.size → (coroutine_part y).frames ≡ (coroutine_part x).frames → (r.kind ≡ MAP → Holds MAP r x → Holds MAP q y) →
      (r.kind ≡ ITERATOR → (iterator_part y).epoch ≡ (iterator_part x).epoch) → SlotGood q y
  good-kept half len size frames map iterator = good_again (holds r.kind refl g.kind)
    where
      size_is : r.size ≡ 0 → q.size ≡ 0
      size_is h = omega (arith, size, h)

      holds : (k : ℕ) → r.kind ≡ k → k ≤ LAST_ROW → Holds k r x → Holds k q y
      holds k e m =
          by_cases (same_or_not k 0)
          (λ z. subst (λ (n : ℕ). Holds n r x → Holds n q y) (sym z) (λ h. (omega (arith, half (e ∙ z), h.0), size_is h.1)))
          (λ nz.
          by_row (λ (n : ℕ). r.kind ≡ n → Holds n r x → Holds n q y) (λ e h. rw (size, len) h) (λ e. size_is) (λ e. size_is) (λ e. size_is) (λ e. size_is) (λ e h. omega (arith, len, size, h)) map
          (λ e h. omega (arith, len, size, h)) (λ e h. omega (arith, len, size, h)) (λ e h. (size_is h.0, omega (arith, iterator e, h.1))) (λ e h. rw (size, len, frames) h) k (omega (arith, nz)) m e)
