-- What an object weighs: by its header, and by the model.
use Prim.Native.Nat.{ℕ, ◌+◌, ◌*◌, ◌≤◌}
use mathlib.Core.Path.{◌≡◌, refl}
use native.Mathlib.Omega.{arith}
use native.Mathlib.Nat.{mul-le-mul}
use native.Mathlib.Decide.{ℕ_discrete}
use borrow.Author.Tests.{ne_eqb}
use Rattle.heap_slots.specs.Limits.{CELLS_MAX}
use Rattle.heap_slots.specs.declared.Header.{Header}
use Rattle.model.specs.declared.Weights.{Weights}
use Rattle.heap.specs.Good.{WeightsGood}
use Rattle.collector.specs.Sweep.{bytes_at, weight_at, Weighable}

pub product_le : (a b p q : ℕ) → a ≤ p → b ≤ q → a * b ≤ p * q
product_le a b p q h k = mul-le-mul h k

-- ---- by kind

module _ (w : Weights) (h : Header) (f : ℕ) where
  pub weight-string : h.kind ≡ 1 → w.slot + h.len ≡ weight_at w h f
  unfolding bytes_at
  weight-string e = rw e

  pub weight-array : h.kind ≡ 6 → w.slot + 8 * h.size ≡ weight_at w h f
  unfolding bytes_at
  weight-array e = rw e

  pub weight-map : h.kind ≡ 7 → w.slot + (w.entry * h.value + 4 * h.mode) ≡ weight_at w h f
  unfolding bytes_at
  weight-map e = rw e

  pub weight-struct : h.kind ≡ 8 → w.slot + 8 * h.len ≡ weight_at w h f
  unfolding bytes_at
  weight-struct e = rw e

  pub weight-function : h.kind ≡ 9 → w.slot + 8 * h.len ≡ weight_at w h f
  unfolding bytes_at
  weight-function e = rw e

  pub weight-iterator : h.kind ≡ 10 → w.slot + w.iterator ≡ weight_at w h f
  unfolding bytes_at
  weight-iterator e = rw e

  pub weight-coroutine : {y : ℕ} → y ≡ f → h.kind ≡ 11 → w.slot + (w.coroutine + 8 * h.len + w.frame * y) ≡ weight_at w h f
  unfolding bytes_at
  weight-coroutine q e = rw (q, e)

  pub weight-none : (h.kind ≡ 1 → ⊥) → (h.kind ≡ 6 → ⊥) → (h.kind ≡ 7 → ⊥) → (h.kind ≡ 8 → ⊥) → (h.kind ≡ 9 → ⊥) → (h.kind ≡ 10 → ⊥) → (h.kind ≡ 11 → ⊥) → w.slot ≡ weight_at w h f
  unfolding bytes_at
  weight-none a b c d e i k =
      rw (ne_eqb h.kind 1 a, ne_eqb h.kind 6 b, ne_eqb h.kind 7 c, ne_eqb h.kind 8 d, ne_eqb h.kind 9 e, ne_eqb h.kind 10 i, ne_eqb h.kind 11 k) (plus_none w.slot)
    where
      plus_none : (n : ℕ) → n ≡ n + 0
      plus_none n = omega arith

-- ---- the products

module _ {w : Weights} {h : Header} {f : ℕ} (g : WeightsGood w) (q : Weighable h f) where
  pub entries_weigh : h.kind ≡ 7 → w.entry * h.value ≤ 4294967296
  entries_weigh e = let p : w.entry * h.value ≤ 4096 * CELLS_MAX = product_le w.entry h.value 4096 CELLS_MAX g.entry.1 (q.capacity e) in omega arith

  pub frames_weigh : {y : ℕ} → y ≡ f → h.kind ≡ 11 → w.frame * y ≤ 4294967296
  frames_weigh {y} z e = let p : w.frame * y ≤ 4096 * CELLS_MAX = product_le w.frame y 4096 CELLS_MAX g.frame.1 (rw z (q.frames e)) in omega arith

  slot_le : w.slot ≤ 4096
  slot_le = g.slot.1

  pub weight_le : weight_at w h f ≤ 8589934592
  weight_le = one (ℕ_discrete h.kind 1) (ℕ_discrete h.kind 6) (ℕ_discrete h.kind 7) (ℕ_discrete h.kind 8) (ℕ_discrete h.kind 9) (ℕ_discrete h.kind 10) (ℕ_discrete h.kind 11)
    where
      one : Dec (h.kind ≡ 1) → Dec (h.kind ≡ 6) → Dec (h.kind ≡ 7) → Dec (h.kind ≡ 8) → Dec (h.kind ≡ 9) → Dec (h.kind ≡ 10) → Dec (h.kind ≡ 11) → weight_at w h f ≤ 8589934592
      one (yes e) b c d i j k = rw (← weight-string w h f e) (omega (arith, q.string e, slot_le))
      one (no a) (yes e) c d i j k = rw (← weight-array w h f e) (omega (arith, q.size, slot_le))
      one (no a) (no b) (yes e) d i j k = rw (← weight-map w h f e) (omega (arith, entries_weigh e, q.index e, slot_le))
      one (no a) (no b) (no c) (yes e) i j k = rw (← weight-struct w h f e) (omega (arith, q.fields e, slot_le))
      one (no a) (no b) (no c) (no d) (yes e) j k = rw (← weight-function w h f e) (omega (arith, q.captures e, slot_le))
      one (no a) (no b) (no c) (no d) (no i) (yes e) k = rw (← weight-iterator w h f e) (omega (arith, g.iterator.1, slot_le))
      one (no a) (no b) (no c) (no d) (no i) (no j) (yes e) = rw (← weight-coroutine w h f refl e) (omega (arith, frames_weigh refl e, q.registers e, g.coroutine.1, slot_le))
      one (no a) (no b) (no c) (no d) (no i) (no j) (no k) = rw (← weight-none w h f a b c d i j k) (omega (arith, slot_le))
