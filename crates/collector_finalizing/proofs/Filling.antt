-- The dropped coroutines counted and written.
use mathlib.Core.Path.{◌≡◌, refl, sym, ap, ◌∙◌}
use mathlib.Core.Bool.{Bool, true, false, cond}
use mathlib.Core.List.{List, [], ◌∷◌, ◌++◌, append-nil, append_assoc}
use Prim.Native.Nat.{ℕ, zero, suc, ◌+◌, ◌-◌, ◌*◌, ◌%◌, ◌≤◌, ◌<◌}
use native.Mathlib.Omega.{arith}
use native.Mathlib.Numerals.{add-one}
use lib.ListN.{length, get_or, set, take, drop, length-set, take-append-drop, drop_of_length-le}
use lib.Seq.{drop-set-lt, take-suc-set, drop-cons}
use Rattle.std.specs.List.{filter, range_with_len}
use borrow.Author.Tests.{eq-eqb, ne_eqb}
use Rattle.heap_slots.specs.Limits.{SLOT_WORDS, SPAN}
use Rattle.heap_slots.specs.Header.{header_at}
use Rattle.heap_slots.specs.declared.Header.{Header}
use Rattle.heap_slots.proofs.Cases.{by_cases, same_or_not}
use Rattle.heap_cells.specs.Regions.{sum_to}
use Rattle.heap.specs.Good.{coroutine_of, coroutines_in}
use Rattle.collector_marking.specs.Children.{word_at}
use Rattle.collector_marking.proofs.Doing.{drop-onward}
use Rattle.collector_finalizing.specs.Dropped.{waits, is_dropped, sieve, dropped_slots, finalized_in}

-- ---- one slot

module _ (s x m : List ℕ) (i : ℕ) where
  pub dropped_marked : (get_or m i 0 ≡ 0 → ⊥) → false ≡ is_dropped s x m i
  unfolding is_dropped
  dropped_marked h = rw (ne_eqb (get_or m i 0) 0 h)

  module _ (z : get_or m i 0 ≡ 0) {h : Header} (q : h ≡ header_at s i) where
    pub dropped-other : (h.kind ≡ 11 → ⊥) → false ≡ is_dropped s x m i
    unfolding is_dropped waits
    dropped-other k = rw (eq-eqb (get_or m i 0) 0 z, ← q, ne_eqb h.kind 11 k)

-- ---- all slots

module _ (P : ℕ → Bool) (word : ℕ → ℕ) where
  pub sieve-length : (f i : ℕ) → length (sieve P word f i) ≤ f
  unfolding sieve
  sieve-length zero i = omega arith
  sieve-length (suc f) i = go (P i) (sieve-length f (suc i))
    where
      go : (b : Bool) → length (sieve P word f (suc i)) ≤ f → length (cond b (word i ∷ sieve P word f (suc i)) (sieve P word f (suc i))) ≤ suc f
      go true h = omega arith
      go false h = omega arith

  module _ (n i : ℕ) (l : i < n) where
    step : n - i ≡ suc (n - suc i)
    step = omega arith

    pub sieve-taken : P i ≡ true → sieve P word (n - i) i ≡ word i ∷ sieve P word (n - (i + 1)) (i + 1)
    unfolding sieve
    sieve-taken e = rw (add-one, step, e)

    pub sieve-passed : P i ≡ false → sieve P word (n - i) i ≡ sieve P word (n - (i + 1)) (i + 1)
    unfolding sieve
    sieve-passed e = rw (add-one, step, e)

  pub sieve-end : (n i : ℕ) → n ≤ i → sieve P word (n - i) i ≡ []
  unfolding sieve
  sieve-end n i l = let e : n - i ≡ 0 = omega arith in rw e

  pub sieve-count : (f i : ℕ) → length (filter P (range_with_len i f)) ≡ length (sieve P word f i)
  unfolding sieve
  sieve-count zero i = refl
  sieve-count (suc f) i = go (P i) (rw add-one (sieve-count f (suc i)))
    where
      go : (b : Bool) → length (filter P (range_with_len (i + 1) f)) ≡ length (sieve P word f (suc i)) → length (cond b (i ∷ filter P (range_with_len (i + 1) f)) (filter P (range_with_len (i + 1) f))) ≡ length (cond b (word i ∷ sieve P word f (suc i)) (sieve P word f (suc i)))
      go true e = ap suc e
      go false e = e

  -- counting: what is left comes to the whole
  pub record Counting (n i k : ℕ) : Type 0 where
    pub at : i ≤ n
    pub few : k ≤ i
    pub left : k + length (sieve P word (n - i) i) ≡ length (sieve P word n 0)

  pub counting_start : (n : ℕ) → Counting n 0 0
  counting_start n = let e : n - 0 ≡ n = omega arith in record { at = omega arith; few = omega arith; left = rw e (omega arith) }

  pub counting_taken : {n i k : ℕ} → Counting n i k → i < n → P i ≡ true → Counting n (i + 1) (k + 1)
  counting_taken {n} {i} {k} v l e = record { at = omega arith; few = omega (arith, v.few); left = omega (arith, v.left, ap length (sieve-taken n i l e)) }

  pub counting_passed : {n i k : ℕ} → Counting n i k → i < n → P i ≡ false → Counting n (i + 1) k
  counting_passed {n} {i} {k} v l e = record { at = omega arith; few = omega (arith, v.few); left = omega (arith, v.left, ap length (sieve-passed n i l e)) }

  pub counting_end : {n i k : ℕ} → Counting n i k → n ≤ i → k ≡ length (sieve P word n 0)
  counting_end {n} {i} {k} v l = omega (arith, v.left, ap length (sieve-end n i l))

  -- writing
  pub record Filling (n : ℕ) (p₀ p : List ℕ) (i k : ℕ) : Type 0 where
    pub counted : Counting n i k
    pub room : length (sieve P word n 0) ≤ length p₀
    pub len : length p ≡ length p₀
    pub done : take k p ++ sieve P word (n - i) i ≡ sieve P word n 0
    pub rest : drop k p ≡ drop k p₀

  pub filling_start : (n : ℕ) (p₀ : List ℕ) → length (sieve P word n 0) ≤ length p₀ → Filling n p₀ p₀ 0 0
  filling_start n p₀ r = let e : n - 0 ≡ n = omega arith in record { counted = counting_start n; room = r; len = refl; done = rw e; rest = refl }

  module _ {n : ℕ} {p₀ p : List ℕ} {i k : ℕ} (v : Filling n p₀ p i k) where
    pub filling_room : i < n → P i ≡ true → k < length p
    filling_room l e = omega (arith, v.counted.left, ap length (sieve-taken n i l e), v.room, v.len)

    pub filling_taken : {w : ℕ} → i < n → P i ≡ true → w ≡ word i → Filling n p₀ (set p k w) (i + 1) (k + 1)
    filling_taken {w} l e q =
        let low : k < length p = filling_room l e in
        record {
          counted = counting_taken v.counted l e;
          room = v.room;
          len = length-set p k w ∙ v.len;
          done = rw (add-one k, take-suc-set p k w low, append_assoc, q) (rw (sieve-taken n i l e) at v.done);
          rest = drop-set-lt (k + 1) p k w (omega arith) ∙ drop-onward p p₀ k (k + 1) (omega arith) v.rest;
        }

    pub filling_passed : i < n → P i ≡ false → Filling n p₀ p (i + 1) k
    filling_passed l e = record { counted = counting_passed v.counted l e; room = v.room; len = v.len; done = rw (sieve-passed n i l e) at v.done; rest = v.rest }

    pub filling_end : n ≤ i → length p₀ ≡ length (sieve P word n 0) → p ≡ sieve P word n 0
    filling_end l whole =
        let e : take k p ≡ sieve P word n 0 = sym (append-nil (take k p)) ∙ (rw (sieve-end n i l) at v.done) in
        let c : k ≡ length (sieve P word n 0) = counting_end v.counted l in
        let few : length p₀ ≤ k = omega arith in
        sym (take-append-drop k p) ∙ rw (v.rest, drop_of_length-le p₀ few, append-nil) e

-- ---- no coroutines

part_none : (f : ℕ → ℕ) (n j : ℕ) → sum_to f n ≡ 0 → j < n → f j ≡ 0
unfolding sum_to
part_none f zero j e l = absurd (omega arith)
part_none f (suc n) j e l = by_cases (same_or_not j n) (λ q. rw q (omega (arith, e))) (λ q. part_none f n j (omega (arith, e)) (omega (arith, q)))

sieve-none : (P : ℕ → Bool) (word : ℕ → ℕ) (f i : ℕ) → ((j : ℕ) → j < i + f → P j ≡ false) → sieve P word f i ≡ []
unfolding sieve
sieve-none P word zero i h = refl
sieve-none P word (suc f) i h = rw (h i (omega arith)) (sieve-none P word f (suc i) (λ j l. h j (omega arith)))

module _ (s x m : List ℕ) where
  other_kind : (j : ℕ) → coroutine_of (header_at s j).kind ≡ 0 → (header_at s j).kind ≡ 11 → ⊥
  other_kind j e k = let q : coroutine_of (header_at s j).kind ≡ 1 = rw k in omega (arith, e, q)

  stays_out : (j : ℕ) → coroutine_of (header_at s j).kind ≡ 0 → is_dropped s x m j ≡ false
  stays_out j e = by_cases (same_or_not (get_or m j 0) 0) (λ z. sym (dropped-other s x m j z refl (other_kind j e))) (λ z. sym (dropped_marked s x m j z))

  pub none_dropped : {c : ℕ} (n : ℕ) → c ≡ coroutines_in s n → c ≡ 0 → 0 ≡ length (dropped_slots s x m n)
  none_dropped n e z =
      let nil : dropped_slots s x m n ≡ [] = sieve-none (is_dropped s x m) (word_at s) n 0 (λ j l. stays_out j (part_none (λ i. coroutine_of (header_at s i).kind) n j (sym e ∙ z) (omega arith))) in
      rw nil

-- ---- finalized

pub record Finalizing (ws x₀ x : List ℕ) (i : ℕ) : Type 0 where
  pub at : i ≤ length ws
  pub len : length x ≡ length x₀
  pub left : finalized_in (drop i ws) x ≡ finalized_in ws x₀

pub finalizing_start : (ws x : List ℕ) → Finalizing ws x x 0
finalizing_start ws x = record { at = omega arith; len = refl; left = refl }

pub finalizing_step : {ws x₀ x : List ℕ} {i : ℕ} → Finalizing ws x₀ x i → i < length ws → Finalizing ws x₀ (set x (get_or ws i 0 % SPAN * SLOT_WORDS) 1) (i + 1)
unfolding finalized_in
finalizing_step {ws} {x₀} {x} {i} v l = record { at = omega arith; len = length-set x (get_or ws i 0 % SPAN * SLOT_WORDS) 1 ∙ v.len; left = rw add-one (rw (drop-cons ws i 0 l) at v.left) }

pub finalizing_end : {ws x₀ x : List ℕ} {i : ℕ} → Finalizing ws x₀ x i → length ws ≤ i → x ≡ finalized_in ws x₀
unfolding finalized_in
finalizing_end {ws} {x₀} {x} {i} v l = rw (drop_of_length-le ws l) at v.left
