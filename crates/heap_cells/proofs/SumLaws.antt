-- Sums over the first n numbers. Assumes nothing.
use Prim.Native.Nat.{ℕ, zero, suc, ◌+◌, ◌*◌, ◌≤◌, ◌<◌}
use mathlib.Core.Path.{◌≡◌, refl, ap, sym, ◌∙◌}
use mathlib.Core.List.{List}
use native.Mathlib.Omega.{arith}
use native.Mathlib.Numerals.{add-one}
use lib.ListN.{length}
use Rattle.heap_slots.specs.Limits.{SLOT_WORDS}
use Rattle.heap_slots.specs.Header.{header_at, set_header}
use Rattle.heap_slots.specs.declared.Header.{Header}
use Rattle.heap_slots.proofs.Cases.{by_cases, same_or_not}
use Rattle.heap_slots.proofs.HeaderLaws.{header_at-same, header_at-other}
use Rattle.heap_cells.specs.Regions.{sum_to, sizes_of}

pub sum_ext : (f g : ℕ → ℕ) (n : ℕ) → ((j : ℕ) → j < n → g j ≡ f j) → sum_to g n ≡ sum_to f n
unfolding sum_to
sum_ext f g zero h = refl
sum_ext f g (suc n) h = omega (arith, sum_ext f g n (λ j l. h j (omega arith)), h n (omega arith))

pub sum_zero : (f : ℕ → ℕ) (n : ℕ) → ((j : ℕ) → j < n → f j ≡ 0) → sum_to f n ≡ 0
unfolding sum_to
sum_zero f zero h = refl
sum_zero f (suc n) h = omega (arith, sum_zero f n (λ j l. h j (omega arith)), h n (omega arith))

pub sum_le : (f : ℕ → ℕ) (n : ℕ) → ((j : ℕ) → j < n → f j ≤ 1) → sum_to f n ≤ n
unfolding sum_to
sum_le f zero h = omega arith
sum_le f (suc n) h = omega (arith, sum_le f n (λ j l. h j (omega arith)), h n (omega arith))

-- one of the numbers changes
pub sum-put : (f g : ℕ → ℕ) (n i : ℕ) → i < n → ((j : ℕ) → j < n → (j ≡ i → ⊥) → g j ≡ f j) → sum_to g n + f i ≡ sum_to f n + g i
unfolding sum_to
sum-put f g zero i l h = absurd (omega arith)
sum-put f g (suc n) i l h =
    by_cases (same_or_not i n)
    (λ e.
    let a = sum_ext f g n (λ j lj. h j (omega arith) (omega arith)) in
    let b : g n ≡ g i = ap g (sym e) in
    let b' : f n ≡ f i = ap f (sym e) in
    omega arith)
    (λ ne.
    let a = sum-put f g n i (omega arith) (λ j lj nj. h j (omega arith) nj) in
    let b = h n (omega arith) (omega arith) in
    omega arith)

-- ---- the cells of the slots' regions

pub sizes_ext : (s s' : List ℕ) (n : ℕ) → ((j : ℕ) → j < n → (header_at s' j).size ≡ (header_at s j).size) → sizes_of s' n ≡ sizes_of s n
sizes_ext s s' n h = sum_ext (λ j. (header_at s j).size) (λ j. (header_at s' j).size) n h

-- slot i of n gets another header
pub sizes_put : (s : List ℕ) (n i : ℕ) (h : Header) → i < n → n * SLOT_WORDS ≤ length s → sizes_of (set_header s i h) n + (header_at s i).size ≡ sizes_of s n + h.size
sizes_put s n i h l fits =
    rw (header_at-same s i h (omega arith)) at
    (sum-put (λ j. (header_at s j).size) (λ j. (header_at (set_header s i h) j).size) n i l (λ j lj ne. ap (λ (h : Header). h.size) (header_at-other s i j h ne)))

-- the next never-used slot gets one
pub sizes_fresh : (s : List ℕ) (n : ℕ) (h : Header) → n * SLOT_WORDS + SLOT_WORDS ≤ length s → sizes_of (set_header s n h) (n + 1) ≡ sizes_of s n + h.size
unfolding sum_to
sizes_fresh s n h fits =
    ap (sizes_of (set_header s n h)) (add-one n)
    ∙ omega (arith, sizes_ext s (set_header s n h) n (λ j l. ap (λ (h : Header). h.size) (header_at-other s n j h (omega arith))), ap (λ (h : Header). h.size) (header_at-same s n h fits))
