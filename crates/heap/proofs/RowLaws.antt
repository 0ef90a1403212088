-- Cases by row of the table of kinds. Assumes nothing.
use Prim.Native.Nat.{ℕ, zero, suc, ◌≤◌}
use mathlib.Core.Path.{◌≡◌, refl, sym}
use native.Mathlib.Omega.{arith}
use Rattle.heap_slots.proofs.Cases.{by_cases, same_or_not}
use Rattle.heap_slots.specs.Kinds.{DEAD}
use Rattle.heap.specs.Kinds.{LAST_ROW}
use Rattle.heap.specs.Locating.{RowOrDead}

pub by_row : (P : ℕ → Type 0) → P 1 → P 2 → P 3 → P 4 → P 5 → P 6 → P 7 → P 8 → P 9 → P 10 → P 11 → (k : ℕ) → 1 ≤ k → k ≤ LAST_ROW → P k
by_row P a b c d e f g h i j l zero lo hi = absurd (omega arith)
by_row P a b c d e f g h i j l (suc zero) lo hi = a
by_row P a b c d e f g h i j l (suc (suc zero)) lo hi = b
by_row P a b c d e f g h i j l (suc (suc (suc zero))) lo hi = c
by_row P a b c d e f g h i j l (suc (suc (suc (suc zero)))) lo hi = d
by_row P a b c d e f g h i j l (suc (suc (suc (suc (suc zero))))) lo hi = e
by_row P a b c d e f g h i j l (suc (suc (suc (suc (suc (suc zero)))))) lo hi = f
by_row P a b c d e f g h i j l (suc (suc (suc (suc (suc (suc (suc zero))))))) lo hi = g
by_row P a b c d e f g h i j l (suc (suc (suc (suc (suc (suc (suc (suc zero)))))))) lo hi = h
by_row P a b c d e f g h i j l (suc (suc (suc (suc (suc (suc (suc (suc (suc zero))))))))) lo hi = i
by_row P a b c d e f g h i j l (suc (suc (suc (suc (suc (suc (suc (suc (suc (suc zero)))))))))) lo hi = j
by_row P a b c d e f g h i j l (suc (suc (suc (suc (suc (suc (suc (suc (suc (suc (suc zero))))))))))) lo hi = l
by_row P a b c d e f g h i j l (suc (suc (suc (suc (suc (suc (suc (suc (suc (suc (suc (suc k)))))))))))) lo hi = absurd (omega arith)

positive : (k : ℕ) → (k ≡ 0 → ⊥) → 1 ≤ k
positive k h = omega arith

-- what `row_at` answers, where it is none of the eleven rows and no dead reference
pub row-none : (k : ℕ) → RowOrDead k → (k ≡ 1 → ⊥) → (k ≡ 2 → ⊥) → (k ≡ 3 → ⊥) → (k ≡ 4 → ⊥) → (k ≡ 5 → ⊥) → (k ≡ 6 → ⊥) → (k ≡ 7 → ⊥) → (k ≡ 8 → ⊥) → (k ≡ 9 → ⊥) → (k ≡ 10 → ⊥) → (k ≡ 11 → ⊥) → (k ≡ DEAD → ⊥) → 0 ≡ k
row-none k m a b c d e f g h i j l z =
    by_cases (same_or_not k 0)
    sym
    (λ nz. absurd (by_cases m (λ r. by_row (λ (n : ℕ). k ≡ n → ⊥) a b c d e f g h i j l k (positive k nz) r refl) z))
