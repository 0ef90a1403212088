-- The number of at most eight bytes, the lowest first, with zeros behind them. Assumes nothing.
use Prim.Native.Nat.{ℕ, ◌+◌, ◌-◌, ◌^◌, ◌≤◌, ◌<◌}
use mathlib.Core.Path.{◌≡◌, ap, ◌∙◌}
use mathlib.Core.List.{List, [], ◌∷◌, ◌++◌}
use native.Mathlib.Omega.{arith}
use mathlib.Core.Logic.{inl, inr}
use lib.Seq.{get_or-take, get_or-drop}
use Rattle.std.proofs.lemmas.Bool.{cases_lt}
use Rattle.std.proofs.lemmas.List.{get_or_past}
use lib.ListN.{length, get_or, take, drop, length-take, length-drop}
use Rattle.std.specs.Int.{w64, from_le_bytes}
use Rattle.model.specs.Callsheet.{little_endian}
use Rattle.text.specs.Puts.{ReadsLittle}

abbrev zeros : List ℕ
zeros = 0 ∷ 0 ∷ 0 ∷ 0 ∷ 0 ∷ 0 ∷ 0 ∷ 0 ∷ []

padded : (bs : List ℕ) (x : ℕ) → length bs ≤ 8 → ((i : ℕ) → get_or bs i 0 < 256) → x ≡ from_le_bytes w64 (bs ++ drop (length bs) zeros) → (x ≡ little_endian bs) × (x < 256 ^ length bs)
unfolding little_endian
padded [] x l s q = (omega arith, omega arith)
padded (a ∷ []) x l s q = (omega arith, omega (arith, s 0))
padded (a ∷ b ∷ []) x l s q = (omega arith, omega (arith, s 0, s 1))
padded (a ∷ b ∷ c ∷ []) x l s q = (omega arith, omega (arith, s 0, s 1, s 2))
padded (a ∷ b ∷ c ∷ d ∷ []) x l s q = (omega arith, omega (arith, s 0, s 1, s 2, s 3))
padded (a ∷ b ∷ c ∷ d ∷ e ∷ []) x l s q = (omega arith, omega (arith, s 0, s 1, s 2, s 3, s 4))
padded (a ∷ b ∷ c ∷ d ∷ e ∷ f ∷ []) x l s q = (omega arith, omega (arith, s 0, s 1, s 2, s 3, s 4, s 5))
padded (a ∷ b ∷ c ∷ d ∷ e ∷ f ∷ g ∷ []) x l s q = (omega arith, omega (arith, s 0, s 1, s 2, s 3, s 4, s 5, s 6))
padded (a ∷ b ∷ c ∷ d ∷ e ∷ f ∷ g ∷ h ∷ []) x l s q = (omega arith, omega (arith, s 0, s 1, s 2, s 3, s 4, s 5, s 6, s 7))
padded (a ∷ b ∷ c ∷ d ∷ e ∷ f ∷ g ∷ h ∷ i ∷ bs) x l s q = absurd (omega arith)

-- the n bytes from `at` on, put into eight
pub reads_little : {bytes ys : List ℕ} {at n : ℕ} (x : ℕ) → ys ≡ take (at + n - at) (drop at bytes) → n ≤ 8 → at + n ≤ length bytes → ((i : ℕ) → get_or bytes i 0 < 256) → x ≡ from_le_bytes w64 (ys ++ drop n zeros) → ReadsLittle bytes at n x
reads_little {bytes} {ys} {at} {n} x e l fits small q =
    let k : at + n - at ≡ n = omega arith in
    let e' : ys ≡ take n (drop at bytes) = e ∙ rw k in
    let m : length ys ≡ n = rw e' (simp (length-take, length-drop) (omega arith)) in
    let low : (i : ℕ) → get_or ys i 0 < 256 =
    λ i.
    elim (cases_lt i n) [
      | inl a ↦ rw (e', get_or-take n (drop at bytes) i 0 a, get_or-drop at bytes i 0) (small (at + i))
      | inr b ↦ rw (get_or_past ys i 0 (omega arith)) (omega arith)
    ] in
    let r = padded ys x (omega arith) low (rw m q) in
    record { is = r.0 ∙ ap little_endian e'; small = rw m at r.1 }
