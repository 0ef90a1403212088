-- The text of all commands, one command at a time. Assumes nothing.
use Prim.Native.Nat.{ℕ, zero, suc, ◌≤◌}
use mathlib.Core.Path.{◌≡◌, refl, sym, ap}
use mathlib.Core.List.{List, [], ◌∷◌, ◌++◌, append-nil}
use mathlib.Core.Option.{Option, none, some}
use native.Mathlib.Omega.{arith}
use lib.ListN.{length, drop, length-drop}
use Rattle.model.specs.Callsheet.{Sheet, commanded, continue, operand_bytes, present_operands, sheet_from, unknown}
use Rattle.sheet.specs.Turns.{text_from, turn_by, turn_of}

continue-same : (s : Sheet) (c : ℕ) (bs : List ℕ) (o : Option ℕ) (f g : Sheet → List ℕ → List ℕ) → ((t : Sheet) (n : ℕ) → f t (drop n bs) ≡ g t (drop n bs)) → continue s c bs o f ≡ continue s c bs o g
unfolding continue
continue-same s c bs none f g h = refl
continue-same s c bs (some n) f g h = ap (λ (l : List ℕ). (commanded s c bs).text ++ l) (h (commanded s c bs).next n)

-- fuel beyond the number of bytes changes nothing
fuel_enough : (f g : ℕ) (s : Sheet) (bs : List ℕ) → length bs ≤ f → length bs ≤ g → sheet_from f s bs ≡ sheet_from g s bs
unfolding sheet_from
fuel_enough zero zero s bs h k = refl
fuel_enough zero (suc g) s [] h k = refl
fuel_enough zero (suc g) s (c ∷ bs) h k = absurd (omega arith)
fuel_enough (suc f) zero s [] h k = refl
fuel_enough (suc f) zero s (c ∷ bs) h k = absurd (omega arith)
fuel_enough (suc f) (suc g) s [] h k = refl
fuel_enough (suc f) (suc g) s (c ∷ bs) h k =
    continue-same s c bs (present_operands (length bs) (operand_bytes c)) (λ t rest. sheet_from f t rest) (λ t rest. sheet_from g t rest)
    (λ t n. fuel_enough f g t (drop n bs) (omega (arith, length-drop n bs)) (omega (arith, length-drop n bs)))

turn_by_lem : (s : Sheet) (c : ℕ) (bs : List ℕ) (o : Option ℕ) → continue s c bs o (λ t rest. sheet_from (length bs) t rest) ≡ (turn_by s c bs o).text ++ text_from (turn_by s c bs o).next (turn_by s c bs o).rest
unfolding continue turn_by text_from sheet_from
turn_by_lem s c bs none = sym (append-nil (unknown s))
turn_by_lem s c bs (some n) =
    ap (λ (l : List ℕ). (commanded s c bs).text ++ l) (fuel_enough (length bs) (length (drop n bs)) (commanded s c bs).next (drop n bs) (omega (arith, length-drop n bs)) (omega arith))

-- the first command's text, then that of the others
pub text_turn : (s : Sheet) (c : ℕ) (bs : List ℕ) → text_from s (c ∷ bs) ≡ (turn_of s c bs).text ++ text_from (turn_of s c bs).next (turn_of s c bs).rest
unfolding text_from sheet_from turn_of
text_turn s c bs = turn_by_lem s c bs (present_operands (length bs) (operand_bytes c))

pub text-none : (s : Sheet) → text_from s [] ≡ []
unfolding text_from sheet_from
text-none s = refl
