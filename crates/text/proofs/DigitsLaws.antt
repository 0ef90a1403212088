-- Digits of numbers. Assumes nothing.
use Prim.Native.Nat.{ℕ, zero, suc, ◌+◌, ◌-◌, ◌/◌, ◌%◌, ◌^◌, ◌≤◌, ◌<◌}
use mathlib.Core.Path.{◌≡◌, refl, ap, ◌∙◌}
use mathlib.Core.Bool.{Bool, true, false, cond}
use mathlib.Core.List.{List, [], ◌∷◌, ◌++◌, append_assoc, append-nil}
use native.Mathlib.Omega.{arith}
use native.Mathlib.Nat.{add-zero, add-suc, pow-zero, pow-suc, pow-succ', div-one, div-div-eq-div-mul, zero-div, zero-mod, div-eq_of_lt, mod-eq_of_lt}
use Rattle.std.proofs.Common.{max, ◌*◌}
use Rattle.std.proofs.lemmas.Nat.{le-div}
use lib.Dec.{eqb}
use lib.ListN.{length, length-append}
use borrow.Author.Tests.{ne_eqb, lt-ltb}
use Rattle.model.specs.Callsheet.{digit, digits, trimmed, decimal}

pub length_digits : (base n x : ℕ) → length (digits base n x) ≡ n
unfolding digits
length_digits base zero x = refl
length_digits base (suc n) x = length-append (digits base n (x / base)) (digit (x % base) ∷ []) ∙ omega (arith, length_digits base n (x / base))

-- ---- leading zeros taken away

length-kept : (t : Bool) (a b : List ℕ) → length a ≤ length b → length (cond t a b) ≤ length b
length-kept true a b h = h
length-kept false a b h = omega arith

some-kept : (t : Bool) (a b : List ℕ) → 1 ≤ length a → 1 ≤ length b → 1 ≤ length (cond t a b)
some-kept true a b h l = h
some-kept false a b h l = l

trimmed_most : (ds : List ℕ) → length (trimmed ds) ≤ length ds
unfolding trimmed
trimmed_most [] = omega arith
trimmed_most (d ∷ []) = omega arith
trimmed_most (d ∷ e ∷ ds) = length-kept (eqb d 48) (trimmed (e ∷ ds)) (d ∷ e ∷ ds) (omega (arith, trimmed_most (e ∷ ds)))

trimmed-least : (d : ℕ) (ds : List ℕ) → 1 ≤ length (trimmed (d ∷ ds))
unfolding trimmed
trimmed-least d [] = omega arith
trimmed-least d (e ∷ ds) = some-kept (eqb d 48) (trimmed (e ∷ ds)) (d ∷ e ∷ ds) (trimmed-least e ds) (omega arith)

trimmed-some : (ds : List ℕ) → 1 ≤ length ds → 1 ≤ length (trimmed ds)
trimmed-some [] h = absurd (omega arith)
trimmed-some (d ∷ ds) h = trimmed-least d ds

pub decimal_most : (x : ℕ) → length (decimal x) ≤ 20
unfolding decimal
decimal_most x = omega (arith, trimmed_most (digits 10 20 x), length_digits 10 20 x)

pub decimal-least : (x : ℕ) → 1 ≤ length (decimal x)
unfolding decimal
decimal-least x = trimmed-some (digits 10 20 x) (omega (arith, length_digits 10 20 x))

-- ---- decimal numbers by their width

digits_split : (base m n x : ℕ) → digits base (m + n) x ≡ digits base m (x / base ^ n) ++ digits base n x
unfolding digits
digits_split base m zero x = rw (add-zero m, pow-zero base, div-one x, append-nil (digits base m x))
digits_split base m (suc n) x =
    rw (add-suc m n) (rw (digits_split base m n (x / base), append_assoc (digits base m (x / base / base ^ n)) (digits base n (x / base)) (digit (x % base) ∷ []), div-div-eq-div-mul x base (base ^ n), ← pow-succ' base n))

zeros_trimmed : (m d : ℕ) (ds : List ℕ) → trimmed (digits 10 m 0 ++ (d ∷ ds)) ≡ trimmed (d ∷ ds)
unfolding digits trimmed digit
zeros_trimmed zero d ds = refl
zeros_trimmed (suc m) d ds =
    rw (zero-div 10, zero-mod 10, append_assoc (digits 10 m 0) (48 ∷ []) (d ∷ ds)) (zeros_trimmed m 48 (d ∷ ds))

trimmed-kept : (d : ℕ) (ds : List ℕ) → (d ≡ 48 → ⊥) → trimmed (d ∷ ds) ≡ d ∷ ds
unfolding trimmed
trimmed-kept d [] h = refl
trimmed-kept d (e ∷ ds) h = rw (ne_eqb d 48 h)

-- the first of suc k digits
digits-first : (k x : ℕ) → digits 10 (suc k) x ≡ digit (x / 10 ^ k % 10) ∷ digits 10 k x
unfolding digits
digits-first k x = let e : suc k ≡ 1 + k = omega arith in ap (λ (n : ℕ). digits 10 n x) e ∙ digits_split 10 1 k x

-- a digit from 1 to 9 is not the digit 0
digit-some : (d : ℕ) → 0 < d → d < 10 → digit d ≡ 48 → ⊥
unfolding digit
digit-some d l h = rw (lt-ltb d 10 h) (λ e. omega arith)

one_kept : (x : ℕ) → trimmed (digits 10 1 x) ≡ digits 10 1 x
unfolding digits trimmed
one_kept x = refl

module _ (x k : ℕ) (z : x / 10 ^ suc k ≡ 0) where
  first_small : x / 10 ^ k < 10
  first_small = let e : x / 10 ^ k / 10 ≡ 0 = div-div-eq-div-mul x (10 ^ k) 10 ∙ rw (← pow-suc 10 k) z in omega arith

  first-kept : 0 < x / 10 ^ k → trimmed (digits 10 (suc k) x) ≡ digits 10 (suc k) x
  first-kept p =
      let e : x / 10 ^ k % 10 ≡ x / 10 ^ k = mod-eq_of_lt first_small in
      rw (digits-first k x) (trimmed-kept (digit (x / 10 ^ k % 10)) (digits 10 k x) (rw e (digit-some (x / 10 ^ k) p first_small)))

  -- the digits above are zeros
  decimal-trimmed : suc k ≤ 20 → decimal x ≡ trimmed (digits 10 (suc k) x)
  unfolding decimal
  decimal-trimmed l =
      let e : 20 ≡ (20 - suc k) + suc k = omega arith in
      ap (λ (n : ℕ). trimmed (digits 10 n x)) e ∙ rw (digits_split 10 (20 - suc k) (suc k) x, z, digits-first k x) (zeros_trimmed (20 - suc k) (digit (x / 10 ^ k % 10)) (digits 10 k x))

-- the width of x is that of its highest power of ten; 0 has one digit
pub by_width : (x k : ℕ) → k < 20 → x < 10 * 10 ^ k → 10 ^ k ≤ max x 1 → decimal x ≡ digits 10 (k + 1) x
by_width x zero l h p = let z : x / 10 ^ suc zero ≡ 0 = omega arith in decimal-trimmed x zero z (omega arith) ∙ one_kept x
by_width x (suc k) l h p =
    let e : suc k + 1 ≡ suc (suc k) = omega arith in
    let q : x / 10 ^ suc (suc k) ≡ 0 = div-eq_of_lt (omega (arith, pow-suc 10 (suc k))) in
    let t : 10 ≤ 10 ^ suc k = omega (arith, pow-suc 10 k) in
    rw e (decimal-trimmed x (suc k) q (omega arith) ∙ first-kept x (suc k) q (le-div 1 x (10 ^ suc k) (omega arith) (omega arith)))
