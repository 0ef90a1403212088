-- A layout's bytes are accepted exactly if a check that counts types and functions, and builds nothing, accepts them. Assumes nothing.
use mathlib.Core.Path.{◌≡◌, refl, sym, ◌∙◌, ap, subst}
use Prim.Native.Nat.{ℕ, zero, suc, ◌-◌, ◌≤◌}
use native.Mathlib.Omega.{arith}
use mathlib.Core.Bool.{Bool, true, false, cond, ◌&&◌}
use mathlib.Core.List.{List, [], ◌∷◌, ◌++◌}
use lib.Dec.{eqb, leb, ltb}
use lib.ListN.{length, get_or, length-set}
use borrow.Author.Tests.{lt-ltb, eqb-true, eqb-false, ne_eqb}
use Rattle.layout.specs.Layout.{Layout, Reading, no_function, at_last, with_struct, with_field, with_function, with_register, with_capture, when, command, byte, proceed, reading, parse, u16}
use Rattle.layout.specs.Sections.{is_given, is_layout, operand_bytes}

-- ---- tests

pub by_test : {X : Type 0} (b : Bool) → (b ≡ true → X) → (b ≡ false → X) → X
by_test true t f = t refl
by_test false t f = f refl

-- by cases on a command
or_else : (X : ℕ → Type 0) (b k : ℕ) → X k → ((b ≡ k → ⊥) → X b) → X b
or_else X b k x f = by_test (eqb b k) (λ t. subst X (sym (eqb-true b k t)) x) (λ t. f (eqb-false b k t))

pub by-command : (X : ℕ → Type 0) → X 0 → X 1 → X 2 → X 3 → X 4 → X 5 → ((b : ℕ) → 6 ≤ b → X b) → (b : ℕ) → X b
by-command X x0 x1 x2 x3 x4 x5 more b =
    or_else X b 0 x0 (λ n0. or_else X b 1 x1 (λ n1. or_else X b 2 x2 (λ n2. or_else X b 3 x3 (λ n3. or_else X b 4 x4 (λ n4. or_else X b 5 x5 (λ n5. more b (omega arith)))))))

-- ---- the check

-- a command, in a section begun by `under`, after s types and f functions; `left` bytes follow it, the first of which is `first`
unfoldable pub allowed_by : ℕ → ℕ → ℕ → ℕ → ℕ → ℕ → Bool
allowed_by b under s f left first =
    cond (eqb b 1) (ltb s 256)
    (cond (eqb b 2) (eqb under 1 && leb 2 left)
    (cond (eqb b 3) (ltb f 256)
    (cond (eqb b 4) (eqb under 3 && leb 2 left)
    (cond (eqb b 5) (eqb under 3 && (leb 1 left && leb first 2))
    false))))

-- the command that begins the section in which b stands
unfoldable pub begun_by : ℕ → ℕ
begun_by b = cond (leb b 2) 1 3

unfoldable pub counted_by : ℕ → ℕ → ℕ → ℕ
counted_by n b c = cond (eqb b c) (suc n) n

-- `skip`: operand bytes to pass over first; s types and f functions are there already
unfoldable pub runs : ℕ → ℕ → ℕ → ℕ → List ℕ → Bool
runs skip under s f [] = false
runs (suc skip) under s f (b ∷ bs) = runs skip under s f bs
runs zero under s f (b ∷ bs) =
    cond (eqb b 0) (eqb (length bs) 0)
    (allowed_by b under s f (length bs) (get_or bs 0 0) && runs (operand_bytes b) (begun_by b) (counted_by s b 1) (counted_by f b 3) bs)

abbrev pub at : Layout → ℕ → ℕ → Reading
at l under skip = record { layout = l; under = under; operands = skip; ended = false }

pub length_snoc : {A : Type 0} (xs : List A) (x : A) → length (xs ++ (x ∷ [])) ≡ suc (length xs)
length_snoc [] x = refl
length_snoc (y ∷ xs) x = ap suc (length_snoc xs x)

pub length-at-last : {A : Type 0} (d : A) (f : A → A) (xs : List A) → length (at_last d f xs) ≡ length xs
unfolding at_last
length-at-last d f xs = length-set xs (length xs - 1) (f (get_or xs (length xs - 1) d))

-- what follows a command that is accepted exactly if a test passes
when-runs : (ok t : Bool) (l : Layout) (u k : ℕ) (bs : List ℕ) → is_given (reading (at l u k) bs) ≡ t → is_given (proceed (when ok l u k) (λ q. reading q bs)) ≡ ok && t
unfolding proceed when
when-runs true t l u k bs e = e
when-runs false t l u k bs e = refl

ended-runs : (l : Layout) (bs : List ℕ) → is_given (reading record { layout = l; under = 0; operands = 0; ended = true } bs) ≡ eqb (length bs) 0
unfolding reading byte proceed
ended-runs l [] = refl
ended-runs l (b ∷ bs) = sym (ne_eqb (suc (length bs)) 0 (λ e. omega arith))

Runs : List ℕ → Type 0
Runs bs = (l : Layout) (u k : ℕ) → is_given (reading (at l u k) bs) ≡ runs k u (length l.structs) (length l.functions) bs

Agree : Layout → ℕ → List ℕ → ℕ → Type 0
Agree l u bs b = is_given (reading (at l u 0) (b ∷ bs)) ≡ runs 0 u (length l.structs) (length l.functions) (b ∷ bs)

module _ (bs : List ℕ) (go : Runs bs) (l : Layout) (u : ℕ) where
  agree_0 : Agree l u bs 0
  unfolding Agree runs reading byte proceed command
  agree_0 = ended-runs l bs

  agree_1 : Agree l u bs 1
  unfolding Agree Runs runs reading byte proceed command operand_bytes begun_by counted_by allowed_by with_struct
  agree_1 =
      when-runs (ltb (length l.structs) 256) _ (with_struct l) 1 0 bs
      (go (with_struct l) 1 0 ∙ rw (length_snoc l.structs []))

  agree_2 : Agree l u bs 2
  unfolding Agree Runs runs reading byte proceed command operand_bytes begun_by counted_by allowed_by with_field
  agree_2 =
      when-runs (eqb u 1 && leb 2 (length bs)) _ (with_field (u16 bs) l) 1 2 bs
      (go (with_field (u16 bs) l) 1 2 ∙ rw (length-at-last [] (λ ns. ns ++ (u16 bs ∷ [])) l.structs))

  agree_3 : Agree l u bs 3
  unfolding Agree Runs runs reading byte proceed command operand_bytes begun_by counted_by allowed_by with_function
  agree_3 =
      when-runs (ltb (length l.functions) 256) _ (with_function l) 3 0 bs
      (go (with_function l) 3 0 ∙ rw (length_snoc l.functions no_function))

  agree_4 : Agree l u bs 4
  unfolding Agree Runs runs reading byte proceed command operand_bytes begun_by counted_by allowed_by with_register
  agree_4 =
      when-runs (eqb u 3 && leb 2 (length bs)) _ (with_register (u16 bs) l) 3 2 bs
      (go (with_register (u16 bs) l) 3 2 ∙ ap (λ n. runs 2 3 (length l.structs) n bs) (length-at-last no_function _ l.functions))

  agree_5 : Agree l u bs 5
  unfolding Agree Runs runs reading byte proceed command operand_bytes begun_by counted_by allowed_by with_capture
  agree_5 =
      when-runs (eqb u 3 && (leb 1 (length bs) && leb (get_or bs 0 0) 2)) _ (with_capture (get_or bs 0 0) l) 3 1 bs
      (go (with_capture (get_or bs 0 0) l) 3 1 ∙ ap (λ n. runs 1 3 (length l.structs) n bs) (length-at-last no_function _ l.functions))

  agree_more : (b : ℕ) → 6 ≤ b → Agree l u bs b
  unfolding Agree runs reading byte proceed command allowed_by
  agree_more b h =
      rw (ne_eqb b 0 (λ e. omega arith), ne_eqb b 1 (λ e. omega arith), ne_eqb b 2 (λ e. omega arith), ne_eqb b 3 (λ e. omega arith), ne_eqb b 4 (λ e. omega arith), ne_eqb b 5 (λ e. omega arith))

pub runs-reading : (bs : List ℕ) (l : Layout) (u k : ℕ) → is_given (reading (at l u k) bs) ≡ runs k u (length l.structs) (length l.functions) bs
unfolding runs reading byte proceed Agree Runs
runs-reading [] l u k = refl
runs-reading (b ∷ bs) l u zero = by-command (Agree l u bs) (agree_0 bs (runs-reading bs) l u) (agree_1 bs (runs-reading bs) l u) (agree_2 bs (runs-reading bs) l u) (agree_3 bs (runs-reading bs) l u) (agree_4 bs (runs-reading bs) l u) (agree_5 bs (runs-reading bs) l u) (agree_more bs (runs-reading bs) l u) b
runs-reading (b ∷ bs) l u (suc k) = let m : suc k - 1 ≡ k = omega arith in rw (lt-ltb 0 (suc k) (omega arith), m) (runs-reading bs l u k)

-- the bytes are a layout exactly if the check accepts them
pub is-layout-runs : (bs : List ℕ) → is_layout bs ≡ runs 0 0 0 0 bs
unfolding is_layout parse
is-layout-runs bs = runs-reading bs record { structs = []; functions = [] } 0 0
