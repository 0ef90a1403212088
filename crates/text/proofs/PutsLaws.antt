-- Texts put one after another. Assumes nothing.
use Prim.Native.Nat.{ℕ, suc, ◌+◌, ◌-◌, ◌/◌, ◌%◌, ◌≤◌, ◌<◌}
use mathlib.Core.Path.{◌≡◌, refl, sym, ap, ◌∙◌}
use mathlib.Core.List.{List, [], ◌∷◌, ◌++◌, append_assoc, append-nil}
use native.Mathlib.Omega.{arith}
use native.Mathlib.Numerals.{add-one}
use native.Mathlib.Nat.{add-zero, sub-zero}
use lib.ListN.{length, set, take, drop, length-append, length-set, length-take}
use lib.Seq.{take-suc-set, take-set-le, take-add, drop-cons, length-take-le, drop-drop, get_or-set_same, drop-set-lt}
use Rattle.model.specs.Callsheet.{digit, digits, printed}
use Rattle.text.specs.Puts.{Puts}
use Rattle.text.specs.Lines.{line_fields, line_head}
use Rattle.text.proofs.DigitsLaws.{length_digits, decimal_most}

-- nothing put yet
pub puts_none : (out : List ℕ) (at : ℕ) → Puts [] out at out at
puts_none out at = record { size = refl; ends = omega arith; text = sym (append-nil (take at out)); rest = refl }

-- what stays behind a place stays behind a later one
pub drop-later : (out out₁ : List ℕ) (a b : ℕ) → a ≤ b → drop a out₁ ≡ drop a out → drop b out₁ ≡ drop b out
drop-later out out₁ a b h e =
    let z : b ≡ a + (b - a) = omega arith in
    ap (λ (n : ℕ). drop n out₁) z ∙ sym (drop-drop (b - a) a out₁) ∙ ap (drop (b - a)) e ∙ drop-drop (b - a) a out ∙ ap (λ (n : ℕ). drop n out) (sym z)

-- one text behind another
pub puts-append : {t₁ t₂ out : List ℕ} {at : ℕ} {out₁ : List ℕ} {r₁ : ℕ} {out₂ : List ℕ} {r₂ : ℕ} → Puts t₁ out at out₁ r₁ → Puts t₂ out₁ r₁ out₂ r₂ → Puts (t₁ ++ t₂) out at out₂ r₂
puts-append {t₁} {t₂} {out} {at} {out₁} {r₁} {out₂} {r₂} p q = record {
  size = q.size ∙ p.size;
  ends = omega (arith, p.ends, q.ends, length-append t₁ t₂);
  text = q.text ∙ ap (λ (l : List ℕ). l ++ t₂) p.text ∙ append_assoc (take at out) t₁ t₂;
  rest = q.rest ∙ drop-later out out₁ r₁ r₂ (omega (arith, q.ends)) p.rest;
}

-- another name for the same text
pub puts-same : {t₁ t₂ out : List ℕ} {at : ℕ} {out₁ : List ℕ} {r : ℕ} → t₁ ≡ t₂ → Puts t₁ out at out₁ r → Puts t₂ out at out₁ r
puts-same e p = rw e at p

pub puts-byte : (out : List ℕ) (at b : ℕ) → at < length out → Puts (b ∷ []) out at (set out at b) (at + 1)
puts-byte out at b h = record {
  size = length-set out at b;
  ends = refl;
  text = rw (add-one at) (take-suc-set out at b h);
  rest = drop-set-lt (at + 1) out at b (omega arith);
}

-- a text stands in its buffer
pub puts-within : {t out : List ℕ} {at : ℕ} {out' : List ℕ} {r : ℕ} → at ≤ length out → Puts t out at out' r → r ≤ length out'
puts-within {t} {out} {at} {out'} {r} l p =
    let a : length (take r out') ≡ at + length t = ap length p.text ∙ length-append (take at out) t ∙ rw (length-take-le at out l) in
    omega (arith, p.ends, a, length-take r out')

-- ---- digits from the lowest up: those left and those that stand come to the whole

pub record Putting (base n w : ℕ) (out₀ : List ℕ) (at : ℕ) (out : List ℕ) (left rest : ℕ) : Type 0 where
  pub size : length out ≡ length out₀
  pub front : take at out ≡ take at out₀
  pub whole : digits base n w ≡ digits base left rest ++ take (n - left) (drop (at + left) out)
  pub behind : drop (at + n) out ≡ drop (at + n) out₀
  pub inside : left ≤ n

pub putting_start : (base n w : ℕ) (out : List ℕ) (at : ℕ) → Putting base n w out at out n w
putting_start base n w out at =
    let z : n - n ≡ 0 = omega arith in
    record { size = refl; front = refl; whole = rw (z, append-nil); behind = refl; inside = omega arith }

module _ (base n w : ℕ) (out₀ : List ℕ) (at : ℕ) (out : List ℕ) (left rest : ℕ) (g : Putting base n w out₀ at out left rest) (room : at + n ≤ length out₀) where
  pub putting_step : (d : ℕ) → d ≡ digit (rest % base) → 0 < left → Putting base n w out₀ at (set out (at + (left - 1)) d) (left - 1) (rest / base)
  unfolding digits
  putting_step d ed h =
      let j : ℕ = at + (left - 1) in
      let e : left ≡ suc (left - 1) = omega arith in
      let k : n - (left - 1) ≡ suc (n - left) = omega arith in
      let m : suc j ≡ at + left = omega arith in
      let o : j < length out = omega (arith, g.size) in
      let l : j < length (set out j d) = omega (arith, length-set out j d) in
      let s : take (n - (left - 1)) (drop j (set out j d)) ≡ d ∷ take (n - left) (drop (at + left) out) =
      rw (k, drop-cons (set out j d) j 0 l, get_or-set_same out j d 0 o, drop-set-lt (suc j) out j d (omega arith), m) in
      let tail : List ℕ = take (n - left) (drop (at + left) out) in
      record {
        size = length-set out j d ∙ g.size;
        front = take-set-le at out j d (omega arith) ∙ g.front;
        whole = g.whole ∙ ap (λ (x : ℕ). digits base x rest ++ tail) e ∙ append_assoc (digits base (left - 1) (rest / base)) (digit (rest % base) ∷ []) tail ∙ rw (s, ed);
        behind = drop-set-lt (at + n) out j d (omega (arith, g.inside)) ∙ g.behind;
        inside = omega arith;
      }

  pub putting_end : left ≡ 0 → Puts (digits base n w) out₀ at out (at + n)
  unfolding digits
  putting_end z =
      let e : digits base n w ≡ take n (drop at out) = g.whole ∙ rw (z, sub-zero n, add-zero at) in
      record {
        size = g.size;
        ends = ap (λ (x : ℕ). at + x) (sym (length_digits base n w));
        text = take-add at n out ∙ rw (g.front, ← e);
        rest = g.behind;
      }

-- ---- lines

pub length_fields : (refusal word used : ℕ) → length (line_fields refusal word used) ≤ 59
unfolding line_fields
length_fields refusal word used = simp (length-append, length_digits) (omega (arith, decimal_most refusal, decimal_most used))

module _ (name : List ℕ) (refusal word used : ℕ) where
  head_fields : name ++ line_fields refusal word used ≡ line_head name refusal word used
  unfolding line_fields line_head
  head_fields = simp append_assoc

  pub printed_head : line_head name refusal word used ++ (10 ∷ []) ≡ printed name refusal word used
  unfolding line_head printed
  printed_head = refl

  pub length_head : length (line_head name refusal word used) ≤ length name + 59
  length_head = rw (← head_fields, length-append name (line_fields refusal word used)) (omega (arith, length_fields refusal word used))

  pub length-printed : length (printed name refusal word used) ≤ length name + 60
  length-printed = rw (← printed_head, length-append (line_head name refusal word used) (10 ∷ [])) (omega (arith, length_head))

  module _ {out : List ℕ} {at : ℕ} {out₁ : List ℕ} {r₁ : ℕ} {out₂ : List ℕ} {r₂ : ℕ} where
    pub puts_head : Puts name out at out₁ r₁ → Puts (line_fields refusal word used) out₁ r₁ out₂ r₂ → Puts (line_head name refusal word used) out at out₂ r₂
    puts_head p q = puts-same head_fields (puts-append p q)

    pub puts_line : Puts (line_head name refusal word used) out at out₁ r₁ → Puts (10 ∷ []) out₁ r₁ out₂ r₂ → Puts (printed name refusal word used) out at out₂ r₂
    puts_line p q = puts-same printed_head (puts-append p q)
