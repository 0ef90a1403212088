-- The starts of a layout's sections, written into a table one after another: what is left to write comes to the whole. Assumes nothing.
use Rattle.std.proofs.Common.{◌≡◌, ℕ, zero, suc, ◌+◌, ◌-◌, ◌≤◌, ◌<◌, Bool, true, false, ◌&&◌, eqb, leb, ltb, List, [], ◌∷◌, ◌++◌, length, get_or, set, refl, sym, ◌∙◌, ap, add-zero, arith, length-set, length-append}
use Rattle.std.proofs.lemmas.Bool.{and_parts, leb-true, eqb-true, ne_eqb, eq-eqb}
use Rattle.std.proofs.lemmas.List.Edits.{sets}
use Rattle.layout.specs.Sections.{is_layout, operand_bytes, cons_if, starts_from, starts, begin_of}
use Rattle.layout.specs.declared.Section.{Section}
use Rattle.layout.specs.declared.Section.TheVariants as Kind
use Rattle.layout.specs.declared.Entry.TheVariants.{Field, Register, Capture}
use Rattle.layout.specs.declared.Command.{Command}
use Rattle.layout.specs.declared.Command.TheVariants.{End, Begins, Lists}
use Rattle.layout.specs.Check.{bytes_of, Unread}
use Rattle.layout.proofs.Accepting.{by-command, runs, allowed_by, is-layout-runs}

-- ---- the bytes of a layout have no other commands

unfoldable pub known : ℕ → List ℕ → Bool
known skip [] = true
known (suc skip) (b ∷ bs) = known skip bs
known zero (b ∷ bs) = leb b 5 && known (operand_bytes b) bs

none-known : (bs : List ℕ) → eqb (length bs) 0 ≡ true → known 0 bs ≡ true
unfolding known
none-known [] e = refl
none-known (b ∷ bs) e = let n : suc (length bs) ≡ 0 = eqb-true (suc (length bs)) 0 e in absurd (omega arith)

module _ (bs : List ℕ) (go : (k u s f : ℕ) → runs k u s f bs ≡ true → known k bs ≡ true) (u s f : ℕ) where
  command-known : (b : ℕ) → runs 0 u s f (b ∷ bs) ≡ true → known 0 (b ∷ bs) ≡ true
  unfolding known runs allowed_by operand_bytes
  command-known b e =
      by-command (λ b. runs 0 u s f (b ∷ bs) ≡ true → known 0 (b ∷ bs) ≡ true)
      (λ e. none-known bs e)
      (λ e. go 0 _ _ _ (and_parts (ltb s 256) _ e).1)
      (λ e. go 2 _ _ _ (and_parts (eqb u 1 && leb 2 (length bs)) _ e).1)
      (λ e. go 0 _ _ _ (and_parts (ltb f 256) _ e).1)
      (λ e. go 2 _ _ _ (and_parts (eqb u 3 && leb 2 (length bs)) _ e).1)
      (λ e. go 1 _ _ _ (and_parts (eqb u 3 && (leb 1 (length bs) && leb (get_or bs 0 0) 2)) _ e).1)
      (λ b m e. let n : false ≡ true = rw (ne_eqb b 0 (λ e. omega arith), ne_eqb b 1 (λ e. omega arith), ne_eqb b 2 (λ e. omega arith), ne_eqb b 3 (λ e. omega arith), ne_eqb b 4 (λ e. omega arith), ne_eqb b 5 (λ e. omega arith)) at e in cc)
      b e

runs-known : (bs : List ℕ) (k u s f : ℕ) → runs k u s f bs ≡ true → known k bs ≡ true
unfolding known runs
runs-known [] k u s f e = refl
runs-known (b ∷ bs) (suc k) u s f e = runs-known bs k u s f e
runs-known (b ∷ bs) zero u s f e = command-known bs (runs-known bs) u s f b e

-- ---- the starts that are left

unfoldable begins : Section → Command → Bool
begins k End = false
begins k (Begins j) = eqb (begin_of j) (begin_of k)
begins k (Lists e n) = false

module _ (k : Section) where
  begins_not : (b : ℕ) → b < 6 → (b ≡ 1 → ⊥) → (b ≡ 3 → ⊥) → eqb b (begin_of k) ≡ false
  begins_not b h n m = elim k as (λ j. eqb b (begin_of j) ≡ false) [ Kind.Struct ↦ ne_eqb b 1 n | Kind.Function ↦ ne_eqb b 3 m ]

  starts_after : (c : Command) (i p : ℕ) (after : List ℕ) → p ≡ i + length (bytes_of c) → starts_from (begin_of k) 0 i (bytes_of c ++ after) ≡ cons_if (begins k c) (suc i) (starts_from (begin_of k) 0 p after)
  unfolding starts_from operand_bytes begins
  starts_after End i p after e = let q : p ≡ suc i = omega arith in rw (begins_not 0 (omega arith) (λ e. omega arith) (λ e. omega arith), q)
  starts_after (Begins Kind.Struct) i p after e = let q : p ≡ suc i = omega arith in rw q
  starts_after (Begins Kind.Function) i p after e = let q : p ≡ suc i = omega arith in rw q
  starts_after (Lists Field n) i p after e = let q : p ≡ suc (suc (suc i)) = omega arith in rw (begins_not 2 (omega arith) (λ e. omega arith) (λ e. omega arith), q)
  starts_after (Lists Register n) i p after e = let q : p ≡ suc (suc (suc i)) = omega arith in rw (begins_not 4 (omega arith) (λ e. omega arith) (λ e. omega arith), q)
  starts_after (Lists Capture n) i p after e = let q : p ≡ suc (suc i) = omega arith in rw (begins_not 5 (omega arith) (λ e. omega arith) (λ e. omega arith), q)

others : (k : Section) (c : Command) → (c ≡ Begins k → ⊥) → begins k c ≡ false
unfolding begins
others k End h = refl
others Kind.Struct (Begins Kind.Struct) h = absurd (h refl)
others Kind.Struct (Begins Kind.Function) h = refl
others Kind.Function (Begins Kind.Struct) h = refl
others Kind.Function (Begins Kind.Function) h = absurd (h refl)
others k (Lists e n) h = refl

known_after : (c : Command) (after : List ℕ) → known 0 (bytes_of c ++ after) ≡ true → known 0 after ≡ true
unfolding known operand_bytes
known_after End after e = e
known_after (Begins Kind.Struct) after e = e
known_after (Begins Kind.Function) after e = e
known_after (Lists Field n) after e = e
known_after (Lists Register n) after e = e
known_after (Lists Capture n) after e = e

with_operand : (b : ℕ) → 0 < operand_bytes b → (b ≡ 1 → ⊥) × (b ≡ 3 → ⊥)
unfolding operand_bytes
with_operand b h = (λ e. let z : 0 < 0 = rw e at h in omega arith, λ e. let z : 0 < 0 = rw e at h in omega arith)

-- no start is left where no command can be read
module _ (k : Section) (i : ℕ) where
  over : (w j : ℕ) (bs : List ℕ) → length bs < w → starts_from (begin_of k) w j bs ≡ []
  unfolding starts_from
  over zero j bs h = absurd (omega arith)
  over (suc w) j [] h = refl
  over (suc w) j (b ∷ bs) h = over w (suc j) bs (omega arith)

  unread_front : (b : ℕ) (bs : List ℕ) → Unread (b ∷ bs) → known 0 (b ∷ bs) ≡ true → starts_from (begin_of k) 0 i (b ∷ bs) ≡ []
  unfolding starts_from known
  unread_front b bs h e =
      let m : b ≤ 5 = leb-true b 5 (and_parts (leb b 5) (known (operand_bytes b) bs) e).0 in
      let s : suc (length bs) ≤ operand_bytes b = h (omega arith) (omega arith) in
      let o : (b ≡ 1 → ⊥) × (b ≡ 3 → ⊥) = with_operand b (omega arith) in
      rw (begins_not k b (omega arith) o.0 o.1) (over (operand_bytes b) (suc i) bs s)

  starts_unread : (bs : List ℕ) → Unread bs → known 0 bs ≡ true → starts_from (begin_of k) 0 i bs ≡ []
  unfolding starts_from
  starts_unread [] h e = refl
  starts_unread (b ∷ bs) h e = unread_front b bs h e

-- ---- the loop

-- n starts are written, and `rest` is left to read
pub record Writing (bs t₀ : List ℕ) (k : Section) (base n : ℕ) (t rest : List ℕ) : Type 0 where
  pub written : sets t₀ base (starts (begin_of k) bs) ≡ sets t (base + n) (starts_from (begin_of k) 0 (length bs - length rest) rest)
  pub count : length (starts (begin_of k) bs) ≡ n + length (starts_from (begin_of k) 0 (length bs - length rest) rest)
  pub len : length t ≡ length t₀
  pub inside : length rest ≤ length bs
  pub only : known 0 rest ≡ true

pub writing_start : (bs t : List ℕ) (k : Section) (base : ℕ) → is_layout bs ≡ true → Writing bs t k base 0 t bs
writing_start bs t k base h =
    let z : length bs - length bs ≡ 0 = omega arith in
    record { written = rw (add-zero base, z); count = rw z (omega arith); len = refl; inside = omega arith; only = runs-known bs 0 0 0 0 (sym (is-layout-runs bs) ∙ h) }

module _ {bs t₀ : List ℕ} {k : Section} {base n : ℕ} {t rest : List ℕ} (g : Writing bs t₀ k base n t rest) where
  none_left : Unread rest → starts_from (begin_of k) 0 (length bs - length rest) rest ≡ []
  none_left h = starts_unread k (length bs - length rest) rest h g.only

  pub writing_end : Unread rest → t ≡ sets t₀ base (starts (begin_of k) bs)
  writing_end h = sym (g.written ∙ rw (none_left h))

  pub writing_count : Unread rest → n ≡ length (starts (begin_of k) bs)
  writing_count h = omega (arith, g.count, ap length (none_left h))

  module _ (c : Command) (after : List ℕ) (e : rest ≡ bytes_of c ++ after) where
    lengths : length rest ≡ length (bytes_of c) + length after
    lengths = ap length e ∙ length-append (bytes_of c) after

    here : length bs - length after ≡ (length bs - length rest) + length (bytes_of c)
    here = omega (arith, lengths, g.inside)

    next : starts_from (begin_of k) 0 (length bs - length rest) rest ≡ cons_if (begins k c) (suc (length bs - length rest)) (starts_from (begin_of k) 0 (length bs - length after) after)
    next = ap (starts_from (begin_of k) 0 (length bs - length rest)) e ∙ starts_after k c (length bs - length rest) (length bs - length after) after here

    only-after : known 0 after ≡ true
    only-after = known_after c after (rw e at g.only)

    pub writing_other : (c ≡ Begins k → ⊥) → Writing bs t₀ k base n t after
    writing_other h =
        let f : begins k c ≡ false = others k c h in
        record { written = g.written ∙ rw (next, f); count = g.count ∙ rw (next, f); len = g.len; inside = omega (arith, lengths, g.inside); only = only-after }

  module _ (after : List ℕ) (e : rest ≡ begin_of k ∷ after) where
    from : ℕ
    from = length bs - length rest

    here_begun : length bs - length after ≡ suc from
    unfolding from
    here_begun = here (Begins k) after e ∙ omega arith

    begun : starts_from (begin_of k) 0 from rest ≡ suc from ∷ starts_from (begin_of k) 0 (length bs - length after) after
    unfolding from begins
    begun = next (Begins k) after e ∙ rw (eq-eqb (begin_of k) (begin_of k) refl)

    pub writing_room : base + length (starts (begin_of k) bs) ≤ length t₀ → base + n < length t
    unfolding from
    writing_room r = omega (arith, g.count, ap length begun, g.len)

    pub writing_begun : Writing bs t₀ k base (n + 1) (set t (base + n) (length bs - length after)) after
    unfolding from
    writing_begun =
        let q : base + (n + 1) ≡ suc (base + n) = omega arith in
        let more : List ℕ = starts_from (begin_of k) 0 (length bs - length after) after in
        record {
          written = g.written ∙ ap (λ xs. sets t (base + n) xs) begun ∙ ap (λ x. sets (set t (base + n) x) (suc (base + n)) more) (sym here_begun) ∙ rw q;
          count = omega (arith, g.count, ap length begun);
          len = length-set t (base + n) (length bs - length after) ∙ g.len;
          inside = omega (arith, lengths (Begins k) after e, g.inside);
          only = only-after (Begins k) after e;
        }
