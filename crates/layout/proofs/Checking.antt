-- The check of a layout's bytes, command after command: what is left to check comes to the whole. Assumes nothing.
use Rattle.std.proofs.Common.{◌≡◌, ℕ, suc, ◌+◌, ◌≤◌, ◌<◌, true, false, ◌&&◌, eqb, List, [], ◌∷◌, ◌++◌, length, Option, Some, None, refl, sym, ◌∙◌, add-one, arith}
use Rattle.std.proofs.Math.Bool.{and-false}
use Rattle.std.proofs.lemmas.Bool.{lt-ltb, le-ltb, le-leb, lt-leb, ne_eqb, eq-eqb}
use Rattle.layout.specs.Sections.{is_layout, operand_bytes, begin_of, section_of}
use Rattle.layout.specs.declared.Section.{Section}
use Rattle.layout.specs.declared.Section.TheVariants as Kind
use Rattle.layout.specs.declared.Entry.{Entry}
use Rattle.layout.specs.declared.Entry.TheVariants.{Field, Register, Capture}
use Rattle.layout.specs.declared.Command.TheVariants.{Lists}
use Rattle.layout.specs.Check.{bytes_of, Unread, takes}
use Rattle.layout.proofs.Accepting.{by-command, runs, allowed_by, begun_by, counted_by, is-layout-runs}

-- the command that began what stands open
abbrev pub begun : Option Section → ℕ
begun None = 0
begun (Some k) = begin_of k

pub begun_same : (o : Option Section) (k : Section) → begun o ≡ begin_of k → o ≡ Some k
begun_same None Kind.Struct e = absurd (omega arith)
begun_same None Kind.Function e = absurd (omega arith)
begun_same (Some Kind.Struct) Kind.Struct e = refl
begun_same (Some Kind.Struct) Kind.Function e = absurd (omega arith)
begun_same (Some Kind.Function) Kind.Struct e = absurd (omega arith)
begun_same (Some Kind.Function) Kind.Function e = refl

module _ (u s f : ℕ) where
  no_more : (b : ℕ) (bs : List ℕ) → Unread (b ∷ bs) → runs 0 u s f (b ∷ bs) ≡ false
  unfolding runs allowed_by operand_bytes
  no_more b bs h =
      by-command (λ b. Unread (b ∷ bs) → runs 0 u s f (b ∷ bs) ≡ false)
      (λ h. absurd (omega (arith, h (omega arith) (omega arith))))
      (λ h. absurd (omega (arith, h (omega arith) (omega arith))))
      (λ h. let l : length bs < 2 = omega (arith, h (omega arith) (omega arith)) in rw (lt-leb 2 (length bs) l, and-false (eqb u 1)))
      (λ h. absurd (omega (arith, h (omega arith) (omega arith))))
      (λ h. let l : length bs < 2 = omega (arith, h (omega arith) (omega arith)) in rw (lt-leb 2 (length bs) l, and-false (eqb u 3)))
      (λ h. let l : length bs < 1 = omega (arith, h (omega arith) (omega arith)) in rw (lt-leb 1 (length bs) l, and-false (eqb u 3)))
      (λ b m h. rw (ne_eqb b 0 (λ e. omega arith), ne_eqb b 1 (λ e. omega arith), ne_eqb b 2 (λ e. omega arith), ne_eqb b 3 (λ e. omega arith), ne_eqb b 4 (λ e. omega arith), ne_eqb b 5 (λ e. omega arith)))
      b h

  -- nothing is accepted where no command can be read
  runs_unread : (bs : List ℕ) → Unread bs → runs 0 u s f bs ≡ false
  unfolding runs
  runs_unread [] h = refl
  runs_unread (b ∷ bs) h = no_more b bs h

  runs_lists : (e : Entry) (n : ℕ) (bs : List ℕ) → runs 0 u s f (bytes_of (Lists e n) ++ bs) ≡ (eqb u (begin_of (section_of e)) && takes e n) && runs 0 (begin_of (section_of e)) s f bs
  unfolding runs allowed_by begun_by counted_by operand_bytes
  runs_lists Field n bs = rw (le-leb 2 (suc (suc (length bs))) (omega arith))
  runs_lists Register n bs = rw (le-leb 2 (suc (suc (length bs))) (omega arith))
  runs_lists Capture n bs = rw (le-leb 1 (suc (length bs)) (omega arith))

-- `rest` is left to check, in a section begun by `under`, after s types and f functions
pub record Checking (bs : List ℕ) (under s f : ℕ) (rest : List ℕ) : Type 0 where
  pub whole : is_layout bs ≡ runs 0 under s f rest
  pub structs : s ≤ 256
  pub functions : f ≤ 256

pub checking_start : (bs : List ℕ) → Checking bs 0 0 0 bs
checking_start bs = record { whole = is-layout-runs bs; structs = omega arith; functions = omega arith }

module _ {bs : List ℕ} {u s f : ℕ} {rest : List ℕ} (g : Checking bs u s f rest) where
  pub checking_unread : Unread rest → false ≡ is_layout bs
  checking_unread h = sym (g.whole ∙ runs_unread u s f rest h)

  module _ (after : List ℕ) where
    pub checking_end : rest ≡ 0 ∷ after → eqb (length after) 0 ≡ is_layout bs
    unfolding runs
    checking_end e = sym (g.whole ∙ rw e)

    pub checking_struct : rest ≡ 1 ∷ after → s < 256 → Checking bs 1 (s + 1) f after
    unfolding runs allowed_by begun_by counted_by operand_bytes
    checking_struct e h = record { whole = g.whole ∙ rw (e, lt-ltb s 256 h, add-one s); structs = omega arith; functions = g.functions }

    pub checking_structs : rest ≡ 1 ∷ after → 256 ≤ s → false ≡ is_layout bs
    unfolding runs allowed_by
    checking_structs e h = sym (g.whole ∙ rw (e, le-ltb s 256 h))

    pub checking_function : rest ≡ 3 ∷ after → f < 256 → Checking bs 3 s (f + 1) after
    unfolding runs allowed_by begun_by counted_by operand_bytes
    checking_function e h = record { whole = g.whole ∙ rw (e, lt-ltb f 256 h, add-one f); structs = g.structs; functions = omega arith }

    pub checking_functions : rest ≡ 3 ∷ after → 256 ≤ f → false ≡ is_layout bs
    unfolding runs allowed_by
    checking_functions e h = sym (g.whole ∙ rw (e, le-ltb f 256 h))

    module _ (entry : Entry) (n : ℕ) (e : rest ≡ bytes_of (Lists entry n) ++ after) where
      left : is_layout bs ≡ (eqb u (begin_of (section_of entry)) && takes entry n) && runs 0 (begin_of (section_of entry)) s f after
      left = g.whole ∙ rw e (runs_lists u s f entry n after)

      pub checking_listed : u ≡ begin_of (section_of entry) → takes entry n ≡ true → Checking bs u s f after
      checking_listed a b = record { whole = left ∙ rw (eq-eqb u (begin_of (section_of entry)) a, b, ← a); structs = g.structs; functions = g.functions }

      pub checking_foreign : (u ≡ begin_of (section_of entry) → ⊥) → false ≡ is_layout bs
      checking_foreign a = sym (left ∙ rw (ne_eqb u (begin_of (section_of entry)) a))

      pub checking_untaken : takes entry n ≡ false → false ≡ is_layout bs
      checking_untaken b = sym (left ∙ rw (b, and-false (eqb u (begin_of (section_of entry)))))
