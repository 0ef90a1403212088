-- What a section lists, command after command: what is left comes to the whole. Assumes nothing.
use Rattle.std.proofs.Common.{◌≡◌, ℕ, suc, ◌+◌, ◌-◌, ◌*◌, ◌/◌, ◌%◌, ◌≤◌, ◌<◌, true, false, cond, eqb, List, [], ◌∷◌, ◌++◌, length, drop, refl, sym, ◌∙◌, ap, arith, length-append, length-drop}
use Rattle.std.proofs.Math.Bool.{and-true, and-false}
use Rattle.std.proofs.Math.ListN.{drop_of_length-le}
use Rattle.std.proofs.Math.Seq.{drop-drop, drop-append_seam}
use Rattle.std.proofs.lemmas.Bool.{le-leb, lt-leb, ne_eqb}
use Rattle.layout.specs.Sections.{operand_bytes, belongs, operand, cons_if, listed, listed_from, OneMore, begin_of, section_of, lister_of}
use Rattle.layout.specs.declared.Section.{Section}
use Rattle.layout.specs.declared.Section.TheVariants as Kind
use Rattle.layout.specs.declared.Entry.{Entry}
use Rattle.layout.specs.declared.Entry.TheVariants.{Field, Register, Capture}
use Rattle.layout.specs.declared.Command.{Command}
use Rattle.layout.specs.declared.Command.TheVariants.{End, Begins, Lists}
use Rattle.layout.specs.Check.{bytes_of, Unread}
use Rattle.layout.proofs.Accepting.{by-command}

-- ---- the next command

-- a command that stands in no section of the kind
belongs_not : (e : Entry) (b : ℕ) → (b ≡ 2 → ⊥) → (b ≡ 4 → ⊥) → (b ≡ 5 → ⊥) → belongs (lister_of e) b ≡ false
unfolding belongs
belongs_not Field b n m k = ne_eqb b 2 n
belongs_not Register b n m k = rw (ne_eqb b 4 m, ne_eqb b 5 k)
belongs_not Capture b n m k = rw (ne_eqb b 4 m, ne_eqb b 5 k)

module _ (e : Entry) where
  listed_cut : (b : ℕ) (bs : List ℕ) → Unread (b ∷ bs) → listed (lister_of e) 0 (b ∷ bs) ≡ []
  unfolding listed operand_bytes
  listed_cut b bs h =
      by-command (λ b. Unread (b ∷ bs) → listed (lister_of e) 0 (b ∷ bs) ≡ [])
      (λ h. absurd (omega (arith, h (omega arith) (omega arith))))
      (λ h. absurd (omega (arith, h (omega arith) (omega arith))))
      (λ h. let l : length bs < 2 = omega (arith, h (omega arith) (omega arith)) in rw (lt-leb 2 (length bs) l, and-false (belongs (lister_of e) 2)))
      (λ h. absurd (omega (arith, h (omega arith) (omega arith))))
      (λ h. let l : length bs < 2 = omega (arith, h (omega arith) (omega arith)) in rw (lt-leb 2 (length bs) l, and-false (belongs (lister_of e) 4)))
      (λ h. let l : length bs < 1 = omega (arith, h (omega arith) (omega arith)) in rw (lt-leb 1 (length bs) l, and-false (belongs (lister_of e) 5)))
      (λ b m h. rw (belongs_not e b (λ e. omega arith) (λ e. omega arith) (λ e. omega arith)))
      b h

  listed_unread : (bs : List ℕ) → Unread bs → listed (lister_of e) 0 bs ≡ []
  unfolding listed
  listed_unread [] h = refl
  listed_unread (b ∷ bs) h = listed_cut b bs h

  module _ (bs : List ℕ) where
    listed_end : listed (lister_of e) 0 (0 ∷ bs) ≡ []
    unfolding listed
    listed_end = rw (belongs_not e 0 (λ e. omega arith) (λ e. omega arith) (λ e. omega arith))

    listed-begun : (k : Section) → listed (lister_of e) 0 (begin_of k ∷ bs) ≡ []
    unfolding listed
    listed-begun Kind.Struct = rw (belongs_not e 1 (λ e. omega arith) (λ e. omega arith) (λ e. omega arith))
    listed-begun Kind.Function = rw (belongs_not e 3 (λ e. omega arith) (λ e. omega arith) (λ e. omega arith))

    listed_by : (f : Entry) (n : ℕ) → listed (lister_of e) 0 (bytes_of (Lists f n) ++ bs) ≡ cond (belongs (lister_of e) (lister_of f)) (cons_if (eqb (lister_of f) (lister_of e)) n (listed (lister_of e) 0 bs)) []
    unfolding listed operand_bytes operand
    listed_by Field n = let w : n % 256 + 256 * (n / 256) ≡ n = omega arith in rw (le-leb 2 (suc (suc (length bs))) (omega arith), and-true (belongs (lister_of e) 2), w)
    listed_by Register n = let w : n % 256 + 256 * (n / 256) ≡ n = omega arith in rw (le-leb 2 (suc (suc (length bs))) (omega arith), and-true (belongs (lister_of e) 4), w)
    listed_by Capture n = rw (le-leb 1 (suc (length bs)) (omega arith), and-true (belongs (lister_of e) 5))

-- ---- the loop

-- `rest` is left to read of what the section lists from `at` on
pub record Listing (bs : List ℕ) (at : ℕ) (e : Entry) (rest : List ℕ) : Type 0 where
  pub whole : listed_from (lister_of e) bs at ≡ listed (lister_of e) 0 rest
  pub stands : drop (length bs - length rest) bs ≡ rest
  pub onward : at + length rest ≤ length bs

pub listing_past : (bs : List ℕ) (at : ℕ) (e : Entry) → length bs < at → listed_from (lister_of e) bs at ≡ []
unfolding listed
listing_past bs at e h = let m : length bs ≤ at = omega arith in rw (drop_of_length-le bs m)

pub listing_start : {bs : List ℕ} {at : ℕ} {rest : List ℕ} (e : Entry) → at ≤ length bs → rest ≡ drop at bs → Listing bs at e rest
listing_start {bs} {at} {rest} e h f =
    let l : length rest ≡ length bs - at = ap length f ∙ length-drop at bs in
    let p : length bs - length rest ≡ at = omega arith in
    record { whole = rw f; stands = rw p (sym f); onward = omega arith }

kinds_differ : Kind.Struct ≡ Kind.Function → ⊥
kinds_differ e = let z : ◌≡◌ {A = ℕ} 1 3 = ap begin_of e in absurd (omega arith)

-- another entry, in the same section or not
same_section : (e f : Entry) → section_of f ≡ section_of e → (f ≡ e → ⊥) → (belongs (lister_of e) (lister_of f) ≡ true) × (eqb (lister_of f) (lister_of e) ≡ false)
unfolding belongs
same_section Field Field s h = absurd (h refl)
same_section Field Register s h = absurd (kinds_differ (sym s))
same_section Field Capture s h = absurd (kinds_differ (sym s))
same_section Register Field s h = absurd (kinds_differ s)
same_section Register Register s h = absurd (h refl)
same_section Register Capture s h = (refl, refl)
same_section Capture Field s h = absurd (kinds_differ s)
same_section Capture Register s h = (refl, refl)
same_section Capture Capture s h = absurd (h refl)

other_section : (e f : Entry) → (section_of f ≡ section_of e → ⊥) → belongs (lister_of e) (lister_of f) ≡ false
unfolding belongs
other_section Field Field h = absurd (h refl)
other_section Field Register h = refl
other_section Field Capture h = refl
other_section Register Field h = refl
other_section Register Register h = absurd (h refl)
other_section Register Capture h = absurd (h refl)
other_section Capture Field h = refl
other_section Capture Register h = absurd (h refl)
other_section Capture Capture h = absurd (h refl)

own : (e : Entry) → (belongs (lister_of e) (lister_of e) ≡ true) × (eqb (lister_of e) (lister_of e) ≡ true)
unfolding belongs
own Field = (refl, refl)
own Register = (refl, refl)
own Capture = (refl, refl)

over : (e : Entry) (c : Command) (after : List ℕ) → ((f : Entry) (n : ℕ) → c ≡ Lists f n → ⊥) → listed (lister_of e) 0 (bytes_of c ++ after) ≡ []
over e End after h = listed_end e after
over e (Begins k) after h = listed-begun e after k
over e (Lists f n) after h = absurd (h f n refl)

module _ {bs : List ℕ} {at : ℕ} {e : Entry} {rest : List ℕ} (g : Listing bs at e rest) where
  pub listing_unread : Unread rest → listed_from (lister_of e) bs at ≡ []
  listing_unread h = g.whole ∙ listed_unread e rest h

  pub listing_over : (c : Command) (after : List ℕ) → rest ≡ bytes_of c ++ after → ((f : Entry) (n : ℕ) → c ≡ Lists f n → ⊥) → listed_from (lister_of e) bs at ≡ []
  listing_over c after q h = g.whole ∙ rw q (over e c after h)

  module _ (f : Entry) (n : ℕ) (after : List ℕ) (q : rest ≡ bytes_of (Lists f n) ++ after) where
    here : listed_from (lister_of e) bs at ≡ cond (belongs (lister_of e) (lister_of f)) (cons_if (eqb (lister_of f) (lister_of e)) n (listed (lister_of e) 0 after)) []
    here = g.whole ∙ rw q (listed_by e after f n)

    lengths : length rest ≡ length (bytes_of (Lists f n)) + length after
    lengths = ap length q ∙ length-append (bytes_of (Lists f n)) after

    some_bytes : 0 < length (bytes_of (Lists f n))
    some_bytes = elim f as (λ f. 0 < length (bytes_of (Lists f n))) [ Field ↦ omega arith | Register ↦ omega arith | Capture ↦ omega arith ]

    stands_after : drop (length bs - length after) bs ≡ after
    stands_after =
        let p : length bs - length after ≡ (length bs - length rest) + length (bytes_of (Lists f n)) = omega (arith, lengths, g.onward) in
        rw p (sym (drop-drop (length (bytes_of (Lists f n))) (length bs - length rest) bs) ∙ rw (g.stands, q) (drop-append_seam (bytes_of (Lists f n)) after))

    pub listing_found : f ≡ e → n < 65536 → OneMore (lister_of e) bs at n (length bs - length after)
    listing_found s small =
        let o = own e in
        record {
          lists = here ∙ rw (s, o.0, o.1, stands_after);
          onward = omega (arith, lengths, some_bytes, g.onward);
          within = omega arith;
          small = small;
        }

    pub listing_foreign : (section_of f ≡ section_of e → ⊥) → listed_from (lister_of e) bs at ≡ []
    listing_foreign h = here ∙ rw (other_section e f h)

    pub listing_passed : section_of f ≡ section_of e → (f ≡ e → ⊥) → Listing bs at e after
    listing_passed s h =
        let o = same_section e f s h in
        record { whole = here ∙ rw (o.0, o.1); stands = stands_after; onward = omega (arith, lengths, g.onward) }
