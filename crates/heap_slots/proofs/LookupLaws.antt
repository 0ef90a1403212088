-- The lookup with the hit first answers as document 01's order does, and what each answer tells of the word. Assumes nothing.
use Prim.Native.Nat.{ℕ, ◌+◌, ◌*◌, ◌/◌, ◌%◌, ◌≤◌, ◌<◌}
use mathlib.Core.Path.{◌≡◌, refl, ap, sym, ◌∙◌}
use mathlib.Core.Bool.{Bool, true, false, cond, not, ◌&&◌, ◌||◌}
use mathlib.Core.Logic.{◌⊎◌, inl, inr}
use mathlib.Core.List.{List}
use native.Mathlib.Omega.{arith}
use lib.ListN.{length, get_or}
use lib.Dec.{eqb, ltb, leb}
use borrow.Author.Tests.{ltb-true, eqb-true, eqb-false, ne_eqb, eq-eqb, le-leb, lt-leb, lt-ltb}
use Rattle.words.specs.Word.{by_kind, decode_word, low_raw, int_base, ref_slot, ref_tag}
use Rattle.words.specs.WordLaws.{decode_int_range, decode_float_range, decode_ref_range, decode_low_range}
use Rattle.words.specs.declared.Raw.TheVariants as R
use Rattle.std.proofs.Common.{Result, Ok, Err}
use Rattle.heap_slots.specs.declared.Miss.{Miss}
use Rattle.heap_slots.specs.declared.Miss.TheVariants.{Dead, Nil, Wrong}
use Rattle.heap_slots.specs.Header.{header_at, set_header}
use Rattle.heap_slots.specs.declared.Header.{Header}
use Rattle.heap_slots.specs.Lookup.{missed, miss_number, found_number, hit_first, hits, reached_in, found_by, Finds, Halves}
use Rattle.heap_slots.proofs.Cases.{by_cases, lt_or_le, same_or_not}
use Rattle.heap_slots.proofs.HeaderLaws.{header_at-same, header_at-other}

-- ---- the numbers

number-missed : (u : ℕ) → found_number (Err (missed u)) ≡ miss_number u
unfolding missed miss_number found_number
number-missed u = go (leb 131072 u) (leb 65536 u) (eqb u 1) (eqb u 2)
  where
    go : (a r b c : Bool) → found_number (Err (cond a Wrong (cond r Dead (cond b Wrong (cond c Wrong Nil))))) ≡ cond a 2 (cond r 11 (cond (b || c) 2 1))
    go true r b c = refl
    go false true b c = refl
    go false false true c = refl
    go false false false true = refl
    go false false false false = refl

number-first : (s : List ℕ) (n w : ℕ) → found_number (hit_first s n w) ≡ cond (hits s n w) 0 (miss_number (w / 4294967296))
unfolding hit_first hits found_number
number-first s n w = go (ltb (w % 4294967296) n) (eqb (get_or s (w % 4294967296 * 8) 0) (w / 4294967296)) (eqb (get_or s (w % 4294967296 * 8 + 1) 0) 0)
  where
    m : found_number (Err (missed (w / 4294967296))) ≡ miss_number (w / 4294967296)
    m = number-missed (w / 4294967296)

    go : (a b c : Bool) → found_number (cond a (cond b (cond c (Err (missed (w / 4294967296))) (Ok (w % 4294967296))) (Err (missed (w / 4294967296)))) (Err (missed (w / 4294967296)))) ≡ cond (a && (b && not c)) 0 (miss_number (w / 4294967296))
    go true true true = m
    go true true false = refl
    go true false c = m
    go false b c = m

pub finds_so : {s : List ℕ} {n w : ℕ} {f : Result ℕ Miss} → f ≡ hit_first s n w → Finds s n w f
finds_so {s} {n} {w} e = record { is = e; number = ap found_number e ∙ number-first s n w }

-- ---- the order

no_hit : (c d e : Bool) (m f : Result ℕ Miss) → (c ≡ true → d ≡ true → e ≡ false → ⊥) → cond c (cond d (cond e m f) m) m ≡ m
no_hit true true true m f z = refl
no_hit true true false m f z = absurd (z refl refl refl)
no_hit true false e m f z = refl
no_hit false d e m f z = refl

-- where a word reaches an object, its upper half is a reference's
half_range : {s : List ℕ} {n : ℕ} → Halves s n → (u i : ℕ) → ltb i n ≡ true → eqb (get_or s (i * 8) 0) u ≡ true → eqb (get_or s (i * 8 + 1) 0) 0 ≡ false → (65536 ≤ u) × (u < 131072)
unfolding header_at
half_range {s} {n} hs u i p q r =
    let h : get_or s (i * 8) 0 ≡ u = eqb-true _ _ q in
    let l : i < n = ltb-true _ _ p in
    let k : get_or s (i * 8 + 1) 0 ≡ 0 → ⊥ = eqb-false _ _ r in
    (omega (arith, hs.low i l k), omega (arith, hs.high i l k))

low-found : (a b : Bool) (t : Bool) (k : ℕ) (f : ℕ → ℕ → Result ℕ Miss) → by_kind (Err Nil) (λ b. Err Wrong) (λ z. Err Wrong) (λ x. Err Wrong) (λ k. Err Wrong) f (cond a (R.Bool t) (cond b (R.Char k) R.Nil)) ≡ Err (cond a Wrong (cond b Wrong Nil))
low-found true b t k f = refl
low-found false true t k f = refl
low-found false false t k f = refl

module _ {s : List ℕ} {n : ℕ} (hs : Halves s n) (w : ℕ) where
  -- outside the references nothing is reached
  missing : (w / 4294967296 < 65536) ⊎ (131072 ≤ w / 4294967296) → hit_first s n w ≡ Err (missed (w / 4294967296))
  unfolding hit_first
  missing o =
      no_hit (ltb (w % 4294967296) n) (eqb (get_or s (w % 4294967296 * 8) 0) (w / 4294967296)) (eqb (get_or s (w % 4294967296 * 8 + 1) 0) 0) _ _
      (λ p q r. let h = half_range hs (w / 4294967296) (w % 4294967296) p q r in by_cases o (λ a. omega arith) (λ b. omega arith))

  wrong_above : 131072 ≤ w / 4294967296 → hit_first s n w ≡ found_by s n w
  unfolding missed found_by
  wrong_above h =
      missing (inr h) ∙ simp (le-leb 131072 (w / 4294967296) h)
      (sym
      (by_cases (lt_or_le w int_base)
      (λ l. rw (decode_float_range w (omega arith) l))
      (λ r. rw (decode_int_range w r))))

  low_below : w / 4294967296 < 65536 → hit_first s n w ≡ found_by s n w
  unfolding missed found_by low_raw
  low_below h =
      missing (inl h) ∙ simp (lt-leb 131072 (w / 4294967296) (omega arith), lt-leb 65536 (w / 4294967296) h)
      (sym (rw (decode_low_range w (omega arith)) (low-found (eqb (w / 4294967296) 1) (eqb (w / 4294967296) 2) _ _ _)))

  ref-between : 65536 ≤ w / 4294967296 → w / 4294967296 < 131072 → hit_first s n w ≡ found_by s n w
  unfolding hit_first missed found_by reached_in header_at
  ref-between lo hi =
      let tag : 65536 + w / 4294967296 % 65536 ≡ w / 4294967296 = omega arith in
      simp (lt-leb 131072 (w / 4294967296) hi, le-leb 65536 (w / 4294967296) lo)
      (sym (rw (decode_ref_range w (omega arith) (omega arith), tag)))

  pub hit-first : hit_first s n w ≡ found_by s n w
  hit-first =
      by_cases (lt_or_le (w / 4294967296) 65536)
      low_below
      (λ lo. by_cases (lt_or_le (w / 4294967296) 131072) (ref-between lo) wrong_above)

-- ---- what the answer tells of the word

-- an object: at slot i, under the tag of the word
pub record FoundAt (s : List ℕ) (n w i : ℕ) : Type 0 where
  pub within : i < n
  pub present : (header_at s i).kind ≡ 0 → ⊥
  pub half : (header_at s i).half ≡ 65536 + ref_tag w
  pub tag : ref_tag w < 65536
  pub reads : decode_word w ≡ R.Ref i (ref_tag w)

-- a reference whose slot has no object, or one with another tag
pub record FoundNone (s : List ℕ) (n w : ℕ) : Type 0 where
  pub reads : decode_word w ≡ R.Ref (ref_slot w) (ref_tag w)
  pub tag : ref_tag w < 65536
  pub none : ref_slot w < n → ((header_at s (ref_slot w)).kind ≡ 0 → ⊥) → (header_at s (ref_slot w)).half ≡ 65536 + ref_tag w → ⊥

hit-at : (a b c : Bool) (m : Miss) (j i : ℕ) → cond a (cond b (cond c (Err m) (Ok j)) (Err m)) (Err m) ≡ Ok i → (a ≡ true) × (b ≡ true) × (c ≡ false) × (j ≡ i)
hit-at true true true m j i e = cc
hit-at true true false m j i e = (refl, refl, refl, (cc))
hit-at true false c m j i e = cc
hit-at false b c m j i e = cc

low-nil : (a b t : Bool) (k : ℕ) → ◌≡◌ {A = Result ℕ Miss} (Err (cond a Wrong (cond b Wrong Nil))) (Err Nil) → cond a (R.Bool t) (cond b (R.Char k) R.Nil) ≡ R.Nil
low-nil true b t k e = cc
low-nil false true t k e = cc
low-nil false false t k e = refl

low-dead : (a b : Bool) → ◌≡◌ {A = Result ℕ Miss} (Err (cond a Wrong (cond b Wrong Nil))) (Err Dead) → ⊥
low-dead true b e = cc
low-dead false true e = cc
low-dead false false e = cc

low_wrong : {X : Type 0} (nil other : X) (ref : ℕ → ℕ → X) (a b t : Bool) (k : ℕ) → ◌≡◌ {A = Result ℕ Miss} (Err (cond a Wrong (cond b Wrong Nil))) (Err Wrong) → by_kind nil (λ b. other) (λ z. other) (λ x. other) (λ k. other) ref (cond a (R.Bool t) (cond b (R.Char k) R.Nil)) ≡ other
low_wrong nil other ref true b t k e = refl
low_wrong nil other ref false true t k e = refl
low_wrong nil other ref false false t k e = cc

-- a reference is dead or found
not_other : (a b c : Bool) (j : ℕ) (m : Miss) → (Dead ≡ m → ⊥) → cond a (cond b (cond c (Err Dead) (Ok j)) (Err Dead)) (Err Dead) ≡ Err m → ⊥
not_other true true true j m ne e = ne (cc)
not_other true true false j m ne e = cc
not_other true false c j m ne e = ne (cc)
not_other false b c j m ne e = ne (cc)

module _ {s : List ℕ} {n w : ℕ} {f : Result ℕ Miss} (hs : Halves s n) (fd : Finds s n w f) where
  pub found_at : {i : ℕ} → f ≡ Ok i → FoundAt s n w i
  unfolding hit_first missed header_at
  found_at {i} e' =
      let e = sym fd.is ∙ e' in
      let h = hit-at (ltb (w % 4294967296) n) (eqb (get_or s (w % 4294967296 * 8) 0) (w / 4294967296)) (eqb (get_or s (w % 4294967296 * 8 + 1) 0) 0) (missed (w / 4294967296)) (w % 4294967296) i e in
      let r = half_range hs (w / 4294967296) (w % 4294967296) h.0 h.1 h.2 in
      let l : w % 4294967296 < n = ltb-true _ _ h.0 in
      let k : get_or s (w % 4294967296 * 8 + 1) 0 ≡ 0 → ⊥ = eqb-false _ _ h.2 in
      let u : get_or s (w % 4294967296 * 8) 0 ≡ w / 4294967296 = eqb-true _ _ h.1 in
      rw (← h.3)
      (record {
        within = l;
        present = k;
        half = omega arith;
        tag = omega arith;
        reads = decode_ref_range w (omega arith) (omega arith);
      })

  pub found-nil : f ≡ Err Nil → decode_word w ≡ R.Nil
  unfolding missed low_raw hit_first
  found-nil e' =
      let e = sym fd.is ∙ e' in
      by_cases (lt_or_le (w / 4294967296) 65536)
      (λ lo.
      decode_low_range w (omega arith)
      ∙ low-nil (eqb (w / 4294967296) 1) (eqb (w / 4294967296) 2) _ _
      (simp (lt-leb 131072 (w / 4294967296) (omega arith), lt-leb 65536 (w / 4294967296) lo) at (sym (missing hs w (inl lo)) ∙ e)))
      (λ lo.
      by_cases (lt_or_le (w / 4294967296) 131072)
      (λ hi.
      absurd
      (not_other (ltb (w % 4294967296) n) (eqb (get_or s (w % 4294967296 * 8) 0) (w / 4294967296)) (eqb (get_or s (w % 4294967296 * 8 + 1) 0) 0) (w % 4294967296) _ (λ z. cc)
      (simp (lt-leb 131072 (w / 4294967296) hi, le-leb 65536 (w / 4294967296) lo) at e)))
      (λ hi. let z = simp (le-leb 131072 (w / 4294967296) hi) at (sym (missing hs w (inr hi)) ∙ e) in cc))

  pub found-dead : f ≡ Err Dead → FoundNone s n w
  unfolding missed low_raw hit_first header_at
  found-dead e' =
      let e = sym fd.is ∙ e' in
      by_cases (lt_or_le (w / 4294967296) 65536)
      (λ lo.
      absurd
      (low-dead (eqb (w / 4294967296) 1) (eqb (w / 4294967296) 2)
      (simp (lt-leb 131072 (w / 4294967296) (omega arith), lt-leb 65536 (w / 4294967296) lo) at (sym (missing hs w (inl lo)) ∙ e))))
      (λ lo.
      by_cases (lt_or_le (w / 4294967296) 131072)
      (λ hi.
      record {
        reads = decode_ref_range w (omega arith) (omega arith);
        tag = omega arith;
        none = λ l k h.
            (let u : get_or s (w % 4294967296 * 8) 0 ≡ w / 4294967296 = omega arith in
            let q = simp (lt-ltb (w % 4294967296) n l, eq-eqb (get_or s (w % 4294967296 * 8) 0) (w / 4294967296) u, ne_eqb (get_or s (w % 4294967296 * 8 + 1) 0) 0 k) at e in
            cc);
      })
      (λ hi. absurd (let z = simp (le-leb 131072 (w / 4294967296) hi) at (sym (missing hs w (inr hi)) ∙ e) in cc)))

  -- neither nil nor a reference: as document 01's order by kinds has it
  pub found_wrong : {X : Type 0} (nil other : X) (ref : ℕ → ℕ → X) → f ≡ Err Wrong → by_kind nil (λ b. other) (λ z. other) (λ x. other) (λ k. other) ref (decode_word w) ≡ other
  unfolding missed low_raw hit_first
  found_wrong nil other ref e' =
      let e = sym fd.is ∙ e' in
      by_cases (lt_or_le (w / 4294967296) 65536)
      (λ lo.
      rw (decode_low_range w (omega arith))
      (low_wrong nil other ref (eqb (w / 4294967296) 1) (eqb (w / 4294967296) 2) _ _
      (simp (lt-leb 131072 (w / 4294967296) (omega arith), lt-leb 65536 (w / 4294967296) lo) at (sym (missing hs w (inl lo)) ∙ e))))
      (λ lo.
      by_cases (lt_or_le (w / 4294967296) 131072)
      (λ hi.
      absurd
      (not_other (ltb (w % 4294967296) n) (eqb (get_or s (w % 4294967296 * 8) 0) (w / 4294967296)) (eqb (get_or s (w % 4294967296 * 8 + 1) 0) 0) (w % 4294967296) _ (λ z. cc)
      (simp (lt-leb 131072 (w / 4294967296) hi, le-leb 65536 (w / 4294967296) lo) at e)))
      (λ hi.
      by_cases (lt_or_le w int_base)
      (λ l. rw (decode_float_range w (omega arith) l))
      (λ r. rw (decode_int_range w r))))

-- ---- halves after a store

pub halves_ext : {s : List ℕ} {n : ℕ} (s' : List ℕ) → Halves s n → ((j : ℕ) → j < n → ((header_at s' j).kind ≡ (header_at s j).kind) × ((header_at s' j).half ≡ (header_at s j).half)) → Halves s' n
halves_ext s' g h =
    record {
      low = λ j l p. omega (arith, g.low j l (λ z. p ((h j l).0 ∙ z)), (h j l).1);
      high = λ j l p. omega (arith, g.high j l (λ z. p ((h j l).0 ∙ z)), (h j l).1);
    }

-- slot i, one of n or the next, gets a header
pub halves-put : {s : List ℕ} {n : ℕ} (n' i : ℕ) (h : Header) → Halves s n → i * 8 + 8 ≤ length s → ((j : ℕ) → j < n' → (j ≡ i → ⊥) → j < n) → ((h.kind ≡ 0 → ⊥) → (65536 ≤ h.half) × (h.half < 131072)) → Halves (set_header s i h) n'
halves-put {s} {n} n' i h g fits old w =
    let is : (j : ℕ) → j ≡ i → header_at (set_header s i h) j ≡ h = λ j e. ap (header_at (set_header s i h)) e ∙ header_at-same s i h fits in
    let other : (j : ℕ) → (j ≡ i → ⊥) → header_at (set_header s i h) j ≡ header_at s j = λ j ne. header_at-other s i j h ne in
    record {
      low = λ j l p. by_cases (same_or_not j i) (λ e. rw (is j e) (w (rw (is j e) at p)).0) (λ ne. rw (other j ne) (g.low j (old j l ne) (rw (other j ne) at p)));
      high = λ j l p. by_cases (same_or_not j i) (λ e. rw (is j e) (w (rw (is j e) at p)).1) (λ ne. rw (other j ne) (g.high j (old j l ne) (rw (other j ne) at p)));
    }
