-- What comes of a call on one object, by the answer of locate. Assumes nothing.
use Rattle.std.proofs.Common.{Result, Ok, Err}
use Rattle.std.specs.Result.{IsErrAnd}
use Rattle.std.proofs.lemmas.Result.{err_from_is_err_and}
use Prim.Native.Nat.{ℕ, ◌+◌, ◌*◌, ◌≤◌, ◌<◌}
use mathlib.Core.Path.{◌≡◌, refl, ap, sym, ◌∙◌}
use mathlib.Core.Bool.{Bool, true, false, cond}
use mathlib.Core.List.{List}
use native.Mathlib.Omega.{arith}
use borrow.Author.Tests.{eqb-true}
use lib.Dec.{eqb}
use lib.ListN.{get_or, length, set}
use Rattle.heap_slots.specs.Limits.{CELLS_MAX, SLOT_WORDS, SLOTS_MAX}
use Rattle.heap_slots.specs.Header.{header_at}
use Rattle.heap_slots.specs.Lookup.{Finds, hit_first}
use Rattle.heap_slots.proofs.LookupLaws.{finds_so}
use Rattle.heap_slots.specs.declared.Header.{Header}
use Rattle.heap_slots.specs.declared.Miss.{Miss}
use Rattle.heap_slots.specs.declared.Miss.TheVariants as F
use Rattle.history.proofs.Facts.{ltb_no, ltb_yes}
use Rattle.heap.specs.Answers.{accepted}
use Rattle.heap.specs.Locating.{Locates, located_by, located_in}
use Rattle.heap.specs.declared.Refusal.{Refusal}
use Rattle.heap.specs.declared.Refusal.TheVariants.{OtherKind, Outside}
use Rattle.heap.proofs.LocateLaws.{found_within, locates_so}
use Rattle.heap_access.specs.Objects.{OnObject, ReadsHeader, ReadsWord, StoresWord, WordsFit, Write, at_object, word_at, write, write_word}

module _ {A : Type 0} {s : List ℕ} {n w kind : ℕ} {r : Result ℕ Refusal} {none : Refusal → A} {here : ℕ → A} (d : Locates s n w kind r) where
  pub no_object : {q : Refusal} → r ≡ Err q → OnObject s n w kind none here (none q)
  unfolding at_object
  no_object e = record { is = rw (sym d.is ∙ e) }

  pub object-at : {i : ℕ} {a : A} → r ≡ Ok i → a ≡ here i → OnObject s n w kind none here a
  unfolding at_object
  object-at e p = record { is = rw (sym d.is ∙ e) p }

-- where `?` passes the refusal on
pub object_lost : {B : Type 0} {s : List ℕ} {n w kind : ℕ} {r : Result ℕ Refusal} {q : Refusal} {x : Result B Refusal} {here : ℕ → Result B Refusal} → Locates s n w kind r → r ≡ Err q → IsErrAnd x (λ e. e ≡ q) → OnObject s n w kind Err here x
object_lost {x = x} d e h = let p = err_from_is_err_and x h in rw (p.1, p.2) (no_object d e)

-- so a store leaves the buffer as it was
pub store_lost : {s : List ℕ} {n w kind : ℕ} {r : Result ℕ Refusal} {q : Refusal} {x : Result Unit Refusal} {ws : List ℕ} {here : ℕ → Write} → Locates s n w kind r → r ≡ Err q → IsErrAnd x (λ e. e ≡ q) → OnObject s n w kind (λ e. write (Err e) ws) here (write x ws)
store_lost {x = x} d e h = let p = err_from_is_err_and x h in rw (p.1, p.2) (no_object d e)

-- the slot itself
pub object_slot : {s : List ℕ} {n w kind : ℕ} {r : Result ℕ Refusal} → Locates s n w kind r → OnObject s n w kind Err (λ i. Ok i) r
unfolding at_object
object_slot {s} {n} {w} {kind} d = record { is = d.is ∙ go (located_in s n w kind) }
  where
    go : (z : Result ℕ Refusal) → z ≡ at_object Err (λ i. Ok i) z
    go (Ok i) = unfold at_object in refl
    go (Err q) = unfold at_object in refl

-- both cases
pub by_object : {A : Type 0} {s : List ℕ} {n w kind : ℕ} {none : Refusal → A} {here : ℕ → A} {r : A} (P : A → Type 0) → OnObject s n w kind none here r →
    ((q : Refusal) → located_in s n w kind ≡ Err q → P (none q)) → ((i : ℕ) → located_in s n w kind ≡ Ok i → P (here i)) → P r
unfolding at_object
by_object {s = s} {n = n} {w = w} {kind = kind} {none = none} {here = here} P d f h = rw d.is (go (located_in s n w kind) refl)
  where
    go : (z : Result ℕ Refusal) → located_in s n w kind ≡ z → P (at_object none here z)
    go (Ok i) e = unfold at_object in h i e
    go (Err q) e = unfold at_object in f q e

-- ---- where the object is

pub record Here (s : List ℕ) (n kind i : ℕ) : Type 0 where
  pub within : i < n
  pub kind-is : (header_at s i).kind ≡ kind

-- the header of the object, or the refusal
module _ {s : List ℕ} {n w kind : ℕ} {x : Result Header Refusal} (d : ReadsHeader s n w kind x) where
  pub header_found : {h : Header} → x ≡ Ok h → (i : ℕ) × (located_in s n w kind ≡ Ok i) × (h ≡ header_at s i)
  unfolding at_object
  header_found {h} e = go (located_in s n w kind) refl (sym d.is ∙ e)
    where
      go : (z : Result ℕ Refusal) → located_in s n w kind ≡ z → at_object {A = Result Header Refusal} Err (λ i. Ok (header_at s i)) z ≡ Ok h → (i : ℕ) × (located_in s n w kind ≡ Ok i) × (h ≡ header_at s i)
      go (Ok i) p r = unfold at_object in (i, p, (cc))
      go (Err q) p r = unfold at_object in cc

  pub header_lost : {q : Refusal} → x ≡ Err q → located_in s n w kind ≡ Err q
  header_lost {q} e = go (located_in s n w kind) refl (sym d.is ∙ e)
    where
      go : (z : Result ℕ Refusal) → located_in s n w kind ≡ z → at_object {A = Result Header Refusal} Err (λ i. Ok (header_at s i)) z ≡ Err q → located_in s n w kind ≡ Err q
      go (Ok i) p r = unfold at_object in cc
      go (Err u) p r = unfold at_object in cc

at-refused : {i : ℕ} {q : Refusal} → Ok i ≡ Err q → ⊥
at-refused e = let z : ◌≡◌ {A = ℕ} 0 1 = cc in absurd (omega arith)

picked_here : (b : Bool) {i j : ℕ} → cond b (Ok j) (Err OtherKind) ≡ Ok i → (b ≡ true) × (j ≡ i)
picked_here true x = (refl, (cc))
picked_here false x = absurd (at-refused (sym x))

here-by : {s : List ℕ} {n w kind i : ℕ} (f : Result ℕ Miss) → Finds s n w f → located_by s kind f ≡ Ok i → Here s n kind i
unfolding located_by
here-by {s} {kind = kind} (Ok j) d x =
    let p = picked_here (eqb (header_at s j).kind kind) x in
    let e : (header_at s j).kind ≡ kind = eqb-true _ _ p.0 in
    record { within = found_within d (ap Ok p.1); kind-is = rw p.1 at e }
here-by (Err F.Nil) d x = absurd (at-refused (sym x))
here-by (Err F.Dead) d x = absurd (at-refused (sym x))
here-by (Err F.Wrong) d x = absurd (at-refused (sym x))

pub located_here : {s : List ℕ} {n w kind i : ℕ} {r : Result ℕ Refusal} → Locates s n w kind r → r ≡ Ok i → Here s n kind i
unfolding located_in
located_here {s} {n} {w} d e = here-by (hit_first s n w) (finds_so refl) (sym d.is ∙ e)

-- its words lie in a buffer of eight for each slot
pub located_words : {s : List ℕ} {n w kind i : ℕ} {r : Result ℕ Refusal} → Locates s n w kind r → r ≡ Ok i → (x : List ℕ) → n ≤ SLOTS_MAX → n * SLOT_WORDS ≤ length x → (i < SLOTS_MAX) × (i * SLOT_WORDS + SLOT_WORDS ≤ length x)
located_words d e x a b = let h = (located_here d e).within in (omega arith, omega arith)

pub located_header : {s : List ℕ} {n w kind i : ℕ} {r : Result ℕ Refusal} → Locates s n w kind r → r ≡ Ok i → (n ≤ SLOTS_MAX) × (n * SLOT_WORDS ≤ length s) → (i < SLOTS_MAX) × (i * SLOT_WORDS + SLOT_WORDS ≤ length s)
located_header {s} d e p = located_words d e s p.0 p.1

-- ---- a word of the object's own

module _ {s c : List ℕ} {n w kind : ℕ} {r : Result ℕ Refusal} (f : WordsFit s c n kind) (d : Locates s n w kind r) where
  pub words-header : {i : ℕ} → r ≡ Ok i → (i < SLOTS_MAX) × (i * SLOT_WORDS + SLOT_WORDS ≤ length s)
  words-header e = located_header d e (f.slots_max, f.slots_fit)

  pub words-place : {i k : ℕ} {h : Header} → r ≡ Ok i → h ≡ header_at s i → k < h.len → (h.start + k < length c) × (length c ≤ CELLS_MAX)
  words-place {i} {k} {h} e p l =
      let o = located_here d e in
      let b : h.start + h.len ≤ length c = rw p (f.inside i o.within o.kind-is) in
      (omega arith, f.cells_max)

  pub word_stored : (v : ℕ) {i k : ℕ} {h : Header} → r ≡ Ok i → h ≡ header_at s i → k < h.len → StoresWord s c n w kind k v accepted (set c (h.start + k) v)
  unfolding write_word
  word_stored v {i} {k} {h} e p l = object-at d e (rw (← p, ltb_yes k h.len l))

  pub word_kept : (v : ℕ) {i k : ℕ} {h : Header} → r ≡ Ok i → h ≡ header_at s i → h.len ≤ k → StoresWord s c n w kind k v (Err Outside) c
  unfolding write_word
  word_kept v {i} {k} {h} e p l = object-at d e (rw (← p, ltb_no k h.len l))

-- ---- read

module _ {s c : List ℕ} {n w kind : ℕ} {x : Result Header Refusal} (f : WordsFit s c n kind) (d : ReadsHeader s n w kind x) where
  pub word_lost : (k : ℕ) {q : Refusal} {r : Result ℕ Refusal} → x ≡ Err q → IsErrAnd r (λ e. e ≡ q) → ReadsWord s c n w kind k r
  word_lost k e h = object_lost (locates_so refl) (header_lost d e) h

  module _ {k : ℕ} {h : Header} (e : x ≡ Ok h) where
    pub word_place : k < h.len → (h.start + k < length c) × (length c ≤ CELLS_MAX)
    word_place l = let o = header_found d e in words-place f (locates_so refl) o.1 o.2 l

    pub word_inside : k < h.len → ReadsWord s c n w kind k (Ok (get_or c (h.start + k) 0))
    unfolding word_at
    word_inside l = let o = header_found d e in object-at (locates_so refl) o.1 (rw (← o.2, ltb_yes k h.len l))

    pub word_outside : h.len ≤ k → ReadsWord s c n w kind k (Err Outside)
    unfolding word_at
    word_outside l = let o = header_found d e in object-at (locates_so refl) o.1 (rw (← o.2, ltb_no k h.len l))
