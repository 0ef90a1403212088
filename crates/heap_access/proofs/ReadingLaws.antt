-- Readings of one object: a law for each form of answer. Assumes nothing.
use Rattle.std.proofs.Common.{Result, Ok, Err}
use Rattle.std.specs.Result.{IsErrAnd}
use Rattle.std.proofs.lemmas.Result.{err_from_is_err_and}
use Prim.Native.Nat.{ℕ, ◌+◌, ◌≤◌, ◌<◌}
use mathlib.Core.Path.{◌≡◌, refl, ap, ◌∙◌}
use mathlib.Core.Bool.{Bool}
use mathlib.Core.List.{List, [], ◌∷◌}
use native.Mathlib.Omega.{arith}
use lib.ListN.{get_or, length, take}
use lib.Seq.{get_or-take}
use Rattle.heap_slots.specs.Header.{header_at}
use Rattle.heap_slots.specs.declared.Header.{Header}
use Rattle.heap_slots.specs.declared.Scalars.{Scalars}
use Rattle.heap_slots.proofs.Cases.{by_cases, lt_or_le}
use Rattle.heap_cells.specs.Regions.{RawSlot, raw_at}
use Rattle.heap_cells.proofs.RawLaws.{region-get}
use Rattle.history.proofs.Facts.{ltb_no, ltb_yes}
use Rattle.layout.specs.Layout.{Layout}
use Rattle.model.specs.Content.{Content}
use Rattle.model.specs.Calls.{Call, effect, same}
use Rattle.model.specs.Replies.{Answer, Reply, no_memory, number, reply}
use Rattle.model.specs.Model.{Model, view_of}
use Rattle.model.specs.Refusals.{inside, target}
use Rattle.model.specs.Terms.{a_coroutine, a_function, a_struct, an_array, captures, fields, items, registers, terms, uncharged}
use Rattle.heap.proofs.GoodLaws.{holds_as}
use Rattle.heap.proofs.LocateLaws.{locates_so}
use Rattle.heap.specs.Answers.{reading_is, refused, seen_by}
use Rattle.heap.specs.Locating.{Locates}
use Rattle.heap.specs.State.{State, model_of, more_of, raw_of}
use Rattle.heap.specs.Good.{Good, SlotGood}
use Rattle.heap.specs.Promise.{Reads}
use Rattle.heap.specs.declared.Refusal.{Refusal}
use Rattle.heap.proofs.KindLaws.{Says, says_array, says_coroutine, says_function, says_struct, words-length}
use Rattle.heap.proofs.SlotLaws.{raw-length}
use Rattle.heap.proofs.ReachLaws.{Target, located_at}
use Rattle.heap.proofs.ReadLaws.{object-answered, object-inside, object-outside, object-refused, reads_captures, reads_fields, reads_items, reads_registers}
use Rattle.heap_access.specs.Objects.{OnObject, ReadsHeader, ReadsWord, WordsFit, word_at}
use Rattle.heap_access.proofs.ObjectLaws.{by_object}

-- ---- the object, or the refusal

module _ {t : State} {w kind : ℕ} {is : Content → Bool} (g : Good t) (s : Says is kind) (k : Call) where
  module _ {r : Result ℕ Refusal} (d : Locates t.slots t.heap.fresh w kind r) where
    pub reads_refused : {q : Refusal} {rest : Layout → List ℕ} → r ≡ Err q → ((l : Layout) → (terms (model_of l t) k).refusals ≡ target (view_of (model_of l t)) is w ∷ rest l) →
        ((l : Layout) → (terms (model_of l t) k).lent_before ≡ no_memory) → Reads k t (refused q)
    reads_refused e h b l = object-refused l g k d e s (h l) (b l)

  -- what was read of the object, and what is said of it
  pub reads_shown : {B : Type 0} {here : ℕ → B} (says : B → Reply) {x : Result B Refusal} {a : Layout → Reply} → OnObject t.slots t.heap.fresh w kind Err (λ i. Ok (here i)) x → ((l : Layout) → effect (view_of (model_of l t)) k ≡ same) →
      ((l : Layout) → terms (model_of l t) k ≡ uncharged (target (view_of (model_of l t)) is w ∷ []) (a l)) → ((l : Layout) (i : ℕ) → Target t w i kind → a l ≡ says (here i)) → Reads k t (seen_by (λ b. reply (says b)) x)
  unfolding seen_by uncharged
  reads_shown {B} says d e h p =
      by_object (λ (x : Result B Refusal). Reads k t (seen_by (λ b. reply (says b)) x)) d
      (λ q z. reads_refused (locates_so refl) {rest = λ l. []} z (λ l. rw (h l)) (λ l. rw (h l)))
      (λ i z l. let o = located_at g (locates_so refl) z in object-answered l g k o s (rw (h l)) (e l) (rw (h l)) (rw (h l)) (rw (h l) (p l i o)))

  -- a number of it
  pub number_read : {B : Type 0} {here : ℕ → B} (word : B → ℕ) {x : Result B Refusal} {a : Layout → ℕ} → OnObject t.slots t.heap.fresh w kind Err (λ i. Ok (here i)) x → ((l : Layout) → effect (view_of (model_of l t)) k ≡ same) →
      ((l : Layout) → terms (model_of l t) k ≡ uncharged (target (view_of (model_of l t)) is w ∷ []) (number (a l))) → ((l : Layout) (i : ℕ) → Target t w i kind → a l ≡ word (here i)) → Reads k t (seen_by (λ b. reply (number (word b))) x)
  number_read word d e h p = reads_shown (λ b. number (word b)) d e h (λ l i o. ap number (p l i o))

-- ---- the exits of a call that shows what another found

module _ {t : State} {k : Call} {B C : Type 0} (f : B → Answer) (says : C → Answer) {x : Result B Refusal} (d : Reads k t (seen_by f x)) where
  pub shown_ok : {b : B} {c : C} → x ≡ Ok b → says c ≡ f b → Reads k t (seen_by says (Ok c))
  unfolding seen_by
  shown_ok e p = rw p (rw e at d)

  pub shown_err : {q : Refusal} → x ≡ Err q → Reads k t (seen_by says (Err q))
  unfolding seen_by
  shown_err e = rw e at d

  -- where `?` passes the refusal on
  pub passed_on : {q : Refusal} (r : Result C Refusal) → x ≡ Err q → IsErrAnd r (λ e. e ≡ q) → Reads k t (seen_by says r)
  passed_on r e h = let p = err_from_is_err_and r h in rw (p.1, p.2) (shown_err e)

-- ---- the words in an object's cells

-- of the objects of this kind, which the test says, ws reads the first `len` cells
pub record WordsOf (kind : ℕ) (is : Content → Bool) (ws : Model → ℕ → List ℕ) : Type 0 where
  pub says : Says is kind
  pub fits : (r : RawSlot) (x : Scalars) → SlotGood r x → r.kind ≡ kind → r.len ≤ r.size
  pub reads : (l : Layout) (t : State) (w i : ℕ) → Target t w i kind → ws (model_of l t) w ≡ take (raw_of t i).len (raw_of t i).cells

pub item-words : WordsOf 6 an_array items
item-words = record { says = says_array; fits = λ r x g e. holds_as 6 e g; reads = λ l t w i o. reads_items l o }

pub field-words : WordsOf 8 a_struct fields
field-words = record { says = says_struct; fits = λ r x g e. omega (arith, holds_as 8 e g); reads = λ l t w i o. reads_fields l o }

pub capture-words : WordsOf 9 a_function captures
capture-words = record { says = says_function; fits = λ r x g e. omega (arith, holds_as 9 e g); reads = λ l t w i o. reads_captures l o }

pub register-words : WordsOf 11 a_coroutine registers
register-words = record { says = says_coroutine; fits = λ r x g e. omega (arith, holds_as 11 e g); reads = λ l t w i o. reads_registers l o }

module _ {t : State} {kind : ℕ} {is : Content → Bool} {ws : Model → ℕ → List ℕ} (g : Good t) (v : WordsOf kind is ws) where
  pub words-fit : WordsFit t.slots t.cells t.heap.fresh kind
  unfolding raw_at
  words-fit = record {
    slots_max = g.laid.slots_max;
    slots_fit = g.laid.slots_fit;
    cells_max = g.laid.cells_max;
    inside = λ i l e. omega (arith, v.fits (raw_of t i) (more_of t i) (g.each i l) e, g.laid.inside i l);
  }

  module _ {w i : ℕ} (o : Target t w i kind) where
    pub words-within : (header_at t.slots i).len ≤ (header_at t.slots i).size
    unfolding raw_at
    words-within = v.fits (raw_of t i) (more_of t i) (g.each i o.reached.within) o.kind-is

    pub words_count : (l : Layout) → length (ws (model_of l t) w) ≡ (header_at t.slots i).len
    unfolding raw_at
    words_count l = ap length (v.reads l t w i o) ∙ words-length (raw_of t i) (more_of t i) (g.each i o.reached.within) (raw-length g.laid i o.reached.within) words-within

    pub words-word : (l : Layout) (p : ℕ) → p < (header_at t.slots i).len → get_or (ws (model_of l t) w) p 0 ≡ get_or t.cells ((header_at t.slots i).start + p) 0
    unfolding raw_at
    words-word l p h =
        ap (λ (x : List ℕ). get_or x p 0) (v.reads l t w i o)
        ∙ get_or-take (raw_of t i).len (raw_of t i).cells p 0 h
        ∙ region-get (header_at t.slots i) t.cells p (omega (arith, words-within))

module _ {t : State} {w kind : ℕ} {is : Content → Bool} {ws : Model → ℕ → List ℕ} (g : Good t) (v : WordsOf kind is ws) (k : Call) (e : (l : Layout) → effect (view_of (model_of l t)) k ≡ same) where
  -- how many there are
  pub count_read : {x : Result Header Refusal} → ReadsHeader t.slots t.heap.fresh w kind x →
      ((l : Layout) → terms (model_of l t) k ≡ uncharged (target (view_of (model_of l t)) is w ∷ []) (number (length (ws (model_of l t) w)))) → Reads k t (seen_by (λ h. reply (number h.len)) x)
  count_read d h = number_read g v.says k (λ h. h.len) d e h (λ l i o. words_count g v o l)

  -- one of them; 3 outside
  pub word_read : (p : ℕ) {r : Result ℕ Refusal} → ReadsWord t.slots t.cells t.heap.fresh w kind p r →
      ((l : Layout) → terms (model_of l t) k ≡ uncharged (target (view_of (model_of l t)) is w ∷ inside p (length (ws (model_of l t) w)) ∷ []) (number (get_or (ws (model_of l t) w) p 0))) → Reads k t (reading_is r)
  unfolding seen_by uncharged word_at
  word_read p d h =
      by_object (λ (x : Result ℕ Refusal). Reads k t (reading_is x)) d
      (λ q z. reads_refused g v.says k (locates_so refl) {rest = λ l. inside p (length (ws (model_of l t) w)) ∷ []} z (λ l. rw (h l)) (λ l. rw (h l)))
      (λ i z l.
      let o = located_at g (locates_so refl) z in
      let n = words_count g v o l in
      by_cases (lt_or_le p (header_at t.slots i).len)
      (λ lt.
      rw (ltb_yes p (header_at t.slots i).len lt)
      (object-inside l g k o v.says {p = p} {n = length (ws (model_of l t) w)} (rw (h l)) (omega arith) (e l) (rw (h l)) (rw (h l)) (rw (h l) (ap number (words-word g v o l p lt)))))
      (λ le.
      rw (ltb_no p (header_at t.slots i).len le)
      (object-outside l g k o v.says {p = p} {n = length (ws (model_of l t) w)} (rw (h l)) (omega arith) (rw (h l)))))
