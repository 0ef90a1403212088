-- Stores to one object that need no more room. Assumes nothing.
use Rattle.std.proofs.Common.{Result, Err}
use Rattle.heap.specs.declared.Refusal.{Refusal}
use Prim.Native.Nat.{ℕ, ◌+◌, ◌*◌, ◌≤◌, ◌<◌}
use mathlib.Core.Path.{◌≡◌, refl, sym, ◌∙◌}
use mathlib.Core.Bool.{Bool, false, true}
use mathlib.Core.List.{List, [], ◌∷◌}
use native.Mathlib.Omega.{arith}
use lib.Dec.{eqb}
use lib.ListN.{length, set}
use Rattle.heap_slots.specs.Limits.{SLOT_WORDS}
use Rattle.heap_slots.specs.Header.{header_at, with_scalar}
use Rattle.heap_slots.specs.declared.Scalars.{Scalars}
use Rattle.heap_slots.proofs.Cases.{by_cases, lt_or_le}
use Rattle.heap_cells.specs.Regions.{RawSlot, raw_at}
use Rattle.history.proofs.Facts.{eqb_no, eqb_yes, ltb_no, ltb_yes}
use Rattle.layout.specs.Layout.{Layout}
use Rattle.model.specs.Content.{Content}
use Rattle.model.specs.Calls.{Call, effect, store}
use Rattle.model.specs.Rules.{same_room}
use Rattle.model.specs.Replies.{no_memory, nothing}
use Rattle.model.specs.Model.{Model, view_of}
use Rattle.model.specs.Refusals.{inside, target}
use Rattle.model.specs.Terms.{terms, uncharged}
use Rattle.heap_cells.specs.Raw.{raw_cells, raw_words}
use Rattle.heap.proofs.GoodLaws.{good-kept}
use Rattle.heap.proofs.LocateLaws.{locates_so}
use Rattle.heap.specs.Answers.{accepted, done_is, seen_by}
use Rattle.heap.specs.Kinds.{content_of, room_of}
use Rattle.heap.specs.State.{State, model_of, more_of, raw_of, with_cells, with_scalars, with_slots}
use Rattle.heap.specs.Good.{Good, SlotGood}
use Rattle.heap.specs.Promise.{Performs}
use Rattle.heap.proofs.KindLaws.{Says}
use Rattle.heap.proofs.ReachLaws.{Target, located_at, scalars_fit, slot-fits}
use Rattle.heap.proofs.ReadLaws.{object-outside, object_passes, object_passes_inside, object-refused}
use Rattle.heap.proofs.TouchLaws.{Touched, touched_none}
use Rattle.heap.proofs.StepLaws.{own-cell, own-mode, own_scalar, own_value, raw-cell, raw-words, touched_cells, touched_scalars, touched_words}
use Rattle.heap.proofs.StoreLaws.{Stored, does_stored_free}
use Rattle.heap_access.specs.Objects.{OnObject, StoresWord, Write, write, write_word}
use Rattle.heap_access.proofs.ObjectLaws.{by_object}
use Rattle.heap_access.proofs.ReadingLaws.{WordsOf, words_count, words-within}

-- ---- one slot with other contents of the same length

-- value, mode and cells are others
abbrev pub raw_own : RawSlot → ℕ → ℕ → List ℕ → RawSlot
raw_own r value mode c = raw_cells (raw_words r value mode r.len) c

-- of a map and an iterator the invariant says more
pub record Simple (kind : ℕ) : Type 0 where
  pub no-map : kind ≡ 7 → ⊥
  pub no-iterator : kind ≡ 10 → ⊥

pub simple : (kind : ℕ) → eqb kind 7 ≡ false → eqb kind 10 ≡ false → Simple kind
simple kind a b = record { no-map = λ e. differs (sym (eqb_yes kind 7 e) ∙ a); no-iterator = λ e. differs (sym (eqb_yes kind 10 e) ∙ b) }
  where
    differs : true ≡ false → ⊥
    differs e = let z : ◌≡◌ {A = ℕ} 0 1 = cc in omega arith

module _ (r : RawSlot) (value mode : ℕ) (c : List ℕ) (s : Simple r.kind) where
  pub good-own : {x : Scalars} (y : Scalars) → SlotGood r x → y.f ≡ x.f → SlotGood (raw_own r value mode c) y
  good-own y g e = good-kept g refl g.half_low g.half_high (λ z. refl) refl refl e (λ z m. absurd (s.no-map z)) (λ z. absurd (s.no-iterator z))

  pub room-own : room_of (raw_own r value mode c) ≡ room_of r
  unfolding room_of
  room-own = rw (eqb_no r.kind 7 s.no-map)

-- from b to a one object is given other words; p says what that makes of the contents
module _ {b a : State} {w i kind : ℕ} {p : Content → Content} (g : Good b) (o : Target b w i kind) (s : Simple kind) (c : Touched b a i) where
  pub stored_own : (value mode : ℕ) (ws : List ℕ) (y : Scalars) → raw_of a i ≡ raw_own (raw_of b i) value mode ws → more_of a i ≡ y → y.f ≡ (more_of b i).f →
      content_of (raw_own (raw_of b i) value mode ws) y ≡ p (content_of (raw_of b i) (more_of b i)) → Stored b a i p same_room
  unfolding same_room
  stored_own value mode ws y e f n h =
      let t : Simple (raw_of b i).kind = rw o.kind-is s in
      record {
        touched = c;
        slot-good = rw (e, f) (good-own (raw_of b i) value mode ws t y (g.each i o.reached.within) n);
        content = rw (e, f) h;
        room = rw e (room-own (raw_of b i) value mode ws t);
      }

module _ {b : State} {w i kind : ℕ} {p : Content → Content} (g : Good b) (o : Target b w i kind) (s : Simple kind) (v : ℕ) where
  pub stored_value : content_of (raw_own (raw_of b i) v (raw_of b i).mode (raw_of b i).cells) (more_of b i) ≡ p (content_of (raw_of b i) (more_of b i)) →
      Stored b (with_slots b (set b.slots (i * SLOT_WORDS + 2) v)) i p same_room
  unfolding raw_at
  stored_value h =
      let own = own_value (slot-fits g o.reached).1 refl in
      stored_own g o s (touched_words (touched_none i g) own) v (raw_of b i).mode (raw_of b i).cells (more_of b i) (raw-words b.cells own) refl refl h

  pub stored_mode : content_of (raw_own (raw_of b i) (raw_of b i).value v (raw_of b i).cells) (more_of b i) ≡ p (content_of (raw_of b i) (more_of b i)) →
      Stored b (with_slots b (set b.slots (i * SLOT_WORDS + 3) v)) i p same_room
  unfolding raw_at
  stored_mode h =
      let own = own-mode (slot-fits g o.reached).1 refl in
      stored_own g o s (touched_words (touched_none i g) own) (raw_of b i).value v (raw_of b i).cells (more_of b i) (raw-words b.cells own) refl refl h

  pub stored_scalar : (k : ℕ) → k < SLOT_WORDS → (with_scalar (more_of b i) k v).f ≡ (more_of b i).f →
      content_of (raw_of b i) (with_scalar (more_of b i) k v) ≡ p (content_of (raw_of b i) (more_of b i)) → Stored b (with_scalars b (set b.scalars (i * SLOT_WORDS + k) v)) i p same_room
  stored_scalar k lk n h =
      let own = own_scalar (scalars_fit g o.reached).1 k v lk refl in
      stored_own g o s (touched_scalars (touched_none i g) own) (raw_of b i).value (raw_of b i).mode (raw_of b i).cells (with_scalar (more_of b i) k v) refl own.here n h

  pub stored_cell : (k : ℕ) → k < (header_at b.slots i).size → content_of (raw_own (raw_of b i) (raw_of b i).value (raw_of b i).mode (set (raw_of b i).cells k v)) (more_of b i) ≡ p (content_of (raw_of b i) (more_of b i)) →
      Stored b (with_cells b (set b.cells ((header_at b.slots i).start + k) v)) i p same_room
  stored_cell k lk h =
      stored_own g o s (touched_cells (touched_none i g) o.reached.within (own-cell (header_at b.slots i).start (header_at b.slots i).size k v lk refl))
      (raw_of b i).value (raw_of b i).mode (set (raw_of b i).cells k v) (more_of b i) (raw-cell b.slots b.cells i k v lk) refl refl h

-- ---- the object, or the refusal

-- the buffer `old` of b became `new`, which `put` puts in its place
module _ {b : State} {w kind : ℕ} {is : Content → Bool} (g : Good b) (s : Says is kind) (k : Call) (put : List ℕ → State) where
  pub stores-object : {old new : List ℕ} {here : ℕ → Write} {r : Result Unit Refusal} {rest : Layout → List ℕ} → put old ≡ b → OnObject b.slots b.heap.fresh w kind (λ q. write (Err q) old) here (write r new) →
      ((l : Layout) → (terms (model_of l b) k).refusals ≡ target (view_of (model_of l b)) is w ∷ rest l) → ((l : Layout) → (terms (model_of l b) k).lent_before ≡ no_memory) →
      ((i : ℕ) → Target b w i kind → Performs k b (done_is (here i).done) (put (here i).words)) → Performs k b (done_is r) (put new)
  unfolding seen_by
  stores-object {rest = rest} e d h x p =
      by_object (λ (y : Write). Performs k b (done_is y.done) (put y.words)) d
      (λ q z l. rw e (object-refused l g k {rest = rest l} (locates_so refl) z s (h l) (x l)))
      (λ i z. p i (located_at g (locates_so refl) z))

  -- a store that nothing but the object can refuse
  pub stores-free : {old new : List ℕ} {f : ℕ → List ℕ} {r : Result Unit Refusal} (p : Content → Content) → put old ≡ b → OnObject b.slots b.heap.fresh w kind (λ q. write (Err q) old) (λ i. write accepted (f i)) (write r new) →
      ((l : Layout) → effect (view_of (model_of l b)) k ≡ store w p) → ((l : Layout) → terms (model_of l b) k ≡ uncharged (target (view_of (model_of l b)) is w ∷ []) nothing) →
      ((ws : List ℕ) → (put ws).heap.account ≡ b.heap.account) → ((i : ℕ) → Target b w i kind → Stored b (put (f i)) i p same_room) → Performs k b (done_is r) (put new)
  unfolding seen_by uncharged
  stores-free {f = f} p e d y h n q =
      stores-object {rest = λ l. []} e d (λ l. rw (h l)) (λ l. rw (h l))
      (λ i o l. does_stored_free l g o.reached (q i o) k (y l) (rw (h l)) (n (f i)) (object_passes l g k o s (rw (h l))) (rw (h l)) (rw (h l)))

-- ---- a word in the cells

-- the rule of a store to word k of the first `len` cells of the objects of this kind
pub record WordRule (kind : ℕ) (put : ℕ → ℕ → Content → Content) : Type 0 where
  pub puts : (r : RawSlot) (x : Scalars) (k v : ℕ) → r.kind ≡ kind → k < r.len → content_of (raw_own r r.value r.mode (set r.cells k v)) x ≡ put k v (content_of r x)

module _ {b : State} {w i kind : ℕ} {is : Content → Bool} {ws : Model → ℕ → List ℕ} {put : ℕ → ℕ → Content → Content} (g : Good b) (o : Target b w i kind) (words : WordsOf kind is ws) (rule : WordRule kind put) (s : Simple kind) where
  pub stored_word : (p v : ℕ) → p < (header_at b.slots i).len → Stored b (with_cells b (set b.cells ((header_at b.slots i).start + p) v)) i (put p v) same_room
  unfolding raw_at
  stored_word p v l = stored_cell g o s v p (omega (arith, words-within g words o)) (rule.puts (raw_of b i) (more_of b i) p v o.kind-is l)

module _ {b : State} {w kind : ℕ} {is : Content → Bool} {ws : Model → ℕ → List ℕ} {put : ℕ → ℕ → Content → Content} (g : Good b) (words : WordsOf kind is ws) (rule : WordRule kind put) (s : Simple kind) (k : Call) where
  -- 3 outside
  pub word-store : (p v : ℕ) {r : Result Unit Refusal} {new : List ℕ} → StoresWord b.slots b.cells b.heap.fresh w kind p v r new → ((l : Layout) → effect (view_of (model_of l b)) k ≡ store w (put p v)) →
      ((l : Layout) → terms (model_of l b) k ≡ uncharged (target (view_of (model_of l b)) is w ∷ inside p (length (ws (model_of l b) w)) ∷ []) nothing) → Performs k b (done_is r) (with_cells b new)
  unfolding seen_by uncharged write_word
  word-store p v d e h =
      stores-object g words.says k (with_cells b) {rest = λ l. inside p (length (ws (model_of l b) w)) ∷ []} refl d (λ l. rw (h l)) (λ l. rw (h l))
      (λ i o l.
      let n = words_count g words o l in
      by_cases (lt_or_le p (header_at b.slots i).len)
      (λ lt.
      let below : p < length (ws (model_of l b) w) = omega arith in
      rw (ltb_yes p (header_at b.slots i).len lt)
      (does_stored_free l g o.reached (stored_word g o words rule s p v lt) k (e l) (rw (h l)) refl (object_passes_inside l g k o words.says (rw (h l)) below) (rw (h l)) (rw (h l))))
      (λ le.
      let past : length (ws (model_of l b) w) ≤ p = omega arith in
      rw (ltb_no p (header_at b.slots i).len le)
      (object-outside l g k o words.says (rw (h l)) past (rw (h l)))))
