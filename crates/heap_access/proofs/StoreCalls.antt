-- The promises of the stores, a law for each call. Assumes nothing.
use Rattle.std.proofs.Common.{Result, Ok, Err}
use Rattle.std.specs.Result.{IsErrAnd}
use Rattle.std.proofs.lemmas.Result.{err_from_is_err_and}
use Prim.Native.Nat.{ℕ, ◌+◌, ◌*◌, ◌≤◌, ◌<◌}
use mathlib.Core.Path.{◌≡◌, refl, sym, ◌∙◌}
use mathlib.Core.Bool.{Bool, false, true}
use mathlib.Core.List.{List, [], ◌∷◌}
use native.Mathlib.Omega.{arith}
use lib.ListN.{set}
use Rattle.heap_slots.specs.Limits.{SLOT_WORDS}
use Rattle.account.specs.Account.{charged, fits}
use Rattle.heap_slots.specs.Header.{header_at}
use Rattle.heap_slots.specs.declared.Header.{Header}
use Rattle.heap_cells.specs.Regions.{raw_at}
use Rattle.history.proofs.Facts.{leb_no, leb_yes}
use Rattle.model.specs.Calls.{effect}
use Rattle.model.specs.Rules.{Part, put_box, put_cell, put_item, put_part, same_room}
use Rattle.model.specs.Model.{view_of}
use Rattle.model.specs.Refusals.{state_4, target, unless}
use Rattle.model.specs.Terms.{a_coroutine, charging, terms, uncharged}
use Rattle.model.specs.Calls as Calls
use Rattle.heap.specs.Answers.{accepted, done_is, number_of, seen_by}
use Rattle.heap.specs.State.{State, model_of, more_of, raw_of, with_cells, with_scalars, with_slots}
use Rattle.heap.specs.Good.{Good}
use Rattle.heap.specs.Promise.{Performs}
use Rattle.heap.specs.Locating.{Locates}
use Rattle.heap.specs.declared.Refusal.{Refusal}
use Rattle.heap.specs.declared.Refusal.TheVariants as No
use Rattle.heap.proofs.KindLaws.{says_array, says_box, says_cell, says_coroutine, words-length}
use Rattle.heap.proofs.ReachLaws.{located_at, located_refused, target_met}
use Rattle.heap.proofs.ReadLaws.{object_passes, object-refused}
use Rattle.heap.proofs.TouchLaws.{touched_none}
use Rattle.heap.proofs.StoreLaws.{Stored, does_stored_charged, does_stored_free}
use Rattle.heap.proofs.SlotLaws.{raw-length}
use Rattle.heap.proofs.DoesLaws.{does_5, does-own, first_none, first_passes, first_refuses}
use Rattle.heap.proofs.LocateLaws.{locates_so}
use Rattle.heap_access.specs.Objects.{StoresHeader, StoresScalar, StoresWord, Write}
use Rattle.heap_access.proofs.ObjectLaws.{by_object}
use Rattle.heap_access.proofs.ReadingLaws.{capture-words, field-words, item-words, register-words, words-within}
use Rattle.heap_access.proofs.ReadCalls.{place}
use Rattle.heap_access.proofs.RuleLaws.{box-put, capture_rule, cell-put, field_rule, item_out, item_rule, part-frames, part-put, place-max, register_rule, state-put}
use Rattle.heap_access.proofs.StoringLaws.{simple, stored_mode, stored_own, stored_scalar, stored_value, stored_word, stores-free, word-store}

-- ---- one word

module _ {b : State} {w v : ℕ} {r : Result Unit Refusal} {new : List ℕ} (g : Good b) where
  pub box-store : StoresHeader b.slots b.heap.fresh w 5 2 v r new → Performs (Calls.store_box w v) b (done_is r) (with_slots b new)
  unfolding terms effect
  box-store d =
      stores-free g says_box (Calls.store_box w v) (with_slots b) (put_box v) refl d (λ l. refl) (λ l. refl) (λ ws. refl) (λ i o. stored_value g o (simple 5 refl refl) v (box-put (raw_of b i) (more_of b i) v o.kind-is))

  pub cell-store : StoresHeader b.slots b.heap.fresh w 3 2 v r new → Performs (Calls.store_cell w v) b (done_is r) (with_slots b new)
  unfolding terms effect
  cell-store d =
      stores-free g says_cell (Calls.store_cell w v) (with_slots b) (put_cell v) refl d (λ l. refl) (λ l. refl) (λ ws. refl) (λ i o. stored_value g o (simple 3 refl refl) v (cell-put (raw_of b i) (more_of b i) v o.kind-is))

  pub part-store : (p : Part) → StoresScalar b.slots b.scalars b.heap.fresh w (place p) v r new → Performs (Calls.store_part w p v) b (done_is r) (with_scalars b new)
  unfolding terms effect
  part-store p d =
      stores-free g says_coroutine (Calls.store_part w p v) (with_scalars b) (put_part p v) refl d (λ l. refl) (λ l. refl) (λ ws. refl)
      (λ i o. stored_scalar g o (simple 11 refl refl) v (place p) (place-max p) (part-frames (more_of b i) v p) (part-put (raw_of b i) (more_of b i) v p o.kind-is))

module _ {b : State} {w : ℕ} (p v : ℕ) {r : Result Unit Refusal} {new : List ℕ} (g : Good b) where
  pub field-store : StoresWord b.slots b.cells b.heap.fresh w 8 p v r new → Performs (Calls.store_field w p v) b (done_is r) (with_cells b new)
  unfolding terms effect
  field-store d = word-store g field-words field_rule (simple 8 refl refl) (Calls.store_field w p v) p v d (λ l. refl) (λ l. refl)

  pub capture-store : StoresWord b.slots b.cells b.heap.fresh w 9 p v r new → Performs (Calls.store_capture w p v) b (done_is r) (with_cells b new)
  unfolding terms effect
  capture-store d = word-store g capture-words capture_rule (simple 9 refl refl) (Calls.store_capture w p v) p v d (λ l. refl) (λ l. refl)

  pub register-store : StoresWord b.slots b.cells b.heap.fresh w 11 p v r new → Performs (Calls.store_register w p v) b (done_is r) (with_cells b new)
  unfolding terms effect
  register-store d = word-store g register-words register_rule (simple 11 refl refl) (Calls.store_register w p v) p v d (λ l. refl) (λ l. refl)

-- ---- a coroutine's state

state_passes : (v : ℕ) → v ≤ 4 → state_4 v ≡ 0
unfolding unless
state_passes v z = rw (leb_yes v 4 z)

module _ {b : State} {w : ℕ} (v : ℕ) (g : Good b) where
  pub state_bad : 4 < v → Performs (Calls.set_state w v) b (done_is (Err No.BadType)) b
  unfolding terms uncharged unless number_of seen_by
  state_bad z l = does-own l g (Calls.set_state w v) No.BadType refl (first_refuses (target (view_of (model_of l b)) a_coroutine w ∷ []) No.BadType (rw (leb_no v 4 z)))

  module _ {r : Result ℕ Refusal} (z : v ≤ 4) (d : Locates b.slots b.heap.fresh w 11 r) where
    state-refused : {q : Refusal} → r ≡ Err q → Performs (Calls.set_state w v) b (done_is (Err q)) b
    unfolding terms uncharged seen_by
    state-refused {q} e l =
        does-own l g (Calls.set_state w v) q refl
        (first_passes (target (view_of (model_of l b)) a_coroutine w ∷ []) (state_passes v z) ∙ first_refuses [] q (located_refused g d e l says_coroutine))

    state-set : {i : ℕ} → r ≡ Ok i → Performs (Calls.set_state w v) b (done_is accepted) (with_slots b (set b.slots (i * SLOT_WORDS + 3) v))
    unfolding terms uncharged effect seen_by
    state-set {i} e l =
        let o = located_at g d e in
        does_stored_free l g o.reached (stored_mode g o (simple 11 refl refl) v (state-put (raw_of b i) (more_of b i) v o.kind-is)) (Calls.set_state w v) refl refl refl
        (first_passes (target (view_of (model_of l b)) a_coroutine w ∷ []) (state_passes v z) ∙ first_passes [] (target_met l g o says_coroutine) ∙ first_none) refl refl

  pub state_store : {r : Result Unit Refusal} {new : List ℕ} → v ≤ 4 → StoresHeader b.slots b.heap.fresh w 11 3 v r new → Performs (Calls.set_state w v) b (done_is r) (with_slots b new)
  state_store z d =
      by_object (λ (y : Write). Performs (Calls.set_state w v) b (done_is y.done) (with_slots b y.words)) d
      (λ q e. state-refused z (locates_so refl) e)
      (λ i e. state-set z (locates_so refl) e)

-- ---- an item

-- no array there
pub item_lost : {b : State} {w : ℕ} {r : Result ℕ Refusal} {q : Refusal} (p v : ℕ) (x : Result Unit Refusal) → Good b → Locates b.slots b.heap.fresh w 6 r → r ≡ Err q → IsErrAnd x (λ e. e ≡ q) → Performs (Calls.store_item w p v) b (done_is x) b
unfolding terms charging seen_by
item_lost p v x g d e h =
    let f = err_from_is_err_and x h in
    rw (f.1, f.2) (λ l. object-refused l g (Calls.store_item _ p v) d e says_array refl refl)

module _ {b : State} {w i : ℕ} {r : Result ℕ Refusal} (p v : ℕ) (g : Good b) (d : Locates b.slots b.heap.fresh w 6 r) (e : r ≡ Ok i) where
  -- "array store, push, pop and an overwriting put meet 5 where used exceeds limit"
  pub item-over : {ok : Bool} → ok ≡ fits b.heap.account 0 → ok ≡ false → Performs (Calls.store_item w p v) b (done_is (Err No.OverBudget)) b
  unfolding terms charging seen_by
  item-over f z l = does_5 l g (Calls.store_item w p v) (object_passes l g (Calls.store_item w p v) (located_at g d e) says_array refl) refl (sym f ∙ z) refl

  module _ {ok : Bool} {h : Header} (f : ok ≡ fits b.heap.account 0) (z : ok ≡ true) (same : b.heap.account ≡ charged b.heap.account 0)
      (q : h ≡ header_at b.slots i) where
    item-done : (ws : List ℕ) → Stored b (with_cells b ws) i (put_item p v) same_room → Performs (Calls.store_item w p v) b (done_is accepted) (with_cells b ws)
    unfolding terms charging effect seen_by
    item-done ws s l =
        let o = located_at g d e in
        does_stored_charged l g o.reached s (Calls.store_item w p v) refl refl (sym f ∙ z) same
        (object_passes l g (Calls.store_item w p v) o says_array refl) refl refl

    pub item_stored : p < h.len → Performs (Calls.store_item w p v) b (done_is accepted) (with_cells b (set b.cells (h.start + p) v))
    item_stored l = rw q (item-done (set b.cells ((header_at b.slots i).start + p) v) (stored_word g (located_at g d e) item-words item_rule (simple 6 refl refl) p v (rw q at l)))

    pub item-outside : h.len ≤ p → Performs (Calls.store_item w p v) b (done_is accepted) b
    unfolding raw_at
    item-outside l =
        let o = located_at g d e in
        let len : (header_at b.slots i).len ≤ p = rw q at l in
        let n = words-length (raw_of b i) (more_of b i) (g.each i o.reached.within) (raw-length g.laid i o.reached.within) (words-within g item-words o) in
        item-done b.cells
        (stored_own g o (simple 6 refl refl) (touched_none i g) (raw_of b i).value (raw_of b i).mode (raw_of b i).cells (more_of b i) refl refl refl
        (item_out (raw_of b i) (more_of b i) p v o.kind-is (omega arith)))
