-- Readings of an iterator. Assumes nothing.
use Rattle.std.proofs.Common.{Result, Ok, Err}
use Rattle.std.specs.Result.{IsErrAnd, result_map_both}
use Rattle.std.proofs.lemmas.Result.{err_from_is_err_and}
use Prim.Native.Nat.{ℕ, ◌<◌}
use mathlib.Core.Path.{◌≡◌, refl, ap, sym, ◌∙◌}
use mathlib.Core.Bool.{false, cond}
use mathlib.Core.Option.{Option, none, some}
use native.Mathlib.Omega.{arith}
use lib.Dec.{eqb}
use Rattle.heap_slots.specs.Header.{header_at, scalars_at}
use Rattle.heap_slots.specs.Limits.{HasSlot}
use Rattle.heap_slots.specs.Lookup.{hit_first}
use Rattle.heap_slots.specs.declared.Header.{Header}
use Rattle.heap_slots.specs.Scalars.{iterator_part, scalars_of_iterator}
use Rattle.heap_slots.specs.declared.IteratorScalars.{IteratorScalars}
use Rattle.heap_cells.specs.Regions.{raw_at}
use Rattle.history.proofs.Facts.{eqb_no, eqb_yes}
use Rattle.layout.specs.Layout.{Layout}
use Rattle.model.specs.Calls as Calls
use Rattle.model.specs.Calls.{Call, effect}
use Rattle.model.specs.Content.{Content, Iterator, array, box, cell, closure, coroutine, error, integer, iterator, map_object, row, string, struct}
use Rattle.model.specs.View.{look}
use Rattle.model.specs.Replies.{Answer, Reply, array_cursor, map_cursor, nothing, number, perhaps, reply, truth}
use Rattle.model.specs.Model.{view_of}
use Rattle.model.specs.Terms.{an_iterator, cursor_reply, last_key, read_or, terms, uncharged}
use Rattle.heap.proofs.GoodLaws.{holds_as}
use Rattle.heap.specs.declared.Refusal.{Refusal}
use Rattle.heap.specs.Answers.{seen_by}
use Rattle.collections_iterators.specs.Answers.{cursor_answer, cursor_seen}
use Rattle.collections_iterators.specs.Reading.{IteratorAt, iterator_in}
use Rattle.collections_iterators.specs.declared.IteratorRead.{IteratorRead}
use Rattle.collections_iterators.specs.declared.CursorAt.TheVariants as C
use Rattle.map_store.specs.View as View
use Rattle.map_store.specs.declared.Cursor.{Cursor}
use Rattle.heap.specs.Kinds.{cursor_of, yes}
use Rattle.heap.specs.Kinds as Kinds
use Rattle.heap.specs.Locating.{Locates, Ranks, located_in, row_by}
use Rattle.heap.specs.State.{State, model_of}
use Rattle.heap.specs.Good.{Good}
use Rattle.heap.specs.Promise.{Reads}
use Rattle.heap.proofs.CallLaws.{row-array, row_read}
use Rattle.heap.proofs.KindLaws.{says_iterator}
use Rattle.heap.proofs.LocateLaws.{locates_so}
use Rattle.heap.proofs.ReachLaws.{Target, located_at, scalars_fit}
use Rattle.heap.proofs.ReadLaws.{reads_iterator}
use Rattle.collections_growth.proofs.ReadingLaws.{Row, row-answered, row-refused}

-- ---- an iterator that is located

-- its cursor, by the row of what it goes over
cursor-reply : (x : Iterator) (o : Option Content) → cursor_reply x o ≡ cond (eqb (read_or 0 row o) 6) (array_cursor x.cursor.pos) (map_cursor x.cursor)
unfolding cursor_reply read_or row
cursor-reply x none = refl
cursor-reply x (some (string a)) = refl
cursor-reply x (some (integer a)) = refl
cursor-reply x (some (cell a)) = refl
cursor-reply x (some (error a)) = refl
cursor-reply x (some (box a)) = refl
cursor-reply x (some (array a)) = refl
cursor-reply x (some (map_object a)) = refl
cursor-reply x (some (struct a)) = refl
cursor-reply x (some (closure a)) = refl
cursor-reply x (some (iterator a)) = refl
cursor-reply x (some (coroutine a)) = refl

-- the same, of the record and the buffers
abbrev pub cursor-shown : State → IteratorRead → Reply
cursor-shown t m = cond (eqb (row_by t.slots (hit_first t.slots t.heap.fresh m.header.value)) 6) (array_cursor m.scalars.position) (map_cursor (cursor_of (scalars_of_iterator m.scalars)))

module _ {t : State} {w i : ℕ} {r : Result ℕ Refusal} (g : Good t) (d : Locates t.slots t.heap.fresh w 10 r) (e : r ≡ Ok i) where
  pub iterator-scalars-fit : HasSlot t.scalars i
  iterator-scalars-fit = scalars_fit g (located_at g d e).reached

  pub cursor-fits : {x : IteratorScalars} → x ≡ iterator_part (scalars_at t.scalars i) → x.epoch < 4294967296
  cursor-fits p = let o = located_at g d e in rw p (holds_as 10 o.kind-is (g.each i o.reached.within)).1

-- ---- the iterator that w reaches, or the refusal

module _ {t : State} {w : ℕ} {r : Result ℕ Refusal} (d : Locates t.slots t.heap.fresh w 10 r) where
  pub iterator-found : {i : ℕ} {h : Header} {x : IteratorScalars} → r ≡ Ok i → h ≡ header_at t.slots i → x ≡ iterator_part (scalars_at t.scalars i) → IteratorAt t w (Ok record { header = h; scalars = x })
  iterator-found e a b = record { is = rw (sym d.is ∙ e, a, b) }

  -- where `?` passes the refusal on
  pub iterator-missed : {q : Refusal} {x : Result IteratorRead Refusal} → r ≡ Err q → IsErrAnd x (λ e. e ≡ q) → IteratorAt t w x
  iterator-missed {x = x} e h = let p = err_from_is_err_and x h in rw (p.1, p.2) record { is = rw (sym d.is ∙ e) }

module _ {t : State} {w : ℕ} {x : Result IteratorRead Refusal} (g : Good t) (d : IteratorAt t w x) where
  -- what is said of it, where that is what the call answers
  iterator-read : {k : Call} (says : IteratorRead → Reply) → Row t k an_iterator w → ((l : Layout) (i : ℕ) → Target t w i 10 → (terms (model_of l t) k).answer ≡ says (iterator_in t i)) → Reads k t (seen_by (λ m. reply (says m)) x)
  iterator-read {k = k} says row h = rw d.is (go (located_in t.slots t.heap.fresh w 10) refl)
    where
      go : (z : Result ℕ Refusal) → located_in t.slots t.heap.fresh w 10 ≡ z → Reads k t (seen_by (λ m. reply (says m)) (result_map_both (iterator_in t) (λ q. q) z))
      go (Ok i) e = unfold seen_by in (let o = located_at g (locates_so refl) e in row-answered g row says_iterator o (λ l. h l i o))
      go (Err q) e = unfold seen_by in row-refused g row says_iterator (locates_so refl) e

  pub iterator-epoch : {m : IteratorRead} → x ≡ Ok m → m.scalars.epoch < 4294967296
  iterator-epoch {m} e = go (located_in t.slots t.heap.fresh w 10) refl (sym d.is ∙ e)
    where
      go : (z : Result ℕ Refusal) → located_in t.slots t.heap.fresh w 10 ≡ z → result_map_both (iterator_in t) (λ (q : Refusal). q) z ≡ Ok m → m.scalars.epoch < 4294967296
      go (Ok i) p y = let s : iterator_in t i ≡ m = (cc) in rw (← s) (cursor-fits g (locates_so refl) p refl)
      go (Err q) p y = absurd (let z : ◌≡◌ {A = ℕ} 0 1 = cc in omega arith)

  pub source_read : Reads (Calls.iter_source w) t (seen_by (λ m. reply (number m.header.value)) x)
  unfolding terms effect uncharged raw_at
  source_read = iterator-read (λ m. number m.header.value) record { effect_is = λ l. refl; terms_are = λ l. refl } (λ l i o. ap number (reads_iterator l 0 (λ y. y.source) o))

  pub keys_read : Reads (Calls.iter_key_type w) t (seen_by (λ m. reply (number m.header.mode)) x)
  unfolding terms effect uncharged raw_at
  keys_read = iterator-read (λ m. number m.header.mode) record { effect_is = λ l. refl; terms_are = λ l. refl } (λ l i o. ap number (reads_iterator l 0 (λ y. y.key_type) o))

  pub ended_read : Reads (Calls.iter_ended w) t (seen_by (λ m. reply (truth (yes m.scalars.ended))) x)
  unfolding terms effect uncharged
  ended_read = iterator-read (λ m. truth (yes m.scalars.ended)) record { effect_is = λ l. refl; terms_are = λ l. refl } (λ l i o. ap truth (reads_iterator l false (λ y. y.ended) o))

  pub key_read : Reads (Calls.iter_key w) t (seen_by (λ m. reply (perhaps (Kinds.perhaps m.scalars.keyed m.scalars.key))) x)
  unfolding terms effect uncharged last_key
  key_read = iterator-read (λ m. perhaps (Kinds.perhaps m.scalars.keyed m.scalars.key)) record { effect_is = λ l. refl; terms_are = λ l. refl } (λ l i o. ap perhaps (reads_iterator l none (λ y. y.key) o))

  pub cursor_read : Reads (Calls.iter_cursor w) t (seen_by (λ m. reply (cursor-shown t m)) x)
  unfolding terms effect uncharged raw_at
  cursor_read =
      iterator-read (cursor-shown t) record { effect_is = λ l. refl; terms_are = λ l. refl }
      (λ l i o.
      let h = header_at t.slots i in
      let k : Ranks t.slots t.heap.fresh h.value (row_by t.slots (hit_first t.slots t.heap.fresh h.value)) = record { is = refl } in
      reads_iterator l nothing (λ y. cursor_reply y (look (view_of (model_of l t)) y.source)) o
      ∙ (cursor-reply _ (look (view_of (model_of l t)) h.value) ∙ rw (← row-array (view_of (model_of l t)) h.value, row_read l g k)))

-- ---- the exits of a call that shows what another found

module _ {t : State} {k : Call} {B C : Type 0} (f : B → Answer) (says : C → Answer) {x : Result B Refusal} (d : Reads k t (seen_by f x)) where
  pub shown-ok : {b : B} {c : C} → x ≡ Ok b → says c ≡ f b → Reads k t (seen_by says (Ok c))
  unfolding seen_by
  shown-ok e p = rw p (rw e at d)

  -- where `?` passes the refusal on
  pub passed-on : {q : Refusal} (r : Result C Refusal) → x ≡ Err q → IsErrAnd r (λ e. e ≡ q) → Reads k t (seen_by says r)
  unfolding seen_by
  passed-on r e h = let p = err_from_is_err_and r h in rw (p.1, p.2) (rw e at d)

-- ---- a key or none, the cursor by the row of the source

pub none-shown : {n : ℕ} (k : ℕ) → n ≡ 0 → ◌≡◌ {A = Answer} (reply (perhaps none)) (reply (perhaps (Kinds.perhaps n k)))
none-shown {n} k z = rw (eqb_yes n 0 z)

pub some-shown : {n k : ℕ} → (n ≡ 0 → ⊥) → ◌≡◌ {A = Answer} (reply (perhaps (some k))) (reply (perhaps (Kinds.perhaps n k)))
some-shown {n} z = rw (eqb_no n 0 z)

module _ {t : State} {w n : ℕ} {x : Result IteratorRead Refusal} {m : IteratorRead} (g : Good t) (d : IteratorAt t w x) (e : x ≡ Ok m) (k : Ranks t.slots t.heap.fresh m.header.value n) where
  pub cursor-index : n ≡ 6 → Reads (Calls.iter_cursor w) t (cursor_seen (Ok (C.Index m.scalars.position)))
  unfolding cursor_answer
  cursor-index z = shown-ok (λ p. reply (cursor-shown t p)) cursor_answer (cursor_read g d) e (rw (← k.is, eqb_yes n 6 z))

  pub cursor-map : (c : Cursor) → (n ≡ 6 → ⊥) → View.cursor_is c ≡ cursor_of (scalars_of_iterator m.scalars) → Reads (Calls.iter_cursor w) t (cursor_seen (Ok (C.Map c)))
  unfolding cursor_answer
  cursor-map c z y = shown-ok (λ p. reply (cursor-shown t p)) cursor_answer (cursor_read g d) e (rw (← k.is, eqb_no n 6 z, y))
