-- An iterator's step. Assumes nothing.
use Rattle.std.proofs.Common.{Result, Ok, Err}
use Prim.Native.Nat.{ℕ, suc, ◌+◌, ◌≤◌, ◌<◌}
use mathlib.Core.Path.{◌≡◌, refl, ap, sym, ◌∙◌}
use mathlib.Core.Bool.{Bool, true, false, cond, ◌&&◌}
use mathlib.Core.List.{List, [], ◌∷◌}
use mathlib.Core.Option.{Option, none, some}
use native.Mathlib.Omega.{arith}
use native.Mathlib.Numerals.{add-one}
use lib.Dec.{leb}
use mir.Val.{bool_byte}
use Rattle.std.specs.Option.{is_some, unwrap_or}
use lib.ListN.{get_or, length, take}
use lib.Seq.{get_or-take, length-take-le}
use Rattle.heap_slots.specs.Header.{header_at, scalars_at, set_scalars, with_scalar}
use Rattle.heap_slots.specs.Limits.{HALF, HALF_END}
use Rattle.heap_slots.specs.Lookup.{Finds}
use Rattle.heap_slots.specs.declared.Miss.{Miss}
use Rattle.heap_slots.specs.declared.Miss.TheVariants as F
use Rattle.heap_slots.specs.declared.Header.{Header}
use Rattle.heap_slots.specs.Scalars.{iterator_part, map_part, scalars_of_iterator}
use Rattle.heap_slots.specs.declared.IteratorScalars.{IteratorScalars}
use Rattle.heap_slots.specs.declared.MapScalars.{MapScalars}
use Rattle.heap_slots.specs.declared.Scalars.{Scalars}
use Rattle.heap_cells.specs.Regions.{RawSlot, raw_at, region_of}
use Rattle.heap_cells.proofs.RawLaws.{region-get, region-length}
use Rattle.history.proofs.Facts.{eqb_no, eqb_yes, ltb_no, ltb_yes}
use Rattle.layout.specs.Layout.{Layout}
use Rattle.map_store.specs.Store as Maps
use Rattle.map_store.specs.View.{cursor_is, last_is, entry_answer, stored_entry, got_is, position, step_is, store_of}
use Rattle.std.specs.Prelude as Prelude
use Rattle.map_store.specs.declared.MapStore.{MapStore}
use Rattle.map_store.specs.declared.Stepped.{Stepped}
use Rattle.map_store.specs.declared.Stored.{Stored}
use Rattle.model.specs.Content as Content
use Rattle.model.specs.Content.{row}
use Rattle.model.specs.View.{View, look}
use Rattle.model.specs.Model.{view_of}
use Rattle.model.specs.Calls as Calls
use Rattle.model.specs.Calls.{effect}
use Rattle.model.specs.Replies.{perhaps}
use Rattle.model.specs.Terms.{terms, uncharged, visited}
use Rattle.model.specs.Rules.{advance, same_room, visit_array, visit_entry, visit_map, visit_next, visit_source}
use Rattle.model.specs.Rules as Rules
use Rattle.heap.proofs.GoodLaws.{good_as, holds_as}
use Rattle.heap.specs.declared.Refusal.{Refusal}
use Rattle.heap.specs.Answers.{seen_by}
use Rattle.heap.specs.Kinds.{content_of, cursor_of, yes}
use Rattle.heap.specs.Locating.{Locates}
use Rattle.heap.specs.State.{State, model_of, more_of, raw_of, with_scalars}
use Rattle.heap.specs.Good.{Good, SlotGood}
use Rattle.heap.specs.Promise.{Performs}
use Rattle.heap.proofs.KindLaws.{content-array, content-iterator, content-map, row_of_content, says_iterator}
use Rattle.heap.proofs.ReachLaws.{dead-look, found-reached, located_at, nil-look, reached-look, scalars_fit, wrong_look}
use Rattle.heap.proofs.ReadLaws.{object_passes, object-refused, reads_iterator}
use Rattle.heap.proofs.StepLaws.{own-scalars, touched_scalars}
use Rattle.heap.proofs.StoreLaws as StoreLaws
use Rattle.heap.proofs.StoreLaws.{does_stored_free}
use Rattle.heap.proofs.TouchLaws.{touched_none}
use Rattle.collections_growth.specs.Words.{ItemIs, MapKnown, map_from}
use Rattle.collections_growth.specs.Answers.{perhaps_is}
use Rattle.collections_iterators.specs.declared.Visit.{Visit}
use Rattle.collections_iterators.specs.Visits.{ArrayKnown, Ends, Moves, Visits, VisitsArray, VisitsMap, iterator_of, visit_is}
use Rattle.collections_growth.proofs.EntryLaws.{entry_beyond, entry-inside}

-- ---- the end, and a move

pub ends_so : (x : IteratorScalars) → Ends x record { next = iterator_part (with_scalar (scalars_of_iterator x) 0 1); item = Prelude.None }
unfolding Rules.ended
ends_so x = record { is = λ source keys. refl; epoch = refl }

abbrev moved_scalars : ℕ → ℕ → ℕ → ℕ → ℕ → IteratorScalars
moved_scalars key stepped last position epoch = record { ended = 0; keyed = 1; key = key; stepped = stepped; last = last; position = position; epoch = epoch }

moves_so : (key d e f g : ℕ) → g < 4294967296 → Moves (cursor_of (scalars_of_iterator (moved_scalars key d e f g))) key (moved_scalars key d e f g)
unfolding Rules.moved
moves_so key d e f g l = record { is = λ source keys w i a b. rw (a, b); epoch = l }

pub moves_to : (o : Prelude.Option ℕ) {key f g : ℕ} → g < 4294967296 → Moves record { last = last_is o; pos = f; epoch = g } key (moved_scalars key (bool_byte (is_some o)) (unwrap_or o 0) f g)
moves_to Prelude.None {key} {f} {g} l = moves_so key 0 0 f g l
moves_to (Prelude.Some e) {key} {f} {g} l = moves_so key 1 e f g l

-- ---- over an array

module _ {t : State} {h : Header} (k : ArrayKnown t h) where
  items-long : length (take h.len (region_of h t.cells)) ≡ h.len
  items-long = length-take-le h.len (region_of h t.cells) (omega (arith, k.items, region-length h t.cells k.region))

  pub array-ends : {x : IteratorScalars} {r : Visit} → h.len ≤ x.position → x.epoch < 4294967296 → Ends x r → VisitsArray t h x r
  unfolding visit_array
  array-ends {x} l g e = record { is = λ lay source keys. rw (items-long, ltb_no x.position h.len l) (e.is source keys); epoch = omega (arith, e.epoch) }

  pub array_visits : {x : IteratorScalars} {w : ℕ} {y : IteratorScalars} → x.position < h.len → ItemIs t h.mode (get_or t.cells (h.start + x.position) 0) w → Moves record { last = none; pos = x.position + 1; epoch = 0 } x.position y →
      VisitsArray t h x record { next = y; item = Prelude.Some w }
  unfolding visit_array
  array_visits {x} {w} {y} l v m = record {
    is = λ lay source keys.
        rw (items-long, ltb_yes x.position h.len l, get_or-take h.len (region_of h t.cells) x.position 0 l, region-get h t.cells x.position (omega (arith, k.items)), v.is lay, ← add-one x.position)
        (m.is source keys w (iterator_of source keys x) refl refl);
    epoch = m.epoch;
  }

-- ---- over a map

-- a position that a step finds is one of the places
first_below : (f : ℕ → Maps.Entry → Bool) (es : List Maps.Entry) (i : ℕ) {p : ℕ} → Maps.first_where f es i ≡ some p → p < i + length es
unfolding Maps.first_where
first_below f [] i e = absurd (let z : ◌≡◌ {A = ℕ} 0 1 = cc in omega arith)
first_below f (x ∷ xs) i {p} e = go (f i x) (λ z. first_below f xs (suc i) z) e
  where
    go : (b : Bool) → (Maps.first_where f xs (suc i) ≡ some p → p < suc i + length xs) → cond b (some i) (Maps.first_where f xs (suc i)) ≡ some p → p < i + suc (length xs)
    go true rest e = let z : i ≡ p = cc in omega arith
    go false rest e = let z = rest e in omega arith

answer_from : (s : Maps.Store) (c : Maps.Cursor) (p : ℕ) (o : Option ℕ) → (Maps.step_from s c p o).answer ≡ o
unfolding Maps.step_from
answer_from s c p none = refl
answer_from s c p (some q) = refl

next-inside : (s : Maps.Store) (c : Maps.Cursor) {p : ℕ} → (Maps.next_of s c).answer ≡ some p → p < Maps.places s
unfolding Maps.next_of
next-inside s c e =
    let p : ℕ = Maps.start_of c.last c.pos c.epoch s in
    let z = first_below (λ q x. leb p q && x.live) s.entries 0 (sym (answer_from s c p (Maps.live_from p s.entries 0)) ∙ e) in
    omega arith

module _ (t : State) (h : Header) (y : MapScalars) (x : IteratorScalars) {m : MapStore} {c : List ℕ} {u : Maps.Cursor} (n : Stepped) (em : m ≡ map_from h y) (ec : c ≡ region_of h t.cells) (eu : u ≡ cursor_of (scalars_of_iterator x))
    (st : step_is n ≡ Maps.next_of (store_of m c) u) where
  next-is : Maps.next_of (store_of (map_from h y) (region_of h t.cells)) (cursor_of (scalars_of_iterator x)) ≡ step_is n
  next-is = sym (st ∙ rw (em, ec, eu))

  pub map-ends : {r : Visit} → n.found ≡ Prelude.None → x.epoch < 4294967296 → Ends x r → VisitsMap t h y x r
  unfolding visit_map visit_entry
  map-ends e g z = record { is = λ l source keys. rw (next-is, e) (z.is source keys); epoch = omega (arith, z.epoch) }

  module _ {p : ℕ} (e : n.found ≡ Prelude.Some p) {c' : List ℕ} {r : Prelude.Option Stored} (ec' : c' ≡ region_of h t.cells) (er : got_is r ≡ entry_answer p (store_of m c')) where
    pub map_visits : {w : ℕ} {v : Stored} {z : IteratorScalars} → r ≡ Prelude.Some v → ItemIs t y.values v.value w → Moves (cursor_is n.cursor) v.key z → VisitsMap t h y x record { next = z; item = Prelude.Some w }
    unfolding visit_map visit_entry
    map_visits {w} {v} q i z = record {
      is = λ l source keys.
          let a = (entry-inside p (store_of m c') er q).1 in
          let b : Maps.entry_of (store_of (map_from h y) (region_of h t.cells)) p ≡ stored_entry v = rw (em, ec') at a in
          rw (next-is, e, b, i.is l) (z.is source keys w (iterator_of source keys x) refl refl);
      epoch = z.epoch;
    }

    -- a step finds none outside
    pub map-inside : r ≡ Prelude.None → ⊥
    map-inside q =
        let a = next-inside (store_of m c) u (ap (λ (s : Maps.Step). s.answer) (sym st) ∙ ap position e) in
        let b = entry_beyond p (store_of m c') er q in
        let d : c ≡ c' = ec ∙ sym ec' in
        let f = rw d at a in
        omega arith

-- ---- over what the source reaches

visit_going : {t : State} (source : ℕ) {x : IteratorScalars} {r : Visit} → ((l : Layout) (keys : ℕ) → visit_source (view_of (model_of l t)) (iterator_of source keys x) (look (view_of (model_of l t)) source) ≡ visit_is source keys r) →
    x.ended ≡ 0 → r.next.epoch < 4294967296 → Visits t source x r
unfolding visit_next
visit_going {t} source {x} h z g = record {
  is = λ l keys.
      let e : yes x.ended ≡ false = rw (eqb_yes x.ended 0 z) in
      ap (λ (b : Bool). cond b (Rules.ended (iterator_of source keys x)) (visit_source (view_of (model_of l t)) (iterator_of source keys x) (look (view_of (model_of l t)) source))) e ∙ h l keys;
  epoch = g;
}

-- a source that is neither array nor map
other-source : (v : View) (i : Content.Iterator) (c : Content.Content) → (row c ≡ 6 → ⊥) → (row c ≡ 7 → ⊥) → visit_source v i (some c) ≡ Rules.ended i
unfolding visit_source row
other-source v i (Content.string a) p q = refl
other-source v i (Content.integer a) p q = refl
other-source v i (Content.cell a) p q = refl
other-source v i (Content.error a) p q = refl
other-source v i (Content.box a) p q = refl
other-source v i (Content.array a) p q = absurd (p refl)
other-source v i (Content.map_object a) p q = absurd (q refl)
other-source v i (Content.struct a) p q = refl
other-source v i (Content.closure a) p q = refl
other-source v i (Content.iterator a) p q = refl
other-source v i (Content.coroutine a) p q = refl

-- it stays ended
pub visits_none : {t : State} {source : ℕ} {x : IteratorScalars} → (x.ended ≡ 0 → ⊥) → x.epoch < 4294967296 → Visits t source x record { next = x; item = Prelude.None }
unfolding visit_next Rules.ended
visits_none {x = x} z g = record { is = λ l keys. rw (eqb_no x.ended 0 z); epoch = g }

module _ {t : State} {source : ℕ} {f : Result ℕ Miss} (g : Good t) (d : Finds t.slots t.heap.fresh source f) {j : ℕ} {h : Header} (e : f ≡ Ok j) (eh : h ≡ header_at t.slots j) where
  pub source-array : h.kind ≡ 6 → ArrayKnown t h
  unfolding raw_at
  source-array k =
      let o = found-reached g d e in
      rw eh record { items = holds_as 6 (rw (← eh) k) (g.each j o.within); region = g.laid.inside j o.within; cells = g.laid.cells_max }

  pub source-map : {y : MapScalars} → h.kind ≡ 7 → y ≡ map_part (scalars_at t.scalars j) → MapKnown t.cells h y
  unfolding raw_at
  source-map k ey =
      let o = found-reached g d e in
      let s = holds_as 7 (rw (← eh) k) (g.each j o.within) in
      rw (eh, ey) record { good = s.0; region = g.laid.inside j o.within; epoch = s.2 }

-- a source that reaches nothing
nowhere : {t : State} {source : ℕ} {f : Result ℕ Miss} → Good t → Finds t.slots t.heap.fresh source f → (m : Miss) → f ≡ Err m → (l : Layout) → look (view_of (model_of l t)) source ≡ none
nowhere g d F.Nil e l = nil-look l g d e
nowhere g d F.Dead e l = dead-look l g d e
nowhere g d F.Wrong e l = wrong_look l g d e

module _ {t : State} {source : ℕ} {x : IteratorScalars} {f : Result ℕ Miss} (g : Good t) (d : Finds t.slots t.heap.fresh source f) (z : x.ended ≡ 0) where
  -- a source that is nowhere
  visits_nowhere : {r : Visit} → ((l : Layout) → look (view_of (model_of l t)) source ≡ none) → x.epoch < 4294967296 → Ends x r → Visits t source x r
  unfolding visit_source
  visits_nowhere e u s = visit_going source (λ l keys. rw (e l) (s.is source keys)) z (omega (arith, s.epoch))

  pub visits_missed : {m : Miss} {r : Visit} → f ≡ Err m → x.epoch < 4294967296 → Ends x r → Visits t source x r
  visits_missed {m} e = visits_nowhere (nowhere g d m e)

  module _ {j : ℕ} {h : Header} (e : f ≡ Ok j) (eh : h ≡ header_at t.slots j) where
    pub visits_array : {r : Visit} → h.kind ≡ 6 → VisitsArray t h x r → Visits t source x r
    unfolding visit_source raw_at
    visits_array k v =
        let o = found-reached g d e in
        visit_going source (λ l keys. rw (reached-look o l, content-array (raw_of t j) (more_of t j) (rw (← eh) k)) (rw (← eh) (v.is l source keys))) z v.epoch

    pub visits_map : {y : MapScalars} {r : Visit} → h.kind ≡ 7 → y ≡ map_part (scalars_at t.scalars j) → VisitsMap t h y x r → Visits t source x r
    unfolding visit_source raw_at
    visits_map k ey v =
        let o = found-reached g d e in
        visit_going source (λ l keys. rw (reached-look o l, content-map (raw_of t j) (more_of t j) (rw (← eh) k)) (rw (eh, ey) at (v.is l source keys))) z v.epoch

    pub visits_else : {r : Visit} → (h.kind ≡ 6 → ⊥) → (h.kind ≡ 7 → ⊥) → x.epoch < 4294967296 → Ends x r → Visits t source x r
    unfolding raw_at
    visits_else a b u s =
        let o = found-reached g d e in
        let k = (g.each j o.within).kind in
        visit_going source
        (λ l keys.
        rw (reached-look o l)
        (other-source (view_of (model_of l t)) (iterator_of source keys x) (content_of (raw_of t j) (more_of t j))
        (λ q. a (rw eh (sym (row_of_content (raw_of t j) (more_of t j) (omega (arith, o.present)) k) ∙ q)))
        (λ q. b (rw eh (sym (row_of_content (raw_of t j) (more_of t j) (omega (arith, o.present)) k) ∙ q)))
        ∙ s.is source keys))
        z (omega (arith, s.epoch))

-- ---- the step of an iterator that is located

-- a slot of kind 10
pub iterator-good : {r : RawSlot} {x : Scalars} → HALF ≤ r.half → r.half < HALF_END → r.kind ≡ 10 → r.size ≡ 0 → (iterator_part x).epoch < 4294967296 → SlotGood r x
iterator-good lo hi k s u = good_as 10 k (omega arith) lo hi (s, u)

module _ {t : State} {w i : ℕ} {a : Result ℕ Refusal} {h : Header} {x : IteratorScalars} (g : Good t) (d : Locates t.slots t.heap.fresh w 10 a) (e : a ≡ Ok i) (eh : h ≡ header_at t.slots i) (ex : x ≡ iterator_part (scalars_at t.scalars i))
    {r : Visit} {y : Scalars} {x' : List ℕ} (v : Visits t h.value x r) (ey : y ≡ scalars_of_iterator r.next) (ew : x' ≡ set_scalars t.scalars i y) where
  step-visit : (l : Layout) → visit_next (view_of (model_of l t)) (iterator_of (raw_of t i).value (raw_of t i).mode (iterator_part (more_of t i))) ≡ visit_is (raw_of t i).value (raw_of t i).mode r
  unfolding raw_at
  step-visit l = rw (eh, ex) at (v.is l h.mode)

  step_stored : (l : Layout) → StoreLaws.Stored t (with_scalars t x') i (advance (view_of (model_of l t))) same_room
  unfolding advance same_room
  step_stored l =
      let o = located_at g d e in
      let u = own-scalars {x = t.scalars} {x' = x'} {i = i} (scalars_fit g o.reached).1 {y = y} ew in
      let after : more_of (with_scalars t x') i ≡ scalars_of_iterator r.next = u.here ∙ ey in
      record {
        touched = touched_scalars (touched_none i g) u;
        slot-good = (let z = g.each i o.reached.within in rw after (iterator-good z.half_low z.half_high o.kind-is (holds_as 10 o.kind-is z).0 v.epoch));
        content =
            rw after
            (content-iterator (raw_of t i) (scalars_of_iterator r.next) o.kind-is
            ∙ rw (content-iterator (raw_of t i) (more_of t i) o.kind-is) (ap (λ (z : Rules.Visit). Content.iterator z.next) (sym (step-visit l))));
        room = refl;
      }

  visited-is : (l : Layout) → visited (model_of l t) w ≡ position r.item
  unfolding visited
  visited-is l =
      reads_iterator l none (λ z. (visit_next (view_of (model_of l t)) z).item) (located_at g d e) ∙ ap (λ (z : Rules.Visit). z.item) (step-visit l)

  pub next-does : Performs (Calls.iter_next w) t (perhaps_is (Ok r.item)) (with_scalars t x')
  unfolding terms effect uncharged seen_by
  next-does l =
      does_stored_free l g (located_at g d e).reached (step_stored l) (Calls.iter_next w) refl refl refl (object_passes l g (Calls.iter_next w) (located_at g d e) says_iterator refl) refl (ap perhaps (visited-is l))

pub next-refused : {t : State} {w : ℕ} {a : Result ℕ Refusal} {q : Refusal} → Good t → Locates t.slots t.heap.fresh w 10 a → a ≡ Err q → Performs (Calls.iter_next w) t (perhaps_is (Err q)) t
unfolding terms effect uncharged seen_by
next-refused {w = w} g d e l = object-refused l g (Calls.iter_next w) {rest = []} d e says_iterator refl refl
