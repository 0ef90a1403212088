-- The calls that add an entry: 9, 5, 7, or the entry. Assumes nothing.
use Rattle.std.proofs.Common.{Result, Ok, Err}
use Prim.Native.Nat.{ℕ, ◌-◌, ◌≤◌, ◌<◌}
use mathlib.Core.Path.{◌≡◌, refl, ap, sym, ◌∙◌}
use mathlib.Core.Bool.{Bool, true, false}
use mathlib.Core.List.{List, [], ◌∷◌}
use mathlib.Core.Option.{Option, none, some}
use native.Mathlib.Omega.{arith}
use lib.ListN.{length}
use Rattle.account.specs.declared.Account.{Account}
use Rattle.account.specs.Account.{charged, fits}
use Rattle.heap_slots.specs.Header.{header_at}
use Rattle.heap_slots.specs.declared.Header.{Header}
use Rattle.heap_slots.specs.declared.Scalars.{Scalars}
use Rattle.heap_cells.specs.Regions.{raw_at, region_of}
use Rattle.history.proofs.Facts.{ltb_no, ltb_yes}
use Rattle.history.proofs.Judging.{fits_so}
use Rattle.history.proofs.Lift.{Seen}
use Rattle.layout.specs.Layout.{Layout, is_traced}
use Rattle.map_store.specs.Store as Maps
use Rattle.map_store.specs.Map as Map
use Rattle.map_store.specs.View.{position, store_of}
use Rattle.map_store.specs.View as View
use Rattle.std.specs.Prelude as Prelude
use Rattle.map_store.specs.declared.MapStore.{MapStore}
use Rattle.model.specs.Calls as Calls
use Rattle.model.specs.Calls.{Call, effect}
use Rattle.model.specs.Content.{cells_of, map_object}
use Rattle.model.specs.Model.{view_of}
use Rattle.model.specs.Replies.{nothing}
use Rattle.model.specs.Refusals.{first, slotless, target, unless}
use Rattle.model.specs.Rules.{if_found, insert_room, map_room, on_map, put_room, same_room}
use Rattle.model.specs.Terms.{a_map, charging, growth, key_traced, map_store, put_terms, spent, terms}
use Rattle.heap.specs.declared.Heap.{Heap}
use Rattle.heap.specs.declared.Refusal.{Refusal}
use Rattle.heap.specs.declared.Refusal.TheVariants as No
use Rattle.heap.specs.Answers.{answered, number_of, refused}
use Rattle.heap.specs.Kinds.{content_of, room_of}
use Rattle.heap.specs.Locating.{Locates}
use Rattle.heap.specs.State.{State, model_of, more_of, raw_of, state, with_cells}
use Rattle.heap.specs.Good.{Good}
use Rattle.heap.specs.Promise.{Does, Performs}
use Rattle.heap.proofs.DoesLaws.{does_5, does_7, does-own, first_none, first_passes, first_refuses}
use Rattle.heap.proofs.KindLaws.{says_map}
use Rattle.heap.proofs.ReachLaws.{located_at, target_met}
use Rattle.heap.proofs.ReadLaws.{object_passes, object-refused}
use Rattle.heap.proofs.StepLaws.{OwnCells}
use Rattle.heap.proofs.StoreLaws.{Stored, added-change, does_stored_charged}
use Rattle.collections_maps.specs.Changes.{InRegion, InsertRow, Inserts, IsMap, room_after}
use Rattle.collections_growth.specs.Growth.{Lengthened, Lengthening}
use Rattle.collections_maps.specs.Written.{MapWritten}
use Rattle.collections_maps.proofs.ChangeLaws as ChangeLaws
use Rattle.collections_maps.proofs.ChangeLaws.{map_stored}
use Rattle.collections_maps.proofs.MapLaws.{MapHere, MapSlot, Sought, here-room, here-store, here-traced, slot-here, target-map}
use Rattle.collections_maps.proofs.MapStoreLaws.{here-content, here-roomy, value_stored}

-- ---- every insertion

module _ {t : State} {w i : ℕ} {h : Header} {x : Scalars} {s : MapStore} {c : List ℕ} (m : MapHere t w i h x s c) where
  spent_not : s.fresh < 4294967296 → (l : Layout) → spent (model_of l t) w ≡ 0
  unfolding spent unless
  spent_not f l = rw (here-store m l, ltb_yes s.fresh 4294967296 f)

  spent_so : 4294967296 ≤ s.fresh → (l : Layout) → spent (model_of l t) w ≡ number_of No.Spent
  unfolding spent unless number_of
  spent_so f l = rw (here-store m l, ltb_no s.fresh 4294967296 f)

  insert-charge : (key : ℕ) {b : Bool} {n : ℕ} → b ≡ is_traced x.a → n ≡ Maps.bytes_of_growth t.heap.weights.entry b key (store_of s c) (View.room_of s) → (l : Layout) → growth (model_of l t) w key ≡ n
  unfolding growth model_of
  insert-charge key b e l = rw (here-traced m l, here-store m l, here-room m l, ← b) (sym e)

  insert-content : (hash key value : ℕ) {b : Bool} → b ≡ is_traced x.a →
      on_map (λ z. Maps.inserted z hash key value) (content_of (raw_of t i) (more_of t i)) ≡ map_object record { key_type = x.a; value_type = x.b; store = Maps.inserted b hash key value (store_of s c) }
  unfolding on_map
  insert-content hash key value b = rw (here-content m, ← b)

  insert-room-is : (key : ℕ) {b : Bool} → b ≡ is_traced x.a → map_room (insert_room key) (content_of (raw_of t i) (more_of t i)) (room_of (raw_of t i)) ≡ room_after b key s c
  unfolding map_room insert_room
  insert-room-is key b = rw (here-content m, here-roomy m, ← b)

  module _ {hash key value : ℕ} {k : Call} (row : InsertRow t w i hash key value k) where
    insert_passes : s.fresh < 4294967296 → (l : Layout) → first (terms (model_of l t) k).refusals ≡ 0
    unfolding charging
    insert_passes f l =
        rw (row.terms_are l)
        (first_passes (spent (model_of l t) w ∷ []) (target_met l m.good m.target says_map) ∙ first_passes [] (spent_not f l) ∙ first_none)

    insert-spent : 4294967296 ≤ s.fresh → Performs k t (refused No.Spent) t
    unfolding charging
    insert-spent f l =
        does-own l m.good k No.Spent (rw (row.terms_are l))
        (rw (row.terms_are l) (first_passes (spent (model_of l t) w ∷ []) (target_met l m.good m.target says_map) ∙ first_refuses [] No.Spent (spent_so f l)))

    module _ {b : Bool} {n : ℕ} (f : s.fresh < 4294967296) (eb : b ≡ is_traced x.a) (en : n ≡ Maps.bytes_of_growth t.heap.weights.entry b key (store_of s c) (View.room_of s)) where
      charge-is : (l : Layout) → (terms (model_of l t) k).charge ≡ some n
      unfolding charging
      charge-is l = rw (row.terms_are l) (ap some (insert-charge key eb en l))

      insert-over : fits t.heap.account n ≡ false → Performs k t (refused No.OverBudget) t
      unfolding charging
      insert-over z l = does_5 l m.good k (insert_passes f l) (charge-is l) z (rw (row.terms_are l))

      insert-added : (l : Layout) {size : ℕ} → size ≡ Maps.cells_of (room_after b key s c) →
          cells_of (row.content l (content_of (raw_of t i) (more_of t i))) (row.room l (content_of (raw_of t i) (more_of t i)) (room_of (raw_of t i))) ≡ size
      unfolding cells_of
      insert-added l e = rw (row.content_is l, row.room_is l, insert-content hash key value eb, insert-room-is key eb) (sym e)

      insert-full : {size : ℕ} → fits t.heap.account n ≡ true → size ≡ Maps.cells_of (room_after b key s c) → length t.cells - t.heap.taken < size - h.size → Performs k t (refused No.NoCells) t
      unfolding charging slotless raw_at
      insert-full {size} z e o l =
          does_7 l m.good k (size - h.size) (insert_passes f l) (charge-is l) (fits_so t.heap.account n z) (row.effect_is l) refl
          (added-change l m.good m.target.reached (row.content l) (row.room l) ∙ rw (insert-added l e, ← m.header)) (omega arith) (omega arith) (rw (row.terms_are l))

-- ---- what insert_at shows

module _ {t : State} {i hash key value : ℕ} {h : Header} {x : Scalars} {s : MapStore} {c : List ℕ} (m : MapSlot t i h x s c) where
  pub inserts_spent : 4294967296 ≤ s.fresh → Inserts t i hash key value (refused No.Spent) t
  inserts_spent f = record { does = λ w k o row. insert-spent (slot-here m o) row f }

  module _ {b : Bool} {n : ℕ} (f : s.fresh < 4294967296) (eb : b ≡ is_traced x.a) (en : n ≡ Maps.bytes_of_growth t.heap.weights.entry b key (store_of s c) (View.room_of s)) where
    pub inserts_over : fits t.heap.account n ≡ false → Inserts t i hash key value (refused No.OverBudget) t
    inserts_over z = record { does = λ w k o row. insert-over (slot-here m o) row f eb en z }

    pub inserts_full : {size : ℕ} → fits t.heap.account n ≡ true → size ≡ Maps.cells_of (room_after b key s c) → length t.cells - t.heap.taken < size - h.size → Inserts t i hash key value (refused No.NoCells) t
    inserts_full z e o = record { does = λ w k q row. insert-full (slot-here m q) row f eb en z e o }

    pub inserts_done : {size : ℕ} {a : Account} {r : Heap} {s' dir' c' : List ℕ} {N : MapStore} {s'' x'' c'' : List ℕ} (y : Lengthening t i size) (u : Lengthened t i size a r s' dir' c') → {h' : Header} → h' ≡ header_at s' i →
        InRegion (Maps.inserted b hash key value) (room_after b key s (region_of h' c')) h' s c' N c'' → MapWritten s' t.scalars s'' x'' i N → size ≡ Maps.cells_of (room_after b key s c) →
        (fits t.heap.account n ≡ true) × (a ≡ charged t.heap.account n) → Inserts t i hash key value (answered nothing) (state r s'' x'' t.list dir' c'')
    unfolding charging
    inserts_done {size} {a} {r} {s'} {dir'} {c'} {N} {s''} {x''} {c''} y u e v w z f' =
        let v₁ : InRegion (Maps.inserted b hash key value) (room_after b key s (region_of (header_at s' i) c')) (header_at s' i) s c' N c'' = rw e at v in
        let v₂ : InRegion (Maps.inserted b hash key value) (room_after b key s c) (header_at s' i) s c' N c'' = rw (ChangeLaws.long-store m y u) at v₁ in
        rw u.heap
        record {
          does = λ q k o row l.
              let m' = slot-here m o in
              does_stored_charged l m.good o.reached
              (map_stored m y u v₂ w z (row.content_is l ∙ insert-content m' hash key value eb) (row.room_is l ∙ insert-room-is m' key eb))
              k (row.effect_is l) (charge-is m' row f eb en l) f'.0 f'.1 (insert_passes m' row f l) (rw (row.terms_are l)) (rw (row.terms_are l));
        }

-- ---- insert

pub located_map : {t : State} {w i : ℕ} {r : Result ℕ Refusal} → Good t → Locates t.slots t.heap.fresh w 7 r → r ≡ Ok i → IsMap t i
located_map g d e = target-map (located_at g d e)

module _ {t : State} {w hash key value : ℕ} {r : Result ℕ Refusal} (g : Good t) (d : Locates t.slots t.heap.fresh w 7 r) where
  pub insert-does : {i : ℕ} {o : Seen} {a : State} → r ≡ Ok i → Inserts t i hash key value o a → Performs (Calls.insert_entry w hash key value) t o a
  unfolding terms effect
  insert-does e v =
      v.does w (Calls.insert_entry w hash key value) (located_at g d e)
      record {
        content = λ l. on_map (λ z. Maps.inserted z hash key value);
        room = λ l. map_room (insert_room key);
        effect_is = λ l. refl;
        terms_are = λ l. refl;
        content_is = λ l. refl;
        room_is = λ l. refl;
      }

  pub insert-refused : {q : Refusal} → r ≡ Err q → Performs (Calls.insert_entry w hash key value) t (refused q) t
  unfolding terms charging
  insert-refused e l = object-refused l g (Calls.insert_entry w hash key value) {rest = spent (model_of l t) w ∷ []} d e says_map refl refl

-- ---- put

put-refused-by : (l : Layout) {t : State} {w hash key value : ℕ} {r : Result ℕ Refusal} {q : Refusal} (o : Option ℕ) → Good t → Locates t.slots t.heap.fresh w 7 r → r ≡ Err q → Maps.find (key_traced (model_of l t) w) hash key (map_store (model_of l t) w) ≡ o →
    Does l (Calls.put w hash key value) t (refused q) t
unfolding terms put_terms charging
put-refused-by l {t} {w} {hash} {key} {value} none g d e f = object-refused l g (Calls.put w hash key value) {rest = spent (model_of l t) w ∷ []} d e says_map (rw f) (rw f)
put-refused-by l {t} {w} {hash} {key} {value} (some p) g d e f = object-refused l g (Calls.put w hash key value) {rest = []} d e says_map (rw f) (rw f)

pub put_refused : {t : State} {w hash key value : ℕ} {r : Result ℕ Refusal} {q : Refusal} → Good t → Locates t.slots t.heap.fresh w 7 r → r ≡ Err q → Performs (Calls.put w hash key value) t (refused q) t
put_refused g d e l = put-refused-by l _ g d e refl

module _ {t : State} {w i : ℕ} {h : Header} {x : Scalars} {s : MapStore} {c : List ℕ} (m : MapHere t w i h x s c) {f : Prelude.Option ℕ} {hash key : ℕ} (k : Sought x s c hash key f) where
  found-is : {o : Option ℕ} → position f ≡ o → (l : Layout) → Maps.find (key_traced (model_of l t) w) hash key (map_store (model_of l t) w) ≡ o
  found-is e l = rw (here-traced m l, here-store m l) (sym k.is ∙ e)

  here-find : {o : Option ℕ} → position f ≡ o → Maps.find (is_traced x.a) hash key (store_of s c) ≡ o
  here-find e = sym k.is ∙ e

  put-row : (value : ℕ) → f ≡ Prelude.None → InsertRow t w i hash key value (Calls.put w hash key value)
  unfolding terms effect put_terms on_map map_room put_room insert_room if_found Maps.put_at
  put-row value e = record {
    content = λ l. on_map (λ z. Maps.put z hash key value);
    room = λ l. map_room (put_room hash key);
    effect_is = λ l. refl;
    terms_are = λ l. rw (found-is (ap position e) l);
    content_is = λ l. rw (here-content m, here-find (ap position e));
    room_is = λ l. rw (here-content m, here-find (ap position e));
  }

  pub put_inserts : {value : ℕ} {o : Seen} {a : State} → f ≡ Prelude.None → Inserts t i hash key value o a → Performs (Calls.put w hash key value) t o a
  put_inserts {value} e v = v.does w (Calls.put w hash key value) m.target (put-row value e)

  module _ {pos : ℕ} (e : f ≡ Prelude.Some pos) where
    put-terms : (value : ℕ) (l : Layout) → terms (model_of l t) (Calls.put w hash key value) ≡ charging (target (view_of (model_of l t)) a_map w ∷ []) 0 nothing
    unfolding terms put_terms
    put-terms value l = rw (found-is (ap position e) l)

    put_passes : (value : ℕ) (l : Layout) → first (terms (model_of l t) (Calls.put w hash key value)).refusals ≡ 0
    unfolding charging
    put_passes value l = object_passes l m.good (Calls.put w hash key value) m.target says_map (rw (put-terms value l))

    pub put-over : {value : ℕ} → fits t.heap.account 0 ≡ false → Performs (Calls.put w hash key value) t (refused No.OverBudget) t
    unfolding charging
    put-over {value} z l = does_5 l m.good (Calls.put w hash key value) (put_passes value l) (rw (put-terms value l)) z (rw (put-terms value l))

    put_stored : {value : ℕ} {c' : List ℕ} → OwnCells t.cells c' h.start h.size → Map.Valued pos value s (region_of h t.cells) (region_of h c') →
        Stored t (with_cells t c') i (on_map (λ z. Maps.put z hash key value)) (map_room (put_room hash key))
    unfolding on_map map_room put_room if_found same_room Maps.put_at
    put_stored own v =
        let u = value_stored m own v in
        record {
          touched = u.touched;
          slot-good = u.slot-good;
          content = u.content ∙ rw (here-content m, here-find (ap position e));
          room = u.room ∙ rw (here-content m, here-find (ap position e));
        }

    pub put_overwrites : {value : ℕ} {c' : List ℕ} → fits t.heap.account 0 ≡ true → t.heap.account ≡ charged t.heap.account 0 → OwnCells t.cells c' h.start h.size →
        Map.Valued pos value s (region_of h t.cells) (region_of h c') → Performs (Calls.put w hash key value) t (answered nothing) (with_cells t c')
    unfolding effect charging
    put_overwrites {value} z a own v l =
        does_stored_charged l m.good m.target.reached (put_stored own v) (Calls.put w hash key value) refl (rw (put-terms value l)) z a (put_passes value l) (rw (put-terms value l)) (rw (put-terms value l))
