-- The calls that remove an entry: 7, or the removal. Assumes nothing.
use Rattle.std.proofs.Common.{Result, Ok, Err}
use Prim.Native.Nat.{ℕ, ◌-◌, ◌<◌}
use mathlib.Core.Path.{◌≡◌, refl, ap, sym, ◌∙◌}
use mathlib.Core.Bool.{Bool, true}
use mathlib.Core.List.{List, []}
use mathlib.Core.Option.{Option, none, some}
use native.Mathlib.Omega.{arith}
use lib.ListN.{length}
use Rattle.heap_slots.specs.Header.{header_at}
use Rattle.heap_slots.specs.declared.Header.{Header}
use Rattle.heap_slots.specs.declared.Scalars.{Scalars}
use Rattle.heap_cells.specs.Regions.{raw_at, region_of}
use Rattle.history.proofs.Lift.{Seen}
use Rattle.layout.specs.Layout.{Layout, is_traced}
use Rattle.map_store.specs.Store as Maps
use Rattle.map_store.specs.View.{position, store_of}
use Rattle.map_store.specs.View as View
use Rattle.std.specs.Prelude as Prelude
use Rattle.map_store.specs.declared.MapStore.{MapStore}
use Rattle.model.specs.Calls as Calls
use Rattle.model.specs.Calls.{Call, effect}
use Rattle.model.specs.Content.{cells_of, map_object}
use Rattle.model.specs.Replies.{nothing}
use Rattle.model.specs.Refusals.{budget, first, slotless}
use Rattle.model.specs.Rules.{if_found, map_room, on_map, remove_at_room, remove_room}
use Rattle.model.specs.Terms.{terms, uncharged}
use Rattle.heap.specs.declared.Heap.{Heap}
use Rattle.heap.specs.declared.Refusal.{Refusal}
use Rattle.heap.specs.declared.Refusal.TheVariants as No
use Rattle.heap.specs.Answers.{answered, refused}
use Rattle.heap.specs.Kinds.{content_of, room_of}
use Rattle.heap.specs.Locating.{Locates}
use Rattle.heap.specs.State.{State, model_of, more_of, raw_of, state}
use Rattle.heap.specs.Good.{Good}
use Rattle.heap.specs.Promise.{Performs}
use Rattle.heap.proofs.DoesLaws.{does_7}
use Rattle.heap.proofs.KindLaws.{says_map}
use Rattle.heap.proofs.ReachLaws.{located_at}
use Rattle.heap.proofs.ReadLaws.{object_passes, object-refused}
use Rattle.heap.proofs.StoreLaws.{Stored, added-change, does_stored_free}
use Rattle.heap.proofs.TouchLaws.{touched_none}
use Rattle.collections_maps.specs.Changes.{InRegion, RemoveRow, Removes, RemovingKey, room_without, room_without_key}
use Rattle.collections_growth.specs.Growth.{Lengthened, Lengthening}
use Rattle.collections_maps.specs.Written.{MapWritten}
use Rattle.collections_maps.proofs.ChangeLaws.{long-store, map_stored, slot_lengthens}
use Rattle.collections_growth.proofs.GrowthLaws.{stays_same}
use Rattle.collections_maps.proofs.MapLaws.{MapHere, MapSlot, Sought, here-good, here-slot, map-size, slot-here}
use Rattle.collections_maps.proofs.MapStoreLaws.{here-content, here-roomy}

-- ---- every removal

module _ {t : State} {w i : ℕ} {h : Header} {x : Scalars} {s : MapStore} {c : List ℕ} (m : MapHere t w i h x s c) where
  remove-content : (pos : ℕ) → on_map (λ z. Maps.removed_at pos) (content_of (raw_of t i) (more_of t i)) ≡ map_object record { key_type = x.a; value_type = x.b; store = Maps.removed_at pos (store_of s c) }
  unfolding on_map
  remove-content pos = rw (here-content m)

  remove-room-is : map_room remove_at_room (content_of (raw_of t i) (more_of t i)) (room_of (raw_of t i)) ≡ room_without s c
  unfolding map_room remove_at_room
  remove-room-is = rw (here-content m, here-roomy m)

  module _ {pos : ℕ} {k : Call} (row : RemoveRow t w i pos k) where
    remove_passes : (l : Layout) → first (terms (model_of l t) k).refusals ≡ 0
    unfolding uncharged
    remove_passes l = object_passes l m.good k m.target says_map (rw (row.terms_are l))

    remove-added : (l : Layout) {size : ℕ} → size ≡ Maps.cells_of (room_without s c) →
        cells_of (row.content l (content_of (raw_of t i) (more_of t i))) (row.room l (content_of (raw_of t i) (more_of t i)) (room_of (raw_of t i))) ≡ size
    unfolding cells_of
    remove-added l e = rw (row.content_is l, row.room_is l, remove-content pos, remove-room-is) (sym e)

    remove-full : {size : ℕ} → size ≡ Maps.cells_of (room_without s c) → length t.cells - t.heap.taken < size - h.size → Performs k t (refused No.NoCells) t
    unfolding uncharged slotless budget raw_at
    remove-full {size} e o l =
        does_7 l m.good k {ch = none} (size - h.size) (remove_passes l) (rw (row.terms_are l)) refl (row.effect_is l) refl
        (added-change l m.good m.target.reached (row.content l) (row.room l) ∙ rw (remove-added l e, ← m.header)) (omega arith) (omega arith) (rw (row.terms_are l))

-- ---- what remove_place shows

module _ {t : State} {i pos : ℕ} {h : Header} {x : Scalars} {s : MapStore} {c : List ℕ} (m : MapSlot t i h x s c) where
  pub removes-full : {size : ℕ} → size ≡ Maps.cells_of (room_without s c) → length t.cells - t.heap.taken < size - h.size → Removes t i pos (refused No.NoCells) t
  removes-full e o = record { does = λ w k q row. remove-full (slot-here m q) row e o }

  pub removes-done : {size : ℕ} {r : Heap} {s' dir' c' : List ℕ} {N : MapStore} {s'' x'' c'' : List ℕ} (y : Lengthening t i size) (u : Lengthened t i size t.heap.account r s' dir' c') → {h' : Header} → h' ≡ header_at s' i →
      InRegion (Maps.removed_at pos) (room_without s (region_of h' c')) h' s c' N c'' → MapWritten s' t.scalars s'' x'' i N → size ≡ Maps.cells_of (room_without s c) → Removes t i pos (answered nothing) (state r s'' x'' t.list dir' c'')
  unfolding uncharged
  removes-done {size} {r} {s'} {dir'} {c'} {N} {s''} {x''} {c''} y u e v w z =
      let v₁ : InRegion (Maps.removed_at pos) (room_without s (region_of (header_at s' i) c')) (header_at s' i) s c' N c'' = rw e at v in
      let v₂ : InRegion (Maps.removed_at pos) (room_without s c) (header_at s' i) s c' N c'' = rw (long-store m y u) at v₁ in
      rw u.heap
      record {
        does = λ q k o row l.
            let m' = slot-here m o in
            does_stored_free l m.good o.reached
            (map_stored m y u v₂ w z (row.content_is l ∙ remove-content m' pos) (row.room_is l ∙ remove-room-is m'))
            k (row.effect_is l) (rw (row.terms_are l)) refl (remove_passes m' row l) (rw (row.terms_are l)) (rw (row.terms_are l));
      }

-- ---- by position

module _ {t : State} {w : ℕ} {r : Result ℕ Refusal} (g : Good t) (d : Locates t.slots t.heap.fresh w 7 r) where
  pub remove-at-does : {i pos : ℕ} {o : Seen} {a : State} → r ≡ Ok i → Removes t i pos o a → Performs (Calls.remove_at w pos) t o a
  unfolding terms effect
  remove-at-does {pos = pos} e v =
      v.does w (Calls.remove_at w pos) (located_at g d e)
      record {
        content = λ l. on_map (λ z. Maps.removed_at pos);
        room = λ l. map_room remove_at_room;
        effect_is = λ l. refl;
        terms_are = λ l. refl;
        content_is = λ l. refl;
        room_is = λ l. refl;
      }

  pub remove-at-refused : {pos : ℕ} {q : Refusal} → r ≡ Err q → Performs (Calls.remove_at w pos) t (refused q) t
  unfolding terms uncharged
  remove-at-refused {pos} e l = object-refused l g (Calls.remove_at w pos) {rest = []} d e says_map refl refl

  pub remove-refused : {hash key : ℕ} {q : Refusal} → r ≡ Err q → Performs (Calls.remove w hash key) t (refused q) t
  unfolding terms uncharged
  remove-refused {hash} {key} e l = object-refused l g (Calls.remove w hash key) {rest = []} d e says_map refl refl

-- ---- by key

module _ {t : State} {w i : ℕ} {h : Header} {x : Scalars} {s : MapStore} {c : List ℕ} (m : MapHere t w i h x s c) {f : Prelude.Option ℕ} {hash key : ℕ} (k : Sought x s c hash key f) where
  here-find : {o : Option ℕ} → position f ≡ o → Maps.find (is_traced x.a) hash key (store_of s c) ≡ o
  here-find e = sym k.is ∙ e

  remove-row : {pos : ℕ} → f ≡ Prelude.Some pos → RemoveRow t w i pos (Calls.remove w hash key)
  unfolding terms effect on_map map_room remove_room remove_at_room if_found Maps.removed_found
  remove-row e = record {
    content = λ l. on_map (λ z. Maps.removed_key z hash key);
    room = λ l. map_room (remove_room hash key);
    effect_is = λ l. refl;
    terms_are = λ l. refl;
    content_is = λ l. rw (here-content m, here-find (ap position e));
    room_is = λ l. rw (here-content m, here-find (ap position e));
  }

  pub remove-found : {pos : ℕ} {o : Seen} {a : State} → f ≡ Prelude.Some pos → Removes t i pos o a → Performs (Calls.remove w hash key) t o a
  remove-found e v = v.does w (Calls.remove w hash key) m.target (remove-row e)

  absent_stored : f ≡ Prelude.None → Stored t t i (on_map (λ z. Maps.removed_key z hash key)) (map_room (remove_room hash key))
  unfolding on_map map_room remove_room if_found Maps.removed_found
  absent_stored e = record {
    touched = touched_none i m.good;
    slot-good = m.good.each i m.target.reached.within;
    content = rw (here-content m, here-find (ap position e));
    room = rw (here-content m, here-find (ap position e));
  }

  pub remove_absent : f ≡ Prelude.None → Performs (Calls.remove w hash key) t (answered nothing) t
  unfolding terms effect uncharged
  remove_absent e l =
      does_stored_free l m.good m.target.reached (absent_stored e) (Calls.remove w hash key) refl refl refl (object_passes l m.good (Calls.remove w hash key) m.target says_map refl) refl refl

-- ---- by key in a hashed map, which keeps its room

room-found : (o : Option ℕ) (z : Maps.Store) (r : Maps.Room) → if_found o (Maps.room_after_remove z r) r ≡ Maps.room_after_found o z r
unfolding if_found Maps.room_after_found
room-found none z r = refl
room-found (some p) z r = refl

kept-found : (o : Option ℕ) (z : Maps.Store) (r : Maps.Room) → z.hashed ≡ true → Maps.room_after_found o z r ≡ r
unfolding Maps.room_after_found Maps.room_after_remove
kept-found none z r e = refl
kept-found (some p) z r e = rw e

module _ {t : State} {w i : ℕ} {h : Header} {x : Scalars} {s : MapStore} {c : List ℕ} (m : MapHere t w i h x s c) {b : Bool} (eb : b ≡ is_traced x.a) where
  key-content : (hash key : ℕ) → on_map (λ z. Maps.removed_key z hash key) (content_of (raw_of t i) (more_of t i)) ≡ map_object record { key_type = x.a; value_type = x.b; store = Maps.removed_key b hash key (store_of s c) }
  unfolding on_map
  key-content hash key = rw (here-content m, ← eb)

  key-room : (hash key : ℕ) → map_room (remove_room hash key) (content_of (raw_of t i) (more_of t i)) (room_of (raw_of t i)) ≡ room_without_key b hash key s c
  unfolding map_room remove_room
  key-room hash key = rw (here-content m, here-roomy m, ← eb) (room-found (Maps.find b hash key (store_of s c)) (store_of s c) (View.room_of s))

  key_removed : {hash key size : ℕ} {r : Heap} {s' dir' c' : List ℕ} {N : MapStore} {s'' x'' c'' : List ℕ} (y : Lengthening t i size) (u : Lengthened t i size t.heap.account r s' dir' c') → {h' : Header} → h' ≡ header_at s' i →
      InRegion (Maps.removed_key b hash key) (room_without_key b hash key s (region_of h' c')) h' s c' N c'' → MapWritten s' t.scalars s'' x'' i N → size ≡ Maps.cells_of (room_without_key b hash key s c) →
      Performs (Calls.remove w hash key) t (answered nothing) (state r s'' x'' t.list dir' c'')
  unfolding terms effect uncharged
  key_removed {hash} {key} {size} {r} {s'} {dir'} {c'} {N} {s''} {x''} {c''} y u e v p z l =
      let v₁ : InRegion (Maps.removed_key b hash key) (room_without_key b hash key s (region_of (header_at s' i) c')) (header_at s' i) s c' N c'' = rw e at v in
      let v₂ : InRegion (Maps.removed_key b hash key) (room_without_key b hash key s c) (header_at s' i) s c' N c'' = rw (long-store (here-slot m) y u) at v₁ in
      rw u.heap
      (does_stored_free l m.good m.target.reached (map_stored (here-slot m) y u v₂ p z (key-content hash key) (key-room hash key)) (Calls.remove w hash key) refl refl refl
      (object_passes l m.good (Calls.remove w hash key) m.target says_map refl) refl refl)

  kept-size : (hash key : ℕ) → s.hashed ≡ true → h.size ≡ Maps.cells_of (room_without_key b hash key s c)
  kept-size hash key f = rw (kept-found (Maps.find b hash key (store_of s c)) (store_of s c) (View.room_of s) f) (omega (arith, map-size (here-slot m)))

  pub hashed_asks : {hash key : ℕ} → s.hashed ≡ true → RemovingKey t.cells h s b hash key
  hashed_asks {hash} {key} f =
      let z : h.size ≡ Maps.cells_of (room_without_key b hash key s (region_of h t.cells)) = rw (← m.cells) (kept-size hash key f) in
      record { inside = rw m.header (m.good.laid.inside i m.target.reached.within); good = rw (← m.cells) (here-good m); room = omega (arith, z) }

  pub hashed_removed : {hash key : ℕ} {N : MapStore} {s'' x'' c'' : List ℕ} → s.hashed ≡ true → InRegion (Maps.removed_key b hash key) (room_without_key b hash key s (region_of h t.cells)) h s t.cells N c'' → MapWritten t.slots t.scalars s'' x'' i N →
      Performs (Calls.remove w hash key) t (answered nothing) (state t.heap s'' x'' t.list t.directory c'')
  hashed_removed {hash} {key} f v p =
      let y : Lengthening t i h.size = slot_lengthens (here-slot m) (omega arith) (omega arith) in
      key_removed y (stays_same m.good y m.header (omega arith)) m.header v p (kept-size hash key f)
