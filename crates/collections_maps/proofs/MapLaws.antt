-- Readings of a map. Assumes nothing.
use native.Mathlib.Omega.{arith}
use Rattle.std.proofs.Common.{Result, Ok, Err, Some, None}
use Rattle.std.specs.Result.{IsErrAnd, result_map_both}
use Rattle.std.proofs.lemmas.Result.{err_from_is_err_and}
use Prim.Native.Nat.{ℕ, ◌+◌, ◌*◌, ◌/◌, ◌≤◌, ◌<◌}
use mathlib.Core.Path.{◌≡◌, refl, ap, sym, ◌∙◌}
use mathlib.Core.Bool.{Bool}
use mathlib.Core.List.{List, [], ◌∷◌}
use lib.IntN.{ℤ}
use lib.ListN.{length}
use Rattle.heap_slots.specs.Header.{header_at, scalars_at}
use Rattle.heap_slots.specs.Limits.{HasSlot}
use Rattle.heap_slots.specs.declared.Header.{Header}
use Rattle.heap_slots.specs.Scalars.{map_part, scalars_of_map}
use Rattle.heap_slots.specs.declared.MapScalars.{MapScalars}
use Rattle.heap_slots.specs.declared.Scalars.{Scalars}
use Rattle.heap_cells.specs.Regions.{raw_at, region_of}
use Rattle.layout.specs.Layout.{Layout, is_traced}
use Rattle.map_store.specs.Store as Maps
use Rattle.map_store.specs.Entries.{length_entries}
use Rattle.map_store.specs.Map as Map
use Rattle.map_store.specs.View.{cursor_is, entry_answer, got_is, next_is, position, step_is, store_of}
use Rattle.map_store.specs.View as View
use Rattle.std.specs.Prelude as Prelude
use Rattle.map_store.specs.declared.MapStore.{MapStore}
use Rattle.map_store.specs.declared.Stepped.{Stepped}
use Rattle.map_store.specs.declared.Stored.{Stored}
use Rattle.model.specs.Calls as Calls
use Rattle.model.specs.Calls.{Call, effect}
use Rattle.model.specs.Replies.{Answer, Reply, cursor_at, entry_is, next_integer, noted, number, perhaps, reply, truth}
use Rattle.model.specs.Slots as Slots
use Rattle.model.specs.Refusals.{inside}
use Rattle.model.specs.Terms.{a_map, growth, key_traced, map_store, terms, uncharged}
use Rattle.heap.proofs.GoodLaws.{holds_as}
use Rattle.heap.specs.declared.Refusal.{Refusal}
use Rattle.heap.specs.declared.Refusal.TheVariants as No
use Rattle.heap.specs.Answers.{reading_is, seen_by}
use Rattle.heap.specs.Kinds.{yes}
use Rattle.heap.specs.Locating.{Locates, located_in}
use Rattle.heap.specs.State.{State, model_of, more_of, raw_of}
use Rattle.heap.specs.Good.{Good}
use Rattle.heap.specs.Promise.{Reads}
use Rattle.heap.proofs.KindLaws.{room-map, says_map}
use Rattle.heap.proofs.LocateLaws.{locates_so}
use Rattle.heap.proofs.ReachLaws.{Target, located_at, reached-room, scalars_fit}
use Rattle.heap.proofs.ReadLaws.{object-answered, object-inside, object-outside, object-refused, reads_key_traced, reads_map, reads_map_store}
use Rattle.collections_maps.specs.Changes.{IsMap}
use Rattle.collections_maps.specs.Reading.{Found, MapAt, PartsOfMap, parts_in}
use Rattle.std.specs.Option.{ok_or}
use Rattle.std.proofs.Common.{MatchOption, IsSomeAnd}
use Rattle.collections_maps.specs.declared.MapRead.{MapRead}
use Rattle.collections_maps.specs.declared.readings.MapParts.{MapParts}
use Rattle.map_store.specs.declared.reading.Map as MapType
use Rattle.collections_growth.specs.Words.{MapIn, MapKnown, map_from}
use Rattle.collections_growth.proofs.ReadingLaws.{Row, row-answered, row-refused}
use Rattle.collections_maps.specs.Answers.{entry_seen, lent_seen, next_seen, noted_seen, step_seen}
use Rattle.collections_growth.specs.Answers.{perhaps_is}
use Rattle.collections_growth.proofs.EntryLaws.{entry_beyond, entry-inside}

-- ---- what the store says of its parts

module _ {t : State} {w i : ℕ} (g : Good t) (o : Target t w i 7) where
  pub map-living : (l : Layout) → Maps.living (map_store (model_of l t) w) ≡ (more_of t i).h
  map-living l = ap Maps.living (reads_map_store l o) ∙ sym (holds_as 7 o.kind-is (g.each i o.reached.within)).0.live

  pub map-places : (l : Layout) → Maps.places (map_store (model_of l t) w) ≡ (raw_of t i).len
  map-places l = ap Maps.places (reads_map_store l o) ∙ length_entries (raw_of t i).cells 0 (raw_of t i).len

  pub map_room : (l : Layout) → Slots.room_of (model_of l t).table w ≡ record { capacity = (raw_of t i).value; index = (raw_of t i).mode }
  map_room l = reached-room o.reached l ∙ room-map (raw_of t i) o.kind-is

-- ---- a map that is located

-- slot i holds a map: its header, its scalars, its record and its cells
pub record MapSlot (t : State) (i : ℕ) (h : Header) (x : Scalars) (s : MapStore) (c : List ℕ) : Type 0 where
  pub good : Good t
  pub within : i < t.heap.fresh
  pub kind : (header_at t.slots i).kind ≡ 7
  pub header : h ≡ header_at t.slots i
  pub scalars : x ≡ scalars_at t.scalars i
  pub map : s ≡ map_from h (map_part x)
  pub cells : c ≡ region_of h t.cells

module _ {t : State} {i : ℕ} (g : Good t) (o : IsMap t i) where
  pub slot-epoch : {x : MapScalars} → x ≡ map_part (scalars_at t.scalars i) → x.epoch < 4294967296
  unfolding raw_at
  slot-epoch p = rw p (holds_as 7 o.kind (g.each i o.within)).2

  pub slot-region : {h : Header} → h ≡ header_at t.slots i → h.start + h.size ≤ length t.cells
  slot-region p = rw p (g.laid.inside i o.within)

  pub map-slot : {h : Header} {x : MapScalars} {s : MapStore} {c : List ℕ} → h ≡ header_at t.slots i → x ≡ map_part (scalars_at t.scalars i) → s ≡ map_from h x → c ≡ region_of h t.cells → MapSlot t i h (scalars_of_map x) s c
  map-slot a b m n = record { good = g; within = o.within; kind = o.kind; header = a; scalars = ap scalars_of_map b; map = m; cells = n }

module _ {t : State} {i : ℕ} {h : Header} {x : Scalars} {s : MapStore} {c : List ℕ} (m : MapSlot t i h x s c) where
  pub map-good : Map.Good s c
  unfolding raw_at
  map-good = rw (m.map, m.cells, m.header, m.scalars) (holds_as 7 m.kind (m.good.each i m.within)).0

  pub map-size : h.size ≡ s.capacity * 5 + s.index / 2
  unfolding raw_at
  map-size = rw (m.map, m.header) (holds_as 7 m.kind (m.good.each i m.within)).1

pub slot-known : {t : State} {i : ℕ} {h : Header} {x : MapScalars} → Good t → IsMap t i → h ≡ header_at t.slots i → x ≡ map_part (scalars_at t.scalars i) → MapKnown t.cells h x
slot-known g o a b = record { good = map-good (map-slot g o a b refl refl); region = slot-region g o a; epoch = slot-epoch g o b }

-- that w reaches
pub record MapHere (t : State) (w i : ℕ) (h : Header) (x : Scalars) (s : MapStore) (c : List ℕ) : Type 0 where
  pub good : Good t
  pub target : Target t w i 7
  pub header : h ≡ header_at t.slots i
  pub scalars : x ≡ scalars_at t.scalars i
  pub map : s ≡ map_from h (map_part x)
  pub cells : c ≡ region_of h t.cells

pub slot-here : {t : State} {w i : ℕ} {h : Header} {x : Scalars} {s : MapStore} {c : List ℕ} → MapSlot t i h x s c → Target t w i 7 → MapHere t w i h x s c
slot-here m o = record { good = m.good; target = o; header = m.header; scalars = m.scalars; map = m.map; cells = m.cells }

pub here-slot : {t : State} {w i : ℕ} {h : Header} {x : Scalars} {s : MapStore} {c : List ℕ} → MapHere t w i h x s c → MapSlot t i h x s c
unfolding raw_at
here-slot m = record { good = m.good; within = m.target.reached.within; kind = m.target.kind-is; header = m.header; scalars = m.scalars; map = m.map; cells = m.cells }

pub target-map : {t : State} {w i : ℕ} → Target t w i 7 → IsMap t i
unfolding raw_at
target-map o = record { within = o.reached.within; kind = o.kind-is }

pub here-at : {t : State} {w i : ℕ} {h : Header} {x : MapScalars} {s : MapStore} {c : List ℕ} → Good t → Target t w i 7 → h ≡ header_at t.slots i → x ≡ map_part (scalars_at t.scalars i) → s ≡ map_from h x → c ≡ region_of h t.cells → MapHere t w i h (scalars_of_map x) s c
here-at g o a b m n = record { good = g; target = o; header = a; scalars = ap scalars_of_map b; map = m; cells = n }

module _ {t : State} {w i : ℕ} {r : Result ℕ Refusal} (g : Good t) (d : Locates t.slots t.heap.fresh w 7 r) (e : r ≡ Ok i) where
  pub map-scalars-fit : HasSlot t.scalars i
  map-scalars-fit = scalars_fit g (located_at g d e).reached

  pub map-epoch-fits : {x : MapScalars} → x ≡ map_part (scalars_at t.scalars i) → x.epoch < 4294967296
  map-epoch-fits p = let o = located_at g d e in rw p (holds_as 7 o.kind-is (g.each i o.reached.within)).2

  pub map-region-fits : {h : Header} → h ≡ header_at t.slots i → h.start + h.size ≤ length t.cells
  map-region-fits p = rw p (g.laid.inside i (located_at g d e).reached.within)

  pub map-here : {h : Header} {x : MapScalars} {s : MapStore} {c : List ℕ} → h ≡ header_at t.slots i → x ≡ map_part (scalars_at t.scalars i) → s ≡ map_from h x → c ≡ region_of h t.cells → MapHere t w i h (scalars_of_map x) s c
  map-here = here-at g (located_at g d e)

module _ {t : State} {w i : ℕ} {h : Header} {x : Scalars} {s : MapStore} {c : List ℕ} (m : MapHere t w i h x s c) where
  pub here-good : Map.Good s c
  here-good = map-good (here-slot m)

  pub here-store : (l : Layout) → map_store (model_of l t) w ≡ store_of s c
  unfolding raw_at
  here-store l = reads_map_store l m.target ∙ rw (m.map, m.cells, m.header, m.scalars)

  pub here-traced : (l : Layout) → key_traced (model_of l t) w ≡ is_traced x.a
  here-traced l = reads_key_traced l m.target ∙ rw m.scalars

  pub here-room : (l : Layout) → Slots.room_of (model_of l t).table w ≡ View.room_of s
  unfolding raw_at
  here-room l = map_room m.good m.target l ∙ rw (m.map, m.header)

  -- ---- what the calls answer

  pub find_read : (f : Prelude.Option ℕ) {b : Bool} {hash key : ℕ} → b ≡ is_traced x.a → position f ≡ Maps.find b hash key (store_of s c) → Reads (Calls.find w hash key) t (perhaps_is (Ok f))
  unfolding terms effect uncharged seen_by
  find_read f b q = row-answered m.good record { effect_is = λ l. refl; terms_are = λ l. refl } says_map m.target (λ l. ap perhaps (rw (here-traced l, here-store l, ← b) (sym q)))

  pub growth_read : {b : Bool} {key n : ℕ} → b ≡ is_traced x.a → n ≡ Maps.bytes_of_growth t.heap.weights.entry b key (store_of s c) (View.room_of s) → Reads (Calls.growth_bytes w key) t (reading_is (Ok n))
  unfolding terms effect uncharged growth model_of seen_by
  growth_read b e =
      row-answered m.good record { effect_is = λ l. refl; terms_are = λ l. refl } says_map m.target
      (λ l. ap number (rw (here-traced l, here-store l, here-room l, ← b) (sym e)))

  pub noted_read : Reads (Calls.noted_key w) t (noted_seen (Ok s.noted))
  unfolding terms effect uncharged seen_by
  noted_read = row-answered m.good record { effect_is = λ l. refl; terms_are = λ l. refl } says_map m.target (λ l. ap (λ (z : Maps.Store). noted z.noted) (here-store l))

  pub next_read : (n : Prelude.Option ℤ) → next_is n ≡ Maps.key_after_noted (store_of s c) → Reads (Calls.next_key w) t (next_seen (Ok n))
  unfolding terms effect uncharged seen_by
  next_read n f = row-answered m.good record { effect_is = λ l. refl; terms_are = λ l. refl } says_map m.target (λ l. ap next_integer (rw (here-store l) (sym f)))

  -- an entry inside, or 3
  pub entry_read : (n : Prelude.Option Stored) {pos : ℕ} → got_is n ≡ entry_answer pos (store_of s c) → Reads (Calls.read_entry w pos) t (entry_seen (ok_or n No.Outside))
  unfolding terms effect uncharged seen_by
  entry_read (Prelude.Some e) {pos} f l =
      let z = entry-inside pos (store_of s c) f refl in
      object-inside l m.good (Calls.read_entry w pos) m.target says_map {p = pos} {n = Maps.places (map_store (model_of l t) w)} refl (rw (here-store l) z.0) refl refl refl (ap entry_is (rw (here-store l) z.1))
  entry_read Prelude.None {pos} f l =
      object-outside l m.good (Calls.read_entry w pos) m.target says_map {p = pos} {n = Maps.places (map_store (model_of l t) w)} refl (rw (here-store l) (entry_beyond pos (store_of s c) f refl)) refl

  pub step_read : {z : Maps.Cursor} (n : Stepped) → step_is n ≡ Maps.next_of (store_of s c) z → Reads (Calls.next w z) t (step_seen z (Ok n))
  unfolding terms effect step_seen
  step_read {z} n f l =
      object-answered l m.good (Calls.next w z) m.target says_map refl refl refl
      (ap cursor_at (rw (here-store l) (ap (λ (q : Maps.Step). q.cursor) (sym f)))) (ap perhaps (rw (here-store l) (ap (λ (q : Maps.Step). q.answer) (sym f))))

-- ---- where a key stands

pub record Sought (x : Scalars) (s : MapStore) (c : List ℕ) (hash key : ℕ) (f : Prelude.Option ℕ) : Type 0 where
  pub is : position f ≡ Maps.find (is_traced x.a) hash key (store_of s c)

pub sought : {x : Scalars} {s : MapStore} {c : List ℕ} {hash key : ℕ} {f : Prelude.Option ℕ} {b : Bool} → b ≡ is_traced x.a → position f ≡ Maps.find b hash key (store_of s c) → Sought x s c hash key f
sought e h = record { is = rw e at h }

-- ---- the map that the readings find

pub found-here : {t : State} {w : ℕ} {m : MapRead} → Good t → (f : Found t w m) → MapHere t w f.slot (header_at t.slots f.slot) (scalars_at t.scalars f.slot) m.map.store m.map.cells.now
found-here g f = record { good = g; target = f.target; header = refl; scalars = refl; map = f.store; cells = f.cells }

module _ {t : State} {w : ℕ} {r : Result ℕ Refusal} (g : Good t) (d : Locates t.slots t.heap.fresh w 7 r) where
  pub map-missed : {q : Refusal} → r ≡ Err q → MapAt t w (Err q)
  map-missed {q} e = record {
    found = λ m x. absurd (let z : ◌≡◌ {A = ℕ} 0 1 = cc in omega arith);
    refused = λ q' x. let y : q ≡ q' = cc in rw (← y, ← e) d;
  }

  pub map-found : {i : ℕ} {h : Header} {x : MapScalars} {b : Bool} {z : MapType.Map} → r ≡ Ok i → h ≡ header_at t.slots i → x ≡ map_part (scalars_at t.scalars i) → MapIn t.cells h x z → b ≡ is_traced x.keys →
      MapAt t w (Ok record { map = z; traced = b })
  map-found {i} {b = b} {z = z} e eh ex k eb =
      let f : Found t w record { map = z; traced = b } = record {
        slot = i;
        target = located_at g d e;
        store = k.store ∙ rw (eh, ex);
        cells = k.cells ∙ rw eh;
        traced = eb ∙ rw ex;
      } in
      record {
        found = λ m x. let y : record { map = z; traced = b } ≡ m = cc in rw (← y) f;
        refused = λ q x. absurd (let z : ◌≡◌ {A = ℕ} 0 1 = cc in omega arith);
      }

-- ---- what the slot of the map that w reaches holds, or the refusal

module _ {t : State} {w : ℕ} {r : Result ℕ Refusal} (d : Locates t.slots t.heap.fresh w 7 r) where
  pub parts-found : {i : ℕ} {h : Header} {x : MapScalars} → r ≡ Ok i → h ≡ header_at t.slots i → x ≡ map_part (scalars_at t.scalars i) → PartsOfMap t w (Ok record { header = h; scalars = x })
  parts-found e a b = record { is = rw (sym d.is ∙ e, a, b) }

  -- where `?` passes the refusal on
  pub parts-missed : {q : Refusal} {x : Result MapParts Refusal} → r ≡ Err q → IsErrAnd x (λ e. e ≡ q) → PartsOfMap t w x
  parts-missed {x = x} e h = let p = err_from_is_err_and x h in rw (p.1, p.2) record { is = rw (sym d.is ∙ e) }

module _ {t : State} {w : ℕ} {x : Result MapParts Refusal} (g : Good t) (d : PartsOfMap t w x) where
  -- what is said of it, where that is what the call answers
  parts-read : {k : Call} (says : MapParts → Reply) → Row t k a_map w → ((l : Layout) (i : ℕ) → Target t w i 7 → (terms (model_of l t) k).answer ≡ says (parts_in t i)) → Reads k t (seen_by (λ m. reply (says m)) x)
  parts-read {k = k} says row h = rw d.is (go (located_in t.slots t.heap.fresh w 7) refl)
    where
      go : (z : Result ℕ Refusal) → located_in t.slots t.heap.fresh w 7 ≡ z → Reads k t (seen_by (λ m. reply (says m)) (result_map_both (parts_in t) (λ q. q) z))
      go (Ok i) e = unfold seen_by in (let o = located_at g (locates_so refl) e in row-answered g row says_map o (λ l. h l i o))
      go (Err q) e = unfold seen_by in row-refused g row says_map (locates_so refl) e

  pub live_read : Reads (Calls.live_count w) t (seen_by (λ m. reply (number m.scalars.live)) x)
  unfolding terms effect uncharged
  live_read = parts-read (λ m. number m.scalars.live) record { effect_is = λ l. refl; terms_are = λ l. refl } (λ l i o. ap number (map-living g o l))

  pub key-type_read : Reads (Calls.key_type w) t (seen_by (λ m. reply (number m.scalars.keys)) x)
  unfolding terms effect uncharged
  key-type_read = parts-read (λ m. number m.scalars.keys) record { effect_is = λ l. refl; terms_are = λ l. refl } (λ l i o. ap number (reads_map l 0 (λ m. m.key_type) o))

  pub value-type_read : Reads (Calls.value_type w) t (seen_by (λ m. reply (number m.scalars.values)) x)
  unfolding terms effect uncharged
  value-type_read = parts-read (λ m. number m.scalars.values) record { effect_is = λ l. refl; terms_are = λ l. refl } (λ l i o. ap number (reads_map l 0 (λ m. m.value_type) o))

  pub epoch_read : Reads (Calls.map_epoch w) t (seen_by (λ m. reply (number m.scalars.epoch)) x)
  unfolding terms effect uncharged
  epoch_read = parts-read (λ m. number m.scalars.epoch) record { effect_is = λ l. refl; terms_are = λ l. refl } (λ l i o. ap number (ap (λ (s : Maps.Store). s.epoch) (reads_map_store l o)))

  pub sequence_read : Reads (Calls.next_sequence w) t (seen_by (λ m. reply (number m.scalars.next)) x)
  unfolding terms effect uncharged
  sequence_read = parts-read (λ m. number m.scalars.next) record { effect_is = λ l. refl; terms_are = λ l. refl } (λ l i o. ap number (ap (λ (s : Maps.Store). s.next_seq) (reads_map_store l o)))

  pub places_read : Reads (Calls.place_count w) t (seen_by (λ m. reply (number m.header.len)) x)
  unfolding terms effect uncharged raw_at
  places_read = parts-read (λ m. number m.header.len) record { effect_is = λ l. refl; terms_are = λ l. refl } (λ l i o. ap number (map-places g o l))

  pub capacity_read : Reads (Calls.entry_capacity w) t (seen_by (λ m. reply (number m.header.value)) x)
  unfolding terms effect uncharged raw_at
  capacity_read = parts-read (λ m. number m.header.value) record { effect_is = λ l. refl; terms_are = λ l. refl } (λ l i o. ap number (ap (λ (q : Maps.Room). q.capacity) (map_room g o l)))

  pub index_read : Reads (Calls.index_length w) t (seen_by (λ m. reply (number m.header.mode)) x)
  unfolding terms effect uncharged raw_at
  index_read = parts-read (λ m. number m.header.mode) record { effect_is = λ l. refl; terms_are = λ l. refl } (λ l i o. ap number (ap (λ (q : Maps.Room). q.index) (map_room g o l)))

  pub hashed_read : Reads (Calls.is_hashed w) t (seen_by (λ m. reply (truth (yes m.scalars.hashed))) x)
  unfolding terms effect uncharged
  hashed_read = parts-read (λ m. truth (yes m.scalars.hashed)) record { effect_is = λ l. refl; terms_are = λ l. refl } (λ l i o. ap truth (ap (λ (s : Maps.Store). s.hashed) (reads_map_store l o)))

-- ---- the exits of a call that shows what another found

module _ {t : State} {k : Call} {B C : Type 0} (f : B → Answer) (says : C → Answer) {x : Result B Refusal} (d : Reads k t (seen_by f x)) where
  pub shown-ok : {b : B} {c : C} → x ≡ Ok b → says c ≡ f b → Reads k t (seen_by says (Ok c))
  unfolding seen_by
  shown-ok e p = rw p (rw e at d)

  -- where `?` passes the refusal on
  pub passed-on : {q : Refusal} (r : Result C Refusal) → x ≡ Err q → IsErrAnd r (λ e. e ≡ q) → Reads k t (seen_by says r)
  unfolding seen_by
  passed-on r e h = let p = err_from_is_err_and r h in rw (p.1, p.2) (rw e at d)

-- ---- 1, 11 and 2

module _ {t : State} {w : ℕ} {r : Result ℕ Refusal} {q : Refusal} (g : Good t) (d : Locates t.slots t.heap.fresh w 7 r) (e : r ≡ Err q) where
  pub find-refused : {hash key : ℕ} → Reads (Calls.find w hash key) t (perhaps_is (Err q))
  unfolding terms effect uncharged seen_by
  find-refused = row-refused g record { effect_is = λ l. refl; terms_are = λ l. refl } says_map d e

  pub growth-refused : {key : ℕ} → Reads (Calls.growth_bytes w key) t (reading_is (Err q))
  unfolding terms effect uncharged seen_by
  growth-refused = row-refused g record { effect_is = λ l. refl; terms_are = λ l. refl } says_map d e

  pub next-refused : Reads (Calls.next_key w) t (next_seen (Err q))
  unfolding terms effect uncharged seen_by
  next-refused = row-refused g record { effect_is = λ l. refl; terms_are = λ l. refl } says_map d e

  pub noted-refused : Reads (Calls.noted_key w) t (noted_seen (Err q))
  unfolding terms effect uncharged seen_by
  noted-refused = row-refused g record { effect_is = λ l. refl; terms_are = λ l. refl } says_map d e

  pub entry-refused : {pos : ℕ} → Reads (Calls.read_entry w pos) t (entry_seen (Err q))
  unfolding terms effect uncharged seen_by
  entry-refused {pos} l = object-refused l g (Calls.read_entry w pos) {rest = inside pos (Maps.places (map_store (model_of l t) w)) ∷ []} d e says_map refl refl

  pub step-refused : {z : Maps.Cursor} → Reads (Calls.next w z) t (step_seen z (Err q))
  unfolding terms effect step_seen
  step-refused {z} l = object-refused l g (Calls.next w z) {rest = []} d e says_map refl refl

-- ---- a position as a word

pub same_position : (o r : Prelude.Option ℕ) (post : ℕ → ℕ → Type 0) → MatchOption o (r ≡ Prelude.None) (λ p. IsSomeAnd r (post p)) → ((p q : ℕ) → post p q → q ≡ p) → r ≡ o
same_position Prelude.None r post h f = h
same_position (Prelude.Some p) (Prelude.Some q) post h f = ap Prelude.Some (f p q h)
same_position (Prelude.Some p) Prelude.None post h f = absurd h

-- ---- the cursor that `next` is lent

module _ {k : Calls.Call} {t : State} (z : Maps.Cursor) (m : Result Stepped Refusal) (h : Reads k t (step_seen z m)) where
  pub lent-kept : {q : Refusal} → m ≡ Err q → Reads k t (lent_seen z (Err q))
  unfolding step_seen lent_seen seen_by
  lent-kept e = rw e at h

  pub lent-moved : (s : Stepped) → m ≡ Ok s → Reads k t (lent_seen (cursor_is s.cursor) (Ok s.found))
  unfolding step_seen lent_seen seen_by
  lent-moved s e = rw e at h
