-- A map that is changed in its slot. Assumes nothing.
use Rattle.std.proofs.Common.{Result, Err}
use Prim.Native.Nat.{ℕ, ◌+◌, ◌*◌, ◌/◌, ◌≤◌, ◌<◌}
use mathlib.Core.Path.{◌≡◌, refl, ap, sym, ◌∙◌}
use mathlib.Core.Bool.{Bool, true, false}
use mathlib.Core.List.{List, []}
use native.Mathlib.Omega.{arith}
use lib.IntN.{ℤ}
use Rattle.heap_slots.specs.Header.{header_at, scalars_at}
use Rattle.heap_slots.specs.Limits.{HALF, HALF_END}
use Rattle.heap_slots.specs.declared.Header.{Header}
use Rattle.heap_slots.specs.Scalars.{map_part}
use Rattle.heap_slots.specs.declared.Scalars.{Scalars}
use Rattle.heap_cells.specs.Regions.{RawSlot, raw_at, region_of}
use Rattle.map_store.specs.Store as Maps
use Rattle.map_store.specs.Map as Map
use Rattle.map_store.specs.View.{store_of}
use Rattle.map_store.specs.View as View
use Rattle.map_store.specs.declared.MapStore.{MapStore}
use Rattle.model.specs.Calls as Calls
use Rattle.model.specs.Calls.{effect}
use Rattle.model.specs.Content.{Content, map_object}
use Rattle.model.specs.Replies.{nothing}
use Rattle.model.specs.Rules.{on_map, same_room}
use Rattle.model.specs.Terms.{terms, uncharged}
use Rattle.heap.proofs.GoodLaws.{good_as, holds_as}
use Rattle.heap.specs.declared.Refusal.{Refusal}
use Rattle.heap.specs.Answers.{answered, refused}
use Rattle.heap.specs.Kinds.{content_of, map_of, room_of, yes}
use Rattle.heap.specs.Locating.{Locates}
use Rattle.heap.specs.State.{State, more_of, raw_of, with_cells}
use Rattle.heap.specs.Good.{Good, SlotGood}
use Rattle.heap.specs.Promise.{Performs}
use Rattle.heap.proofs.KindLaws.{content-map, raw_cells, raw_words, room-map, says_map}
use Rattle.heap.proofs.ReadLaws.{object_passes, object-refused}
use Rattle.heap.proofs.StepLaws.{OwnCells, raw-cells, raw-words, touched_cells, touched_scalars, touched_words}
use Rattle.heap.proofs.StoreLaws.{Stored, does_stored_free}
use Rattle.heap.proofs.TouchLaws.{Touched, touched_none}
use Rattle.collections_maps.specs.Written.{MapWritten, flag_of, map_scalars}
use Rattle.collections_growth.specs.Words.{map_from}
use Rattle.collections_maps.proofs.MapLaws.{MapHere, here-good, here-slot, map-size}

-- a slot of kind 7
pub map-slot-good : {r : RawSlot} {x : Scalars} → HALF ≤ r.half → r.half < HALF_END → r.kind ≡ 7 → Map.Good (map_of r x) r.cells → r.size ≡ r.value * 5 + r.mode / 2 → x.g < 4294967296 → SlotGood r x
map-slot-good lo hi k m s u = good_as 7 k (omega arith) lo hi (m, s, u)

-- ---- the record written and the cells changed

yes_flag : (b : Bool) → yes (flag_of b) ≡ b
yes_flag true = refl
yes_flag false = refl

map_back : (r : RawSlot) (x : Scalars) (n : MapStore) {s s' t t' : List ℕ} {i : ℕ} → MapWritten s s' t t' i n → map_of (raw_words r n.capacity n.index n.len) (map_scalars x n) ≡ n
map_back r x n w = rw (w.noted, yes_flag n.hashed)

-- the map's contents, its record n and its cells c
abbrev pub map_content : Scalars → MapStore → List ℕ → Content
map_content x n c = map_object record { key_type = x.a; value_type = x.b; store = store_of n c }

-- from b to m slot i was touched; then the record n was written to it and its cells became those of c'
module _ {b m : State} {i : ℕ} {n : MapStore} {s' x' c' : List ℕ} (t : Touched b m i) (within : i < b.heap.fresh) (g : SlotGood (raw_of b i) (more_of b i)) (kind : (raw_of b i).kind ≡ 7)
    (w : MapWritten m.slots m.scalars s' x' i n) (own : OwnCells m.cells c' (header_at m.slots i).start (header_at m.slots i).size) where
  abbrev after : State
  after = record { heap = m.heap; slots = s'; scalars = x'; list = m.list; directory = m.directory; cells = c' }

  pub changed_touched : Touched b after i
  changed_touched = touched_scalars (touched_words (touched_cells t within own) w.header) w.words

  abbrev raw_after : RawSlot
  raw_after = raw_words (raw_cells (raw_of m i) (region_of (header_at m.slots i) c')) n.capacity n.index n.len

  changed-raw : raw_of after i ≡ raw_after
  changed-raw = raw-words c' w.header ∙ ap (λ (r : RawSlot). raw_words r n.capacity n.index n.len) (raw-cells m.slots m.cells c' i)

  kind-is : (raw_of m i).kind ≡ 7
  kind-is = t.kind ∙ kind

  pub changed-good : Map.Good n (region_of (header_at m.slots i) c') → (raw_of m i).size ≡ n.capacity * 5 + n.index / 2 → SlotGood (raw_of after i) (more_of after i)
  changed-good q s = rw (changed-raw, w.words.here) (map-slot-good (omega (arith, t.half, g.half_low)) (omega (arith, t.half, g.half_high)) kind-is (rw (map_back (raw_cells (raw_of m i) (region_of (header_at m.slots i) c')) (more_of m i) n w) q) s w.epoch)

  pub changed-content : content_of (raw_of after i) (more_of after i) ≡ map_content (more_of m i) n (region_of (header_at m.slots i) c')
  changed-content =
      rw (changed-raw, w.words.here)
      (content-map raw_after (map_scalars (more_of m i) n) kind-is
      ∙ ap (λ (z : MapStore). map_content (more_of m i) z (region_of (header_at m.slots i) c')) (map_back (raw_cells (raw_of m i) (region_of (header_at m.slots i) c')) (more_of m i) n w))

  pub changed-room : room_of (raw_of after i) ≡ View.room_of n
  changed-room = rw changed-raw (room-map raw_after kind-is)

-- ---- the map of a state

module _ {t : State} {w i : ℕ} {h : Header} {x : Scalars} {s : MapStore} {c : List ℕ} (m : MapHere t w i h x s c) where
  pub here-content : content_of (raw_of t i) (more_of t i) ≡ map_content x s c
  unfolding raw_at
  here-content = content-map (raw_of t i) (more_of t i) m.target.kind-is ∙ rw (m.map, m.cells, m.header, m.scalars)

  pub here-roomy : room_of (raw_of t i) ≡ View.room_of s
  unfolding raw_at
  here-roomy = room-map (raw_of t i) m.target.kind-is ∙ rw (m.map, m.header)

  -- ---- set_value

  pub value_stored : {pos v : ℕ} {c' : List ℕ} → OwnCells t.cells c' h.start h.size → Map.Valued pos v s (region_of h t.cells) (region_of h c') → Stored t (with_cells t c') i (on_map (λ b. Maps.with_value pos v)) same_room
  unfolding on_map same_room raw_at
  value_stored {c' = c'} own v =
      let o = m.target in
      let g = m.good.each i o.reached.within in
      let z : MapStore = map_from (header_at t.slots i) (map_part (scalars_at t.scalars i)) in
      let sz : s ≡ z = rw (m.map, m.header, m.scalars) in
      let e : Map.Valued _ _ z (region_of (header_at t.slots i) t.cells) (region_of (header_at t.slots i) c') = rw (sz, m.header) at v in
      let after : RawSlot = raw_cells (raw_of t i) (region_of (header_at t.slots i) c') in
      record {
        touched = touched_cells (touched_none i m.good) o.reached.within (rw (← m.header) own);
        slot-good = map-slot-good g.half_low g.half_high o.kind-is e.good (holds_as 7 o.kind-is g).1 (holds_as 7 o.kind-is g).2;
        content = content-map after (more_of t i) o.kind-is ∙ rw (content-map (raw_of t i) (more_of t i) o.kind-is) (ap (λ (q : Maps.Store). map_object record { key_type = (more_of t i).a; value_type = (more_of t i).b; store = q }) e.store);
        room = room-map after o.kind-is ∙ sym (room-map (raw_of t i) o.kind-is);
      }

  pub value_set : {pos v : ℕ} {c' : List ℕ} → OwnCells t.cells c' h.start h.size → Map.Valued pos v s (region_of h t.cells) (region_of h c') → Performs (Calls.set_value w pos v) t (answered nothing) (with_cells t c')
  unfolding terms effect uncharged
  value_set {pos} {v} own e l =
      does_stored_free l m.good m.target.reached (value_stored own e) (Calls.set_value w pos v) refl refl refl (object_passes l m.good (Calls.set_value w pos v) m.target says_map refl) refl refl

  -- ---- note

  note_stored : (k : ℤ) {n : MapStore} {s' x' : List ℕ} → Map.Kept (Maps.noted_key_of k) s n → MapWritten t.slots t.scalars s' x' i n →
      Stored t record { heap = t.heap; slots = s'; scalars = x'; list = t.list; directory = t.directory; cells = t.cells } i (on_map (λ b. Maps.noted_key_of k)) same_room
  unfolding on_map same_room raw_at
  note_stored k {n} {s'} {x'} q u =
      let o = m.target in
      let g = m.good.each i o.reached.within in
      let j = touched_none i m.good in
      let own : OwnCells t.cells t.cells (header_at t.slots i).start (header_at t.slots i).size = record { same_length = refl; outside = λ p z. refl } in
      let ce : c ≡ region_of (header_at t.slots i) t.cells = rw (m.cells, m.header) in
      let room : View.room_of n ≡ View.room_of s = q.room in
      let xe : x ≡ more_of t i = m.scalars in
      record {
        touched = changed_touched j o.reached.within g o.kind-is u own;
        slot-good =
            changed-good j o.reached.within g o.kind-is u own (q.good (region_of (header_at t.slots i) t.cells) (rw (← ce) (here-good m)))
            (let cap : n.capacity ≡ s.capacity = ap (λ (r : Maps.Room). r.capacity) room in
            let ind : n.index ≡ s.index = ap (λ (r : Maps.Room). r.index) room in
            rw (cap, ind, ← m.header) (map-size (here-slot m)));
        content =
            changed-content j o.reached.within g o.kind-is u own
            ∙ rw here-content (rw (← xe, ← ce) (ap (λ (z : Maps.Store). map_object record { key_type = x.a; value_type = x.b; store = z }) (q.store c)));
        room = changed-room j o.reached.within g o.kind-is u own ∙ room ∙ sym here-roomy;
      }

  pub key-noted : {k : ℤ} {n : MapStore} {s' x' : List ℕ} → Map.Kept (Maps.noted_key_of k) s n → MapWritten t.slots t.scalars s' x' i n →
      Performs (Calls.note w k) t (answered nothing) record { heap = t.heap; slots = s'; scalars = x'; list = t.list; directory = t.directory; cells = t.cells }
  unfolding terms effect uncharged
  key-noted {k} q u l =
      does_stored_free l m.good m.target.reached (note_stored k q u) (Calls.note w k) refl refl refl (object_passes l m.good (Calls.note w k) m.target says_map refl) refl refl

module _ {t : State} {w : ℕ} {r : Result ℕ Refusal} {q : Refusal} (g : Good t) (d : Locates t.slots t.heap.fresh w 7 r) (e : r ≡ Err q) where
  pub value-refused : {pos v : ℕ} → Performs (Calls.set_value w pos v) t (refused q) t
  unfolding terms effect uncharged
  value-refused {pos} {v} l = object-refused l g (Calls.set_value w pos v) {rest = []} d e says_map refl refl

  pub note-refused : {k : ℤ} → Performs (Calls.note w k) t (refused q) t
  unfolding terms effect uncharged
  note-refused {k} l = object-refused l g (Calls.note w k) {rest = []} d e says_map refl refl
