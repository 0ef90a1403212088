-- Maps that entries are added to and removed from. Assumes nothing.
use Prim.Native.Nat.{ℕ, ◌+◌, ◌*◌, ◌-◌, ◌/◌, ◌≤◌, ◌<◌}
use mathlib.Core.Path.{◌≡◌, refl, ap, sym, ◌∙◌}
use mathlib.Core.Bool.{Bool, true, false, cond}
use mathlib.Core.List.{List}
use native.Mathlib.Omega.{arith}
use lib.Dec.{eqb, ltb}
use lib.ListN.{get_or, length, take}
use lib.Seq.{get_or-take}
use borrow.Rule.Slice.PartMut.{mid_of, put_mid}
use Rattle.account.specs.declared.Account.{Account}
use Rattle.heap_slots.specs.Header.{header_at}
use Rattle.heap_slots.specs.Limits.{SLOT_WORDS, SLOTS_MAX}
use Rattle.heap_slots.specs.declared.Header.{Header}
use Rattle.heap_slots.specs.declared.Scalars.{Scalars}
use Rattle.heap_cells.specs.Regions.{raw_at, region_of}
use Rattle.heap_cells.proofs.RawLaws.{region-length}
use Rattle.map_store.specs.Store as Maps
use Rattle.map_store.specs.Map as Map
use Rattle.map_store.specs.GoodLaws.{good_longer}
use Rattle.map_store.specs.View.{store_of}
use Rattle.map_store.specs.View as View
use Rattle.map_store.specs.declared.MapStore.{MapStore}
use Rattle.model.specs.Content.{Content, map_object}
use Rattle.heap.specs.declared.Heap.{Heap}
use Rattle.heap.specs.Kinds.{content_of, room_of}
use Rattle.heap.specs.State.{State, more_of, raw_of, with_regions}
use Rattle.heap.proofs.StoreLaws.{Stored}
use Rattle.collections_maps.specs.Changes.{InRegion, Inserting, Removing, room_after, room_without}
use Rattle.collections_growth.specs.Growth.{Lengthened, Lengthening}
use Rattle.collections_maps.specs.Written.{MapWritten}
use Rattle.collections_growth.proofs.GrowthLaws.{lengthened_touched}
use Rattle.collections_maps.proofs.MapLaws.{MapSlot, map-good}
use Rattle.collections_maps.proofs.MapStoreLaws.{changed-content, changed-good, changed-room, changed_touched}
use Rattle.collections_growth.proofs.RegionLaws.{put-own, put-region, region-part}

-- ---- a call that was lent the map's cells

pub in_region : (h : Header) (c : List ℕ) {rule : Maps.Store → Maps.Store} (room : List ℕ → Maps.Room) {s r : MapStore} (ys : List ℕ) → h.start + h.size ≤ length c → length ys ≡ length (mid_of h.start (h.start + h.size - h.start) c) →
    Map.Became rule (room (mid_of h.start (h.start + h.size - h.start) c)) s (mid_of h.start (h.start + h.size - h.start) c) r ys →
    InRegion rule (room (region_of h c)) h s c r (put_mid h.start (h.start + h.size - h.start) c ys)
in_region h c room ys inside same w = record { own = put-own h c ys inside same; became = rw (put-region h c ys inside same) (rw (region-part h c) at w) }

-- ---- room never becomes less

capacity-more : (b : Bool) (n : ℕ) → n ≤ cond b (Maps.grown_capacity n) n
capacity-more true n = omega arith
capacity-more false n = omega arith

doubled_more : (n l : ℕ) → n ≤ Maps.doubled_index n l
unfolding Maps.doubled_index
doubled_more n l = go (ltb n (2 * (l + 1)))
  where
    go : (b : Bool) → n ≤ cond b (2 * n) n
    go true = omega arith
    go false = omega arith

hashed-more : (b : Bool) (n k : ℕ) → (b ≡ false → n ≡ 0) → n ≤ cond b n k
hashed-more true n k z = omega arith
hashed-more false n k z = omega (arith, z refl)

index-more : (b p : Bool) (n k l : ℕ) → (b ≡ false → n ≡ 0) → n ≤ cond p n (Maps.doubled_index (cond b n k) l)
index-more b true n k l z = omega arith
index-more b false n k l z = omega (arith, hashed-more b n k z, doubled_more (cond b n k) l)

module _ {s : MapStore} {c : List ℕ} (g : Map.Good s c) where
  pub insert-more : (t : Bool) (key : ℕ) → s.capacity * 5 + s.index / 2 ≤ Maps.cells_of (room_after t key s c)
  unfolding Maps.room_after_insert
  insert-more t key =
      let a = capacity-more (eqb (Maps.places (store_of s c)) s.capacity) s.capacity in
      let b = index-more s.hashed (Maps.stays_packed t key (store_of s c)) s.index (Maps.index_for (Maps.living (store_of s c))) (Maps.living (store_of s c)) g.packed in
      omega arith

  pub remove-more : s.capacity * 5 + s.index / 2 ≤ Maps.cells_of (room_without s c)
  unfolding Maps.room_after_remove
  remove-more = let b = hashed-more s.hashed s.index (Maps.index_for (Maps.living (store_of s c))) g.packed in omega arith

-- ---- the map in its longer region

module _ {t : State} {i : ℕ} {h : Header} {x : Scalars} {s : MapStore} {c : List ℕ} (m : MapSlot t i h x s c) where
  pub slot_lengthens : {size : ℕ} → h.size ≤ size → size - h.size ≤ length t.cells - t.heap.taken → Lengthening t i size
  slot_lengthens l o = record { within = m.within; more = rw (← m.header) l; fits = rw (← m.header) (omega (arith, m.good.cells_fit)) }

  cells-long : length c ≡ h.size
  cells-long = rw m.cells (region-length h t.cells (rw m.header (m.good.laid.inside i m.within)))

  module _ {size : ℕ} {a : Account} {r : Heap} {s' dir' c' : List ℕ} (y : Lengthening t i size) (u : Lengthened t i size a r s' dir' c') where
    long-size : (header_at s' i).size ≡ size
    long-size = ap (λ (z : Header). z.size) u.grown.header

    pub long-inside : (header_at s' i).start + (header_at s' i).size ≤ length c'
    long-inside = u.grown.laid.inside i m.within

    long-length : length (region_of (header_at s' i) c') ≡ size
    long-length = region-length (header_at s' i) c' long-inside ∙ long-size

    long-front : (k : ℕ) → k < length c → get_or (region_of (header_at s' i) c') k 0 ≡ get_or c k 0
    long-front k l =
        let n : ℕ = (header_at t.slots i).size in
        let e : n ≡ length c = rw (← m.header) (sym cells-long) in
        let f : take n (region_of (header_at s' i) c') ≡ c = rw (m.cells, m.header) u.grown.front in
        sym (get_or-take n (region_of (header_at s' i) c') k 0 (omega arith)) ∙ ap (λ (z : List ℕ). get_or z k 0) f

    long : Map.Good s (region_of (header_at s' i) c') × (store_of s (region_of (header_at s' i) c') ≡ store_of s c)
    long =
        good_longer s c (region_of (header_at s' i) c') (let e : h.size ≤ size = rw m.header y.more in omega (arith, cells-long, long-length))
        (omega (arith, long-length, long-size, long-inside, u.grown.laid.cells_max)) long-front (map-good m)

    pub long-good : Map.Good s (region_of (header_at s' i) c')
    long-good = long.0

    pub long-store : store_of s (region_of (header_at s' i) c') ≡ store_of s c
    long-store = long.1

    pub long-fits : (i < SLOTS_MAX) × (i * SLOT_WORDS + SLOT_WORDS ≤ length s') × (i * SLOT_WORDS + SLOT_WORDS ≤ length t.scalars)
    long-fits =
        let g = m.good in
        (omega (arith, m.within, g.fresh, g.slots_max), omega (arith, m.within, g.fresh, g.slots_fit, u.grown.slots_len), omega (arith, m.within, g.fresh, g.scalars_fit))

    pub insert_asks : {b : Bool} {key : ℕ} {h' : Header} → h' ≡ header_at s' i → size ≡ Maps.cells_of (room_after b key s c) → s.fresh < 4294967296 → Inserting c' h' s b key
    insert_asks {b} {key} e z f =
        let q : Maps.cells_of (room_after b key s (region_of (header_at s' i) c')) ≡ size = rw long-store (sym z) in
        rw e record { inside = long-inside; good = long-good; room = omega (arith, long-size); number = f }

    pub remove_asks : {h' : Header} → h' ≡ header_at s' i → size ≡ Maps.cells_of (room_without s c) → Removing c' h' s
    remove_asks e z =
        let q : Maps.cells_of (room_without s (region_of (header_at s' i) c')) ≡ size = rw long-store (sym z) in
        rw e record { inside = long-inside; good = long-good; room = omega (arith, long-size) }

    -- ---- the map with the rule applied

    module _ {rule : Maps.Store → Maps.Store} {R : Maps.Room} {n : MapStore} {s'' x'' c'' : List ℕ} (v : InRegion rule R (header_at s' i) s c' n c'') (w : MapWritten s' t.scalars s'' x'' i n) (z : size ≡ Maps.cells_of R) where
      abbrev pub changed_state : State
      changed_state = record {
        heap = with_regions t.heap a r.top r.entries (t.heap.taken + (size - (header_at t.slots i).size));
        slots = s'';
        scalars = x'';
        list = t.list;
        directory = dir';
        cells = c'';
      }

      pub map_stored : {p : Content → Content} {q : Content → Maps.Room → Maps.Room} → p (content_of (raw_of t i) (more_of t i)) ≡ map_object record { key_type = x.a; value_type = x.b; store = rule (store_of s c) } →
          q (content_of (raw_of t i) (more_of t i)) (room_of (raw_of t i)) ≡ R → Stored t changed_state i p q
      unfolding raw_at
      map_stored {p} {q} e f =
          let j = lengthened_touched m.good y u in
          let g = m.good.each i m.within in
          let room : View.room_of n ≡ R = v.became.room in
          let cap : n.capacity ≡ R.capacity = ap (λ (k : Maps.Room). k.capacity) room in
          let ind : n.index ≡ R.index = ap (λ (k : Maps.Room). k.index) room in
          record {
            touched = changed_touched j m.within g m.kind w v.own;
            slot-good = changed-good j m.within g m.kind w v.own v.became.good (long-size ∙ z ∙ rw (cap, ind) (omega arith));
            content =
                changed-content j m.within g m.kind w v.own
                ∙ rw (e, ← m.scalars) (ap (λ (k : Maps.Store). map_object record { key_type = x.a; value_type = x.b; store = k }) (v.became.store ∙ ap rule long-store));
            room = changed-room j m.within g m.kind w v.own ∙ room ∙ sym f;
          }
