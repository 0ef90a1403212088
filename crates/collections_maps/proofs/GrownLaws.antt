-- Maps whose region becomes longer before they change. Assumes nothing.
use Prim.Native.Nat.{ℕ, ◌+◌, ◌*◌, ◌-◌, ◌≤◌, ◌<◌}
use mathlib.Core.Path.{◌≡◌, refl, ap, subst}
use mathlib.Core.Bool.{Bool, true, false}
use mathlib.Core.List.{List}
use native.Mathlib.Omega.{arith}
use lib.ListN.{length}
use Rattle.account.specs.declared.Account.{Account}
use Rattle.account.specs.Account.{charged, fits}
use Rattle.heap_slots.specs.Header.{header_at, scalars_at}
use Rattle.heap_slots.specs.Limits.{SLOT_WORDS, SLOTS_MAX}
use Rattle.heap_slots.specs.declared.Header.{Header}
use Rattle.heap_slots.specs.declared.Scalars.{Scalars}
use Rattle.heap_cells.specs.Regions.{Grown, region_of}
use Rattle.heap_cells.specs.declared.Top.{Top}
use Rattle.layout.specs.Layout.{is_traced}
use Rattle.map_store.specs.Store as Maps
use Rattle.map_store.specs.View.{room_of, store_of}
use Rattle.map_store.specs.declared.MapStore.{MapStore}
use Rattle.model.specs.Replies.{nothing}
use Rattle.heap.specs.declared.Heap.{Heap}
use Rattle.heap.specs.declared.Refusal.TheVariants as No
use Rattle.heap.specs.Answers.{answered, refused}
use Rattle.heap.specs.State.{State, state, with_moved, with_regions}
use Rattle.heap.specs.Good.{Good}
use Rattle.collections_growth.specs.Growth.{Lengthened, Lengthening, Longer}
use Rattle.collections_growth.proofs.GrowthLaws.{longer-made}
use Rattle.collections_maps.specs.Changes.{InRegion, InsertAsks, Inserting, Inserts, IsMap, Ready, RemoveAsks, Removes, Removing, Rewritten, cells_at, map_at, room_after, room_without}
use Rattle.collections_maps.specs.Written.{MapWritten}
use Rattle.collections_maps.specs.declared.changes.Insertion.{Insertion}
use Rattle.collections_maps.specs.declared.changes.Removal.{Removal}
use Rattle.collections_maps.proofs.ChangeLaws.{insert_asks, insert-more, long-fits, long-store, remove_asks, remove-more}
use Rattle.collections_maps.proofs.InsertLaws.{inserts_done, inserts_full, inserts_over, inserts_spent}
use Rattle.collections_maps.proofs.MapLaws.{MapSlot, map-good, map-size}
use Rattle.collections_maps.proofs.RemoveLaws.{removes-done, removes-full}

slot_at : {t : State} {i : ℕ} {s : MapStore} → Good t → IsMap t i → s ≡ map_at t i → MapSlot t i (header_at t.slots i) (scalars_at t.scalars i) s (cells_at t i)
slot_at g o e = record { good = g; within = o.within; kind = o.kind; header = refl; scalars = refl; map = e; cells = refl }

-- ---- what a change asks

module _ {t : State} {i : ℕ} {h : Header} {x : Scalars} {s : MapStore} {c : List ℕ} (m : MapSlot t i h x s c) where
  pub insert_longer : (b : Bool) (key : ℕ) {size : ℕ} → size ≡ Maps.cells_of (room_after b key s c) → h.size ≤ size
  insert_longer b key e = omega (arith, map-size m, insert-more (map-good m) b key)

  pub remove_longer : {size : ℕ} → size ≡ Maps.cells_of (room_without s c) → h.size ≤ size
  remove_longer e = omega (arith, map-size m, remove-more (map-good m))

  pub insert-asked : {r : Insertion} {key : ℕ} → r.map ≡ s → r.traced ≡ is_traced x.a → r.bytes ≡ Maps.bytes_of_growth t.heap.weights.entry r.traced key (store_of s c) (room_of s) →
      r.size ≡ Maps.cells_of (room_after r.traced key s c) → r.more ≡ r.size - h.size → InsertAsks t i key r
  insert-asked {r} {key} em et eb es eo =
      let grows : h.size ≤ r.size = insert_longer r.traced key es in
      record {
        map = rw (em, m.map, m.header, m.scalars);
        traced = rw (← m.scalars) et;
        bytes = rw (em, ← m.header, ← m.cells) eb;
        size = rw (em, ← m.header, ← m.cells) es;
        grows = rw (← m.header) grows;
        more = rw (← m.header) eo;
      }

  pub remove-asked : {r : Removal} → r.map ≡ s → r.size ≡ Maps.cells_of (room_without s c) → r.more ≡ r.size - h.size → RemoveAsks t i r
  remove-asked {r} em es eo =
      let grows : h.size ≤ r.size = remove_longer es in
      record {
        map = rw (em, m.map, m.header, m.scalars);
        size = rw (em, ← m.header, ← m.cells) es;
        grows = rw (← m.header) grows;
        more = rw (← m.header) eo;
      }

lengthens : {t : State} {i size more : ℕ} → Good t → IsMap t i → (header_at t.slots i).size ≤ size → more ≡ size - (header_at t.slots i).size → more ≤ length t.cells - t.heap.taken → Lengthening t i size
lengthens g o l e f = record { within = o.within; more = l; fits = omega (arith, g.cells_fit) }

-- ---- the longer region

module _ {t : State} {i size : ℕ} {s : MapStore} {room : Maps.Room} (g : Good t) (o : Ready t i s room size) {q : Top} {s' dir' c' : List ℕ} (u : Grown t.heap.fresh i size q t.slots t.directory t.cells s' dir' c') where
  abbrev grown_heap : Heap
  grown_heap = with_regions t.heap t.heap.account q.cells q.entries (t.heap.taken + (size - (header_at t.slots i).size))

  grown_now : Lengthened t i size t.heap.account grown_heap s' dir' c'
  grown_now = record { heap = refl; grown = u }

  pub grown-fits : (i < SLOTS_MAX) × (i * SLOT_WORDS + SLOT_WORDS ≤ length s') × (i * SLOT_WORDS + SLOT_WORDS ≤ length t.scalars)
  grown-fits = long-fits (slot_at g o.slot o.map) o.long grown_now

  grown-store : store_of s (region_of (header_at s' i) c') ≡ store_of s (cells_at t i)
  grown-store = long-store (slot_at g o.slot o.map) o.long grown_now

module _ {t : State} {i size key : ℕ} {s : MapStore} {b : Bool} (g : Good t) (o : Ready t i s (room_after b key s (cells_at t i)) size) {q : Top} {s' dir' c' : List ℕ} (u : Grown t.heap.fresh i size q t.slots t.directory t.cells s' dir' c') where
  pub grown_inserting : {h : Header} → h ≡ header_at s' i → s.fresh < 4294967296 → Inserting c' h s b key
  grown_inserting e f = insert_asks (slot_at g o.slot o.map) o.long (grown_now g o u) e o.size_is f

module _ {t : State} {i size : ℕ} {s : MapStore} (g : Good t) (o : Ready t i s (room_without s (cells_at t i)) size) {q : Top} {s' dir' c' : List ℕ} (u : Grown t.heap.fresh i size q t.slots t.directory t.cells s' dir' c') where
  pub grown_removing : {h : Header} → h ≡ header_at s' i → Removing c' h s
  grown_removing e = remove_asks (slot_at g o.slot o.map) o.long (grown_now g o u) e o.size_is

-- what was done to the map, its region being longer
pub inserted_so : (b : Bool) (hash key value : ℕ) {t : State} {i size : ℕ} {s : MapStore} {m : Heap} {s' dir' c' : List ℕ} {h : Header} {n : MapStore} {s'' x'' c'' : List ℕ} → Good t → Ready t i s (room_after b key s (cells_at t i)) size →
    Longer t i size (with_moved t m s' dir' c') → h ≡ header_at s' i → InRegion (Maps.inserted b hash key value) (room_after b key s (region_of h c')) h s c' n c'' → MapWritten s' t.scalars s'' x'' i n →
    Rewritten t i size s (Maps.inserted b hash key value) (room_after b key s (cells_at t i)) (state m s'' x'' t.list dir' c'')
inserted_so b hash key value {i = i} {s = s} {s' = s'} {c' = c'} {n = n} {c'' = c''} g o u e v w =
    let v₁ : InRegion (Maps.inserted b hash key value) (room_after b key s (region_of (header_at s' i) c')) (header_at s' i) s c' n c'' = rw e at v in
    record { slots = s'; cells = c'; map = n; longer = u; applied = rw (grown-store g o u.grown) at v₁; written = w }

pub removed_so : (pos : ℕ) {t : State} {i size : ℕ} {s : MapStore} {m : Heap} {s' dir' c' : List ℕ} {h : Header} {n : MapStore} {s'' x'' c'' : List ℕ} → Good t → Ready t i s (room_without s (cells_at t i)) size →
    Longer t i size (with_moved t m s' dir' c') → h ≡ header_at s' i → InRegion (Maps.removed_at pos) (room_without s (region_of h c')) h s c' n c'' → MapWritten s' t.scalars s'' x'' i n →
    Rewritten t i size s (Maps.removed_at pos) (room_without s (cells_at t i)) (state m s'' x'' t.list dir' c'')
removed_so pos {i = i} {s = s} {s' = s'} {c' = c'} {n = n} {c'' = c''} g o u e v w =
    let v₁ : InRegion (Maps.removed_at pos) (room_without s (region_of (header_at s' i) c')) (header_at s' i) s c' n c'' = rw e at v in
    record { slots = s'; cells = c'; map = n; longer = u; applied = rw (grown-store g o u.grown) at v₁; written = w }

-- ---- what insert_at shows

-- the record with another account, and `more` cells taken
abbrev grown_by : Heap → Account → ℕ → Heap
grown_by h a more = with_regions h a h.top h.entries (h.taken + more)

module _ {t : State} {i size more : ℕ} {s : MapStore} {rule : Maps.Store → Maps.Store} {room : Maps.Room} {a : State} (g : Good t) (y : Lengthening t i size) (e : more ≡ size - (header_at t.slots i).size) (w : Rewritten t i size s rule room a) where
  rewritten-long : (b : Account) → Lengthened t i size b (grown_by a.heap b more) w.slots a.directory w.cells
  rewritten-long b = rw e (longer-made g y refl w.longer)

  -- nothing is charged
  rewritten-free : Lengthened t i size t.heap.account (grown_by a.heap a.heap.account more) w.slots a.directory w.cells
  rewritten-free =
      let same : a.heap.account ≡ t.heap.account = ap (λ (z : Heap). z.account) w.longer.heap in
      subst (λ (z : Account). Lengthened t i size z (grown_by a.heap a.heap.account more) w.slots a.directory w.cells) same (rewritten-long a.heap.account)

module _ {t : State} {i key : ℕ} {r : Insertion} (g : Good t) (o : IsMap t i) (k : InsertAsks t i key r) where
  insertion_slot : MapSlot t i (header_at t.slots i) (scalars_at t.scalars i) r.map (cells_at t i)
  insertion_slot = slot_at g o k.map

  pub insertion_spent : {hash value : ℕ} → 4294967296 ≤ r.map.fresh → Inserts t i hash key value (refused No.Spent) t
  insertion_spent f = inserts_spent insertion_slot f

  pub insertion_ready : r.more ≤ length t.cells - t.heap.taken → Ready t i r.map (room_after r.traced key r.map (cells_at t i)) r.size
  insertion_ready f = record { slot = o; map = k.map; size_is = k.size; long = lengthens g o k.grows k.more f }

  module _ {hash value : ℕ} (f : r.map.fresh < 4294967296) where
    pub insertion_over : fits t.heap.account r.bytes ≡ false → Inserts t i hash key value (refused No.OverBudget) t
    insertion_over z = inserts_over insertion_slot f k.traced k.bytes z

    pub insertion_full : fits t.heap.account r.bytes ≡ true → length t.cells - t.heap.taken < r.more → Inserts t i hash key value (refused No.NoCells) t
    insertion_full z l = inserts_full insertion_slot f k.traced k.bytes z k.size (rw k.more at l)

    pub insertion_done : {b : Account} {a : State} → r.more ≤ length t.cells - t.heap.taken → Rewritten t i r.size r.map (Maps.inserted r.traced hash key value) (room_after r.traced key r.map (cells_at t i)) a →
        (fits t.heap.account r.bytes ≡ true) × (b ≡ charged t.heap.account r.bytes) → Inserts t i hash key value (answered nothing) (state (grown_by a.heap b r.more) a.slots a.scalars t.list a.directory a.cells)
    insertion_done {b} l w p =
        let y = lengthens g o k.grows k.more l in
        let v = rw (← grown-store g (insertion_ready l) w.longer.grown) at w.applied in
        inserts_done insertion_slot f k.traced k.bytes y (rewritten-long g y k.more w b) refl v w.written k.size p

-- ---- what remove_place shows

module _ {t : State} {i : ℕ} {r : Removal} (g : Good t) (o : IsMap t i) (k : RemoveAsks t i r) where
  removal_slot : MapSlot t i (header_at t.slots i) (scalars_at t.scalars i) r.map (cells_at t i)
  removal_slot = slot_at g o k.map

  pub removal_full : {pos : ℕ} → length t.cells - t.heap.taken < r.more → Removes t i pos (refused No.NoCells) t
  removal_full l = removes-full removal_slot k.size (rw k.more at l)

  module _ (l : r.more ≤ length t.cells - t.heap.taken) where
    pub removal_done : {pos : ℕ} {a : State} → Rewritten t i r.size r.map (Maps.removed_at pos) (room_without r.map (cells_at t i)) a →
        Removes t i pos (answered nothing) (state (grown_by a.heap a.heap.account r.more) a.slots a.scalars t.list a.directory a.cells)
    removal_done w =
        let y = lengthens g o k.grows k.more l in
        let e : Ready t i r.map (room_without r.map (cells_at t i)) r.size = record { slot = o; map = k.map; size_is = k.size; long = y } in
        let v = rw (← grown-store g e w.longer.grown) at w.applied in
        removes-done removal_slot y (rewritten-free g y k.more w) refl v w.written k.size

module _ {t : State} {i : ℕ} {r : Removal} (g : Good t) (o : IsMap t i) (k : RemoveAsks t i r) (f : r.more ≤ length t.cells - t.heap.taken) where
  pub removal_ready : Ready t i r.map (room_without r.map (cells_at t i)) r.size
  removal_ready = record { slot = o; map = k.map; size_is = k.size; long = lengthens g o k.grows k.more f }
