-- An item pushed onto an array. Assumes nothing.
use Rattle.std.proofs.Common.{Result, Err}
use Prim.Native.Nat.{ℕ, ◌+◌, ◌*◌, ◌-◌, ◌≤◌, ◌<◌}
use mathlib.Core.Logic.{◌≢◌}
use mathlib.Core.Path.{◌≡◌, refl, ap, sym, ◌∙◌}
use mathlib.Core.Bool.{false, true}
use mathlib.Core.List.{List, [], ◌∷◌, ◌++◌}
use mathlib.Core.Option.{some}
use native.Mathlib.Omega.{arith}
use native.Mathlib.Numerals.{add-one}
use lib.ListN.{length, set, take}
use lib.Seq.{take-suc-set, take-take}
use Rattle.account.specs.declared.Account.{Account}
use Rattle.account.specs.Account.{charged, fits}
use Rattle.heap_slots.specs.Header.{header_at}
use Rattle.heap_slots.specs.Limits.{CELLS_MAX}
use Rattle.heap_slots.specs.declared.Header.{Header}
use Rattle.heap_slots.proofs.Cases.{by_cases, same_or_not}
use Rattle.heap_cells.specs.Regions.{Grown, RawSlot, raw_at, region_of}
use Rattle.heap_cells.specs.declared.Top.{Top}
use Rattle.heap_cells.proofs.RawLaws.{region-length}
use Rattle.history.proofs.Facts.{eqb_no, eqb_yes}
use Rattle.history.proofs.Judging.{fits_so}
use Rattle.layout.specs.Layout.{Layout}
use Rattle.model.specs.Calls as Calls
use Rattle.model.specs.Calls.{effect}
use Rattle.model.specs.Content.{cells_of}
use Rattle.model.specs.Model.{view_of}
use Rattle.model.specs.Replies.{nothing}
use Rattle.model.specs.Refusals.{first, slotless}
use Rattle.model.specs.Rules.{push_item, push_room}
use Rattle.model.specs.Slots as Slots
use Rattle.model.specs.Terms.{charging, push_bytes, terms}
use Rattle.heap.specs.declared.Heap.{Heap}
use Rattle.heap.specs.declared.Refusal.{Refusal}
use Rattle.heap.specs.declared.Refusal.TheVariants as No
use Rattle.heap.specs.Answers.{answered, refused}
use Rattle.heap.specs.Kinds.{content_of, room_of}
use Rattle.heap.specs.Locating.{Locates}
use Rattle.heap.specs.State.{State, model_of, more_of, raw_of, state, with_regions}
use Rattle.heap.specs.Good.{Good}
use Rattle.heap.specs.Promise.{Performs}
use Rattle.heap.proofs.DoesLaws.{does_5, does_7}
use Rattle.heap.proofs.KindLaws.{content-array, raw_cells, raw_words, room-array, says_array}
use Rattle.heap.proofs.ReachLaws.{reached-room}
use Rattle.heap.proofs.ReadLaws.{object_passes, object-refused}
use Rattle.heap.proofs.StepLaws.{own-cell, own-len, raw-cell, raw-words, touched_cells, touched_words}
use Rattle.heap.proofs.StoreLaws.{Stored, added-change, does_stored_charged}
use Rattle.collections_growth.specs.Words.{ItemIs}
use Rattle.collections_arrays.specs.Arrays.{Appended, Appending, Extended, Extending}
use Rattle.collections_growth.specs.Growth.{Lengthened, Lengthening}
use Rattle.collections_arrays.specs.Arrays as Arrays
use Rattle.collections_arrays.proofs.ArrayLaws.{ArrayHere, array-good, array-inside, array-items, items-length}
use Rattle.collections_growth.proofs.GrowthLaws.{lengthened_touched, longer-made, stays_same}

-- ---- the capacity after a push

pub push-more : (len size : ℕ) → len ≤ size → (size ≤ Arrays.push_size len size) × (len < Arrays.push_size len size) × (Arrays.push_size len size ≤ 2 * size + 4)
push-more len size l =
    by_cases (same_or_not len size)
    (λ e. rw (eqb_yes len size e) (omega arith, omega arith, omega arith))
    (λ ne. rw (eqb_no len size ne) (omega arith, omega (arith, ne), omega arith))

pub push-keeps : (len size : ℕ) → len ≢ size → (size ≡ Arrays.push_size len size) × (0 ≡ Arrays.push_bytes len size)
push-keeps len size ne = rw (eqb_no len size ne) (refl, refl)

pub push-refused : {t : State} {w v : ℕ} {r : Result ℕ Refusal} {q : Refusal} → Good t → Locates t.slots t.heap.fresh w 6 r → r ≡ Err q → Performs (Calls.push w v) t (refused q) t
unfolding terms effect charging
push-refused {w = w} {v = v} g d e l = object-refused l g (Calls.push w v) {rest = []} d e says_array refl refl

-- ---- the longer region

module _ {t : State} {i size : ℕ} (g : Good t) (o : Extending t i size) {q : Top} {s' dir' c' : List ℕ} (u : Grown t.heap.fresh i size q t.slots t.directory t.cells s' dir' c') where
  pub grown_appends : Appending s' c' i
  grown_appends =
      let li = o.long.within in
      let len : (header_at s' i).len ≡ (header_at t.slots i).len = ap (λ (x : Header). x.len) u.header in
      let size_is : (header_at s' i).size ≡ size = ap (λ (x : Header). x.size) u.header in
      record {
        slot = omega (arith, li, g.fresh, g.slots_max);
        header = omega (arith, li, g.fresh, g.slots_fit, u.slots_len);
        room = omega (arith, len, size_is, o.room);
        inside = u.laid.inside i li;
        cells_max = u.laid.cells_max;
      }

module _ {t : State} {w i : ℕ} {h : Header} (m : ArrayHere t w i h) where
  pub size_small : h.size ≤ CELLS_MAX
  size_small = let a = array-inside m in omega (arith, a.1, a.2)

  push-capacity : (l : Layout) → Slots.room_of (model_of l t).table w ≡ record { capacity = h.size; index = 0 }
  unfolding raw_at
  push-capacity l = reached-room m.target.reached l ∙ room-array (raw_of t i) m.target.kind-is ∙ rw m.header

  push-charge : (l : Layout) → push_bytes (model_of l t) w ≡ Arrays.push_bytes h.len h.size
  unfolding push_bytes
  push-charge l = rw (push-capacity l, array-items m l, items-length m)

  push_passes : (v : ℕ) (l : Layout) → first (terms (model_of l t) (Calls.push w v)).refusals ≡ 0
  unfolding terms charging
  push_passes v l = object_passes l m.good (Calls.push w v) m.target says_array refl

  -- ---- 5 and 7

  module _ {n : ℕ} (en : n ≡ Arrays.push_bytes h.len h.size) where
    charge-is : (v : ℕ) (l : Layout) → (terms (model_of l t) (Calls.push w v)).charge ≡ some n
    unfolding terms charging
    charge-is v l = ap some (push-charge l ∙ sym en)

    pub push-over : {v : ℕ} → fits t.heap.account n ≡ false → Performs (Calls.push w v) t (refused No.OverBudget) t
    unfolding terms charging
    push-over {v} f l = does_5 l m.good (Calls.push w v) (push_passes v l) (charge-is v l) f refl

    push-added : (v : ℕ) (l : Layout) {size : ℕ} → size ≡ Arrays.push_size h.len h.size →
        cells_of (push_item (view_of (model_of l t)) v (content_of (raw_of t i) (more_of t i))) (push_room (content_of (raw_of t i) (more_of t i)) (room_of (raw_of t i))) ≡ size
    unfolding cells_of push_item push_room raw_at
    push-added v l e =
        let k = m.target.kind-is in
        rw (content-array (raw_of t i) (more_of t i) k, room-array (raw_of t i) k) (rw (← m.header, items-length m) (sym e))

    pub push-full : {v size : ℕ} → fits t.heap.account n ≡ true → size ≡ Arrays.push_size h.len h.size → length t.cells - t.heap.taken < size - h.size → Performs (Calls.push w v) t (refused No.NoCells) t
    unfolding terms effect charging slotless raw_at
    push-full {v} {size} f e o l =
        does_7 l m.good (Calls.push w v) (size - h.size) (push_passes v l) (charge-is v l) (fits_so t.heap.account n f) refl refl
        (added-change l m.good m.target.reached (push_item (view_of (model_of l t)) v) push_room ∙ rw (push-added v l e, ← m.header)) (omega arith) (omega arith) refl

  -- ---- what the longer region asks, and the item behind it

  pub push_asks : {size : ℕ} → size ≡ Arrays.push_size h.len h.size → size - h.size ≤ length t.cells - t.heap.taken → Lengthening t i size
  push_asks e o =
      let a = push-more h.len h.size (array-inside m).0 in
      record {
        within = m.target.reached.within;
        more = rw (← m.header) (omega (arith, a.0));
        fits = rw (← m.header) (omega (arith, a.0, m.good.cells_fit));
      }

  pub push_extends : {size : ℕ} → size ≡ Arrays.push_size h.len h.size → size - h.size ≤ length t.cells - t.heap.taken → Extending t i size
  push_extends e o =
      let a = push-more h.len h.size (array-inside m).0 in
      record { long = push_asks e o; room = rw (← m.header) (omega (arith, a.1)) }

  module _ {size : ℕ} {a : Account} {r : Heap} {s' dir' c' : List ℕ} (e : size ≡ Arrays.push_size h.len h.size) (o : size - h.size ≤ length t.cells - t.heap.taken) (u : Lengthened t i size a r s' dir' c') where
    new-size : (header_at s' i).size ≡ size
    new-size = ap (λ (x : Header). x.size) u.grown.header

    pub push_appends : Appending s' c' i
    push_appends = grown_appends m.good (push_extends e o) u.grown

    -- ---- the array with the item

    module _ {v x : ℕ} {s'' c'' : List ℕ} (it : ItemIs t h.mode v x) (p : Appended s' c' s'' c'' i x) where
      abbrev after : State
      after = record {
        heap = with_regions t.heap a r.top r.entries (t.heap.taken + (size - (header_at t.slots i).size));
        slots = s'';
        scalars = t.scalars;
        list = t.list;
        directory = dir';
        cells = c'';
      }

      abbrev long_region : List ℕ
      long_region = region_of (header_at s' i) c'

      abbrev raw_after : RawSlot
      raw_after = record { half = (raw_of t i).half; kind = (raw_of t i).kind; value = (raw_of t i).value; mode = (raw_of t i).mode; len = h.len + 1; size = size; cells = set long_region h.len x }

      after-raw : raw_of after i ≡ raw_after
      unfolding raw_at
      after-raw =
          let q = push_appends in
          let w = own-len {s = s'} {s' = s''} {i = i} q.header {v = (header_at s' i).len + 1} p.len in
          let one : raw_at s'' c'' i ≡ raw_words (raw_at s' c'' i) (header_at s' i).value (header_at s' i).mode ((header_at s' i).len + 1) = raw-words c'' w in
          let two : raw_at s' c'' i ≡ raw_cells (raw_at s' c' i) (set long_region (header_at s' i).len x) = ap (λ (z : List ℕ). raw_at s' z i) p.item ∙ raw-cell s' c' i (header_at s' i).len x q.room in
          one
          ∙ ap (λ (z : RawSlot). raw_words z (header_at s' i).value (header_at s' i).mode ((header_at s' i).len + 1)) two
          ∙ ap (λ (z : Header). record { half = z.half; kind = z.kind; value = z.value; mode = z.mode; len = z.len + 1; size = z.size; cells = set long_region z.len x }) u.grown.header
          ∙ rw (← m.header)

      long-length : length long_region ≡ size
      long-length = region-length (header_at s' i) c' push_appends.inside ∙ new-size

      items-after : take (h.len + 1) (set long_region h.len x) ≡ take h.len (region_of h t.cells) ++ (x ∷ [])
      items-after =
          let b = push-more h.len h.size (array-inside m).0 in
          let f : take h.size long_region ≡ region_of h t.cells = rw m.header u.grown.front in
          rw (add-one h.len) (take-suc-set long_region h.len x (omega (arith, long-length, b.1)))
          ∙ ap (λ (z : List ℕ). z ++ (x ∷ [])) (sym (take-take h.len h.size long_region (array-inside m).0) ∙ ap (take h.len) f)

      push-content : (l : Layout) → content_of (raw_of after i) (more_of t i) ≡ push_item (view_of (model_of l t)) v (content_of (raw_of t i) (more_of t i))
      unfolding push_item raw_at
      push-content l =
          let k = m.target.kind-is in
          rw after-raw
          (content-array raw_after (more_of t i) k
          ∙ rw (content-array (raw_of t i) (more_of t i) k, items-after, ← m.header, it.is l))

      pushed_room : room_of (raw_of after i) ≡ push_room (content_of (raw_of t i) (more_of t i)) (room_of (raw_of t i))
      unfolding push_room raw_at
      pushed_room =
          let k = m.target.kind-is in
          rw after-raw (room-array raw_after k ∙ rw (content-array (raw_of t i) (more_of t i) k, room-array (raw_of t i) k) (rw (← m.header, items-length m, e)))

      push_stored : (l : Layout) → Stored t after i (push_item (view_of (model_of l t)) v) push_room
      unfolding raw_at
      push_stored l =
          let q = push_appends in
          let o' = m.target in
          let li = o'.reached.within in
          let w = own-len {s = s'} {s' = s''} {i = i} q.header {v = (header_at s' i).len + 1} p.len in
          let own = own-cell {c = c'} {c' = c''} (header_at s' i).start (header_at s' i).size (header_at s' i).len x q.room p.item in
          record {
            touched = touched_words (touched_cells (lengthened_touched m.good (push_asks e o) u) li own) w;
            slot-good = rw after-raw (array-good (more_of t i) (m.good.each i li) refl o'.kind-is (omega (arith, push-more h.len h.size (array-inside m).0)));
            content = push-content l;
            room = pushed_room;
          }

    pub pushed : {v x n : ℕ} {s'' c'' : List ℕ} → n ≡ Arrays.push_bytes h.len h.size → (fits t.heap.account n ≡ true) × (a ≡ charged t.heap.account n) → ItemIs t h.mode v x → Appended s' c' s'' c'' i x →
        Performs (Calls.push w v) t (answered nothing) (state r s'' t.scalars t.list dir' c'')
    unfolding terms effect charging
    pushed {v} {n = n} en f it p l =
        rw u.heap
        (does_stored_charged l m.good m.target.reached (push_stored it p l) (Calls.push w v) refl (charge-is en v l) f.0 f.1 (push_passes v l) refl refl)

  pub push-done : {v size n : ℕ} {b : Account} {a : State} → size ≡ Arrays.push_size h.len h.size → size - h.size ≤ length t.cells - t.heap.taken → Extended t i size h.mode v a →
      n ≡ Arrays.push_bytes h.len h.size → (fits t.heap.account n ≡ true) × (b ≡ charged t.heap.account n) →
      Performs (Calls.push w v) t (answered nothing) (state (with_regions a.heap b a.heap.top a.heap.entries (a.heap.taken + (size - h.size))) a.slots t.scalars t.list a.directory a.cells)
  push-done e o x en f = pushed e o (longer-made m.good (push_asks e o) m.header x.longer) en f x.item x.appended

  -- ---- where the array has room for the item, it keeps its region

  module _ (ne : h.len ≢ h.size) where
    room_asks : Lengthening t i h.size
    room_asks = push_asks (push-keeps _ _ ne).0 (omega arith)

    room-stays : Lengthened t i h.size t.heap.account t.heap t.slots t.directory t.cells
    room-stays = stays_same m.good room_asks m.header (omega arith)

    pub room-over : {v : ℕ} → fits t.heap.account 0 ≡ false → Performs (Calls.push w v) t (refused No.OverBudget) t
    room-over f = push-over (push-keeps _ _ ne).1 f

    pub room_appends : Appending t.slots t.cells i
    room_appends = push_appends (push-keeps _ _ ne).0 (omega arith) room-stays

    pub room_pushed : {v x : ℕ} {s'' c'' : List ℕ} → (fits t.heap.account 0 ≡ true) × (t.heap.account ≡ charged t.heap.account 0) → ItemIs t h.mode v x → Appended t.slots t.cells s'' c'' i x →
        Performs (Calls.push w v) t (answered nothing) (state t.heap s'' t.scalars t.list t.directory c'')
    room_pushed f it p = pushed (push-keeps _ _ ne).0 (omega arith) room-stays (push-keeps _ _ ne).1 f it p
