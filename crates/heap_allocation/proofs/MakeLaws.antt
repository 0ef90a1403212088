-- A new object of any kind: refused, or placed. Assumes nothing.
use Rattle.std.proofs.Common.{Result, Ok, Err}
use Prim.Native.Nat.{ℕ, ◌+◌, ◌*◌, ◌≤◌, ◌<◌}
use mathlib.Core.Path.{◌≡◌, refl, ap, sym, ◌∙◌}
use mathlib.Core.Logic.{◌≢◌}
use mathlib.Core.List.{List, []}
use mathlib.Core.Option.{some}
use native.Mathlib.Omega.{arith}
use lib.Dec.{leb}
use lib.ListN.{length, get_or, take, drop}
use Rattle.heap_slots.specs.Limits.{HALF, SLOT_WORDS, SLOTS_MAX}
use Rattle.account.specs.Account.{saturated}
use Rattle.heap_slots.specs.Header.{set_scalars, with_region}
use Rattle.heap_slots.specs.declared.Header.{Header}
use Rattle.heap_slots.specs.declared.Scalars.{Scalars}
use Rattle.heap_slots.proofs.Cases.{by_cases, same_or_not}
use Rattle.heap_slots.proofs.HeaderLaws.{scalars_at-same}
use Rattle.history.proofs.Facts.{eqb_no, eqb_yes, leb_no, leb_yes}
use Rattle.layout.specs.Layout.{Layout}
use Rattle.map_store.specs.Store.{Room}
use Rattle.model.specs.Calls.{Call, add, effect}
use Rattle.model.specs.Content.{Content, bytes_of, cells_of}
use Rattle.model.specs.Replies.{no_memory}
use Rattle.model.specs.Model.{view_of}
use Rattle.model.specs.Refusals.{first, unless}
use Rattle.model.specs.Terms.{allocating, charging, terms}
use Rattle.heap.specs.declared.Heap.{Heap}
use Rattle.heap.specs.declared.Refusal.{Refusal}
use Rattle.heap.specs.declared.Refusal.TheVariants as No
use Rattle.heap.specs.Answers.{accepted, made_is, number_of, seen_by}
use Rattle.heap.specs.Kinds.{content_of, room_of}
use Rattle.heap.specs.State.{State, model_of, more_of, with_cells, with_scalars}
use Rattle.heap.specs.Good.{Good}
use Rattle.heap.specs.Promise.{Performs}
use Rattle.heap.specs.Placing.{Object, PlacesPlain, PlacesRegion, RegionObject, Roomy, judged_new, new_raw, new_word, next_region, next_slot, placed_plain}
use Rattle.heap.proofs.PlaceLaws.{does_plain, does-region, judged-accepted, judged-refused}
use Rattle.heap.proofs.DoesLaws.{does-own}
use Rattle.heap.proofs.IdleLaws.{Alike, alike_cells, alike_good, alike_model, alike_scalars, does_from, next-below, next-empty}
use Rattle.heap.proofs.StepLaws.{own-scalars}
use Rattle.heap_allocation.specs.Making.{Finishes, MadePlain, Placeable, Prepared, RoomMade, Scalarless, answer_by, judged_in, placed, state_by, with_next}

-- ---- the call

-- "bytes beyond the slot weight"
abbrev pub weight_of : State → Content → Room → ℕ
weight_of t c s = t.heap.weights.slot + bytes_of t.heap.weights c s

-- the call k adds an object of contents c in the room s, and none of its own tests refuses it
pub record Makes (t : State) (k : Call) (c : Content) (s : Room) : Type 0 where
  pub effect_is : (l : Layout) → effect (view_of (model_of l t)) k ≡ add c s
  pub charge-is : (l : Layout) → (terms (model_of l t) k).charge ≡ some (weight_of t c s)
  pub own : (l : Layout) → first (terms (model_of l t) k).refusals ≡ 0
  pub lent_before : (l : Layout) → (terms (model_of l t) k).lent_before ≡ no_memory
  pub lent_after : (l : Layout) → (terms (model_of l t) k).lent_after ≡ no_memory

pub makes : {t : State} {k : Call} {c : Content} {s : Room} (rs : Layout → List ℕ) → ((l : Layout) → effect (view_of (model_of l t)) k ≡ add c s) →
    ((l : Layout) → terms (model_of l t) k ≡ allocating (model_of l t) (rs l) (effect (view_of (model_of l t)) k)) → ((l : Layout) → first (rs l) ≡ 0) → Makes t k c s
unfolding allocating charging model_of
makes rs e h f = record {
  effect_is = e;
  charge-is = λ l. rw (h l, e l);
  own = λ l. rw (h l, e l) (f l);
  lent_before = λ l. rw (h l, e l);
  lent_after = λ l. rw (h l, e l);
}

-- ---- a test of its own

-- the call is refused by the first of its own tests that says a number
pub refused-own : {t : State} {k : Call} {c : Content} {s : Room} (q : Refusal) (rs : Layout → List ℕ) → Good t → ((l : Layout) → effect (view_of (model_of l t)) k ≡ add c s) →
    ((l : Layout) → terms (model_of l t) k ≡ allocating (model_of l t) (rs l) (effect (view_of (model_of l t)) k)) → ((l : Layout) → first (rs l) ≡ number_of q) → Performs k t (made_is (Err q)) t
unfolding seen_by allocating charging
refused-own {k = k} q rs g e h f l = does-own l g k q (rw (h l, e l)) (rw (h l, e l) (f l))

-- 4: type above 2, state above 4
pub above_4 : (n b : ℕ) → b < n → unless (leb n b) 4 ≡ number_of No.BadType
unfolding unless number_of
above_4 n b h = rw (leb_no n b h)

pub within_4 : (n b : ℕ) → n ≤ b → unless (leb n b) 4 ≡ 0
unfolding unless
within_4 n b h = rw (leb_yes n b h)

-- ---- what a header and its cells mean

pub record Means (h : Header) (region : List ℕ) (x : Scalars) (c : Content) (s : Room) : Type 0 where
  pub object : Object h region x
  pub content : content_of (new_raw HALF h region) x ≡ c
  pub room : room_of (new_raw HALF h region) ≡ s

-- without cells the region is empty
pub object-empty : {h : Header} {x : Scalars} (l : List ℕ) → h.size ≡ 0 → Object h (take h.size l) x → Object (with_region h 0 0 0) [] x
object-empty {h} l e o = let q : new_raw HALF h (take h.size l) ≡ new_raw HALF (with_region h 0 0 0) [] = rw e in record { some_kind = o.some_kind; fit = rw q at o.fit }

means_empty : {h : Header} {x : Scalars} {c : Content} {s : Room} (l : List ℕ) → h.size ≡ 0 → Means h (take h.size l) x c s → Means (with_region h 0 0 0) [] x c s
means_empty {h} {x} {c} {s} l e p =
    let q : new_raw HALF h (take h.size l) ≡ new_raw HALF (with_region h 0 0 0) [] = rw e in
    record { object = object-empty l e p.object; content = rw q at p.content; room = rw q at p.room }

-- ---- the object refused or placed

module _ {t : State} (g : Good t) {k : Call} {c : Content} {s : Room} (w : Makes t k c s) {bytes : ℕ} (bytes_are : bytes ≡ saturated (weight_of t c s)) where
  pub new-refused : {size : ℕ} {q : Refusal} → cells_of c s ≡ size → judged_in t bytes size ≡ Err q → Performs k t (made_is (Err q)) t
  unfolding seen_by
  new-refused {size} n e l = judged-refused l g bytes size k (w.effect_is l) (w.charge-is l) bytes_are n (w.own l) (w.lent_before l) e

  module _ {m : State} (h : Header) (y : RoomMade t m bytes h.size) where
    placed_plain_lem : Means (with_region h 0 0 0) [] (more_of m (next_slot m)) c s → h.size ≡ 0 → Performs k t (made_is (Ok (new_word m h.kind))) (placed m h bytes)
    unfolding seen_by
    placed_plain_lem p e l =
        let j : judged_in m bytes 0 ≡ accepted = rw e at y.placeable.judged in
        rw (eqb_yes h.size 0 e)
        (does_from (y.model l) refl
        (does_plain y.placeable.good h bytes p.object.some_kind l k (rw (y.model l) (w.charge-is l)) bytes_are (rw (y.model l) (w.own l)) (rw (y.model l) (w.lent_after l)) (judged-accepted m bytes 0 j) p.object.fit
        (rw (y.model l) (w.effect_is l)) p.content p.room))

    placed-region : Means h (next_region m h.size) (more_of m (next_slot m)) c s → (h.size ≡ 0 → ⊥) → Performs k t (made_is (Ok (new_word m h.kind))) (placed m h bytes)
    unfolding seen_by
    placed-region p ne l =
        let z = y.placeable in
        rw (eqb_no h.size 0 ne)
        (does_from (y.model l) refl
        (does-region z.good h bytes p.object.some_kind l k (rw (y.model l) (w.charge-is l)) bytes_are (rw (y.model l) (w.own l)) (rw (y.model l) (w.lent_after l)) (judged-accepted m bytes h.size z.judged) z.region (z.entry ne)
        p.object.fit (rw (y.model l) (w.effect_is l)) p.content p.room))

    pub new-placed : Means h (next_region m h.size) (more_of m (next_slot m)) c s → Performs k t (made_is (Ok (new_word m h.kind))) (placed m h bytes)
    new-placed p =
        by_cases (same_or_not h.size 0)
        (λ e. placed_plain_lem (means_empty (drop m.heap.top m.cells) e p) e)
        (λ ne. placed-region p ne)

-- ---- what is written before the placing

pub ready_self : {t : State} {bytes : ℕ} → Good t → judged_in t bytes 0 ≡ accepted → RoomMade t t bytes 0
ready_self g j = record {
  placeable = record { good = g; judged = j; region = omega (arith, g.laid.top_fits); entry = λ ne. absurd (ne refl) };
  model = λ l. refl;
}

-- the scalars of the slot that the object takes
module _ {m : State} {bytes size : ℕ} (y : Placeable m bytes size) where
  pub next_fits : (next_slot m < SLOTS_MAX) × (next_slot m * SLOT_WORDS + SLOT_WORDS ≤ length m.scalars)
  next_fits =
      let b = next-below y.good (judged-accepted m bytes size y.judged).left in
      (omega (arith, b, y.good.slots_max), omega (arith, b, y.good.scalars_fit))

  scalars_alike : (x : Scalars) → Alike m (with_next m x)
  scalars_alike x = alike_scalars y.good (next-empty y.good) (own-scalars next_fits.1 refl)

  pub placeable-scalars : (x : Scalars) → Placeable (with_next m x) bytes size
  placeable-scalars x = record { good = alike_good y.good (scalars_alike x); judged = y.judged; region = y.region; entry = y.entry }

pub ready-scalars : {t m : State} {bytes size : ℕ} → RoomMade t m bytes size → (x : Scalars) → RoomMade t (with_next m x) bytes size
ready-scalars y x = record {
  placeable = placeable-scalars y.placeable x;
  model = λ l. alike_model y.placeable.good (scalars_alike y.placeable x) l ∙ y.model l;
}

pub next_more : {m : State} {bytes size : ℕ} → Placeable m bytes size → (x : Scalars) → more_of (with_next m x) (next_slot m) ≡ x
next_more {m} y x = scalars_at-same m.scalars (next_slot m) x (next_fits y).1

-- ---- without cells

-- the scalars written first
pub plain_after : {t : State} {h : Header} {bytes : ℕ} {d : Result Unit Refusal} {r : Result ℕ Refusal} {a : State} {x' : List ℕ} {i : ℕ} (x : Scalars) → d ≡ judged_in t bytes 0 → d ≡ accepted → i ≡ next_slot t → x' ≡ set_scalars t.scalars i x →
    PlacesPlain (with_scalars t x') h bytes r a → MadePlain t (with_next t x) h bytes r a
unfolding answer_by state_by
plain_after {t} {h} {bytes} x e f n w p =
    let q = w ∙ ap (λ (i : ℕ). set_scalars t.scalars i x) n in
    record { answer = rw (← e, f) p.answer; after = rw (← e, f) (p.after ∙ ap (λ (x' : List ℕ). placed_plain (with_scalars t x') h bytes) q); good = p.good }

module _ {t m : State} {h : Header} {bytes : ℕ} where
  pub plain_refused : {d : Result Unit Refusal} {q : Refusal} → Good t → d ≡ judged_in t bytes 0 → d ≡ Err q → MadePlain t m h bytes (Err q) t
  unfolding answer_by state_by
  plain_refused g e f = record { answer = rw (← e, f); after = rw (← e, f); good = g }

  pub plain_accepted : {d : Result Unit Refusal} {r : Result ℕ Refusal} {a : State} → d ≡ judged_in t bytes 0 → d ≡ accepted → PlacesPlain m h bytes r a → MadePlain t m h bytes r a
  unfolding answer_by state_by
  plain_accepted e f p = record { answer = rw (← e, f) p.answer; after = rw (← e, f) p.after; good = p.good }

  module _ {r : Result ℕ Refusal} {a : State} (g : Good t) {k : Call} {c : Content} {s : Room} (w : Makes t k c s) (bytes_are : bytes ≡ saturated (weight_of t c s)) (none : cells_of c s ≡ 0)
      (y : judged_in t bytes 0 ≡ accepted → RoomMade t m bytes 0) (p : judged_in t bytes 0 ≡ accepted → Means (with_region h 0 0 0) [] (more_of m (next_slot m)) c s) (d : MadePlain t m h bytes r a) where
    performs_by : (j : Result Unit Refusal) → judged_in t bytes 0 ≡ j → Performs k t (made_is r) a
    unfolding answer_by state_by
    performs_by (Ok u) e = rw (d.answer, d.after, e) (placed_plain_lem g w bytes_are (with_region h 0 0 0) (y e) (p e) refl)
    performs_by (Err q) e = rw (d.answer, d.after, e) (new-refused g w bytes_are none e)

    pub plain_performs : Performs k t (made_is r) a
    plain_performs = performs_by (judged_in t bytes 0) refl

-- an object without cells that has scalars
pub scalars_performs : {t a : State} {h : Header} {bytes : ℕ} {r : Result ℕ Refusal} {k : Call} {c : Content} {s : Room} (x : Scalars) → Good t → Makes t k c s → bytes ≡ saturated (weight_of t c s) → cells_of c s ≡ 0 →
    Means (with_region h 0 0 0) [] x c s → MadePlain t (with_next t x) h bytes r a → Performs k t (made_is r) a
scalars_performs x g w bytes_are none p d =
    plain_performs g w bytes_are none (λ e. ready-scalars (ready_self g e) x) (λ e. rw (next_more (ready_self g e).placeable x) p) d

-- ---- prepared

pub prepared_refused : {t : State} {bytes size : ℕ} {d : Result Unit Refusal} {q : Refusal} → Good t → d ≡ judged_in t bytes size → d ≡ Err q → Prepared t bytes size (Err q) t
prepared_refused g e f = record { judged = sym f ∙ e; refused = λ q x. refl; accepted = λ x. absurd (let z : ◌≡◌ {A = ℕ} 0 1 = cc in omega arith); good = g }

pub prepared_none : {t : State} {bytes size : ℕ} {d : Result Unit Refusal} → Good t → d ≡ judged_in t bytes size → d ≡ accepted → size ≡ 0 → Prepared t bytes size accepted t
prepared_none {t} {bytes} g e f z = record { judged = sym f ∙ e; refused = λ q x. refl; accepted = λ x. rw z (ready_self g (rw z at (sym e ∙ f))); good = g }

pub room-left : {t : State} (bytes size : ℕ) {d : Result Unit Refusal} → Good t → d ≡ judged_in t bytes size → d ≡ accepted → t.heap.taken + size ≤ length t.cells
room-left {t} bytes size g e f = (judged-accepted t bytes size (sym e ∙ f)).room

-- room for a region changes nothing that is judged
judged-roomy : {t m : State} {size : ℕ} (bytes n : ℕ) → Roomy t m size → judged_in m bytes n ≡ judged_in t bytes n
unfolding judged_new
judged-roomy {t} {m} bytes n y = ap (λ (h : Heap). judged_new h (length m.cells) bytes n) y.heap ∙ rw y.cells_length

pub prepared_room : {t m : State} {bytes size : ℕ} {d : Result Unit Refusal} → d ≡ judged_in t bytes size → d ≡ accepted → Roomy t m size → Prepared t bytes size accepted m
prepared_room {t} {m} {bytes} {size} e f y = record {
  judged = sym f ∙ e;
  refused = λ q x. absurd (let z : ◌≡◌ {A = ℕ} 0 1 = cc in omega arith);
  accepted = λ x. record {
    placeable = record { good = y.good; judged = judged-roomy bytes size y ∙ sym e ∙ f; region = y.region; entry = λ ne. y.entry };
    model = y.model;
  };
  good = y.good;
}

-- ---- cells written above the top

pub record Above (c c' : List ℕ) (top : ℕ) : Type 0 where
  pub len : length c' ≡ length c
  pub below : (q : ℕ) → q < top → get_or c' q 0 ≡ get_or c q 0

pub ready-cells : {t m : State} {bytes size : ℕ} {c' : List ℕ} → RoomMade t m bytes size → Above m.cells c' m.heap.top → RoomMade t (with_cells m c') bytes size
ready-cells {c' = c'} y o =
    let z = y.placeable in
    let alike = alike_cells c' z.good o.len o.below in
    record {
      placeable = record { good = alike_good z.good alike; judged = rw o.len z.judged; region = rw o.len z.region; entry = z.entry };
      model = λ l. alike_model z.good alike l ∙ y.model l;
    }

-- ---- finished

module _ {m a : State} (h : Header) {bytes : ℕ} (y : Placeable m bytes h.size) {r : Result ℕ Refusal} where
  pub finished_plain : h.size ≡ 0 → PlacesPlain m h bytes r a → Finishes m h bytes r a
  finished_plain z p = record { after = rw (eqb_yes h.size 0 z) p.after; answer = p.answer; good = p.good }

  pub finished_region : h.size ≢ 0 → PlacesRegion m h bytes r a → Finishes m h bytes r a
  finished_region ne p = record { after = rw (eqb_no h.size 0 ne) p.after; answer = p.answer; good = p.good }

-- the cells ws written above the top are an object's
pub region-ready : {t m : State} {bytes : ℕ} {h : Header} {ws c' : List ℕ} → RoomMade t m bytes h.size → Above m.cells c' m.heap.top → next_region (with_cells m c') h.size ≡ ws → Scalarless h ws →
    Placeable (with_cells m c') bytes h.size × RegionObject (with_cells m c') h
region-ready y o w s = ((ready-cells y o).placeable, rw w (s _))

module _ {t : State} (g : Good t) {k : Call} {c : Content} {s : Room} (w : Makes t k c s) {bytes : ℕ} (bytes_are : bytes ≡ saturated (weight_of t c s)) where
  pub region-refused : {m : State} {size : ℕ} {d : Result Unit Refusal} {q : Refusal} → cells_of c s ≡ size → Prepared t bytes size d m → d ≡ Err q → Performs k t (made_is (Err q)) m
  region-refused {q = q} n p f = rw (p.refused q f) (new-refused g w bytes_are n (sym p.judged ∙ f))

  pub region-made : {m a : State} (h : Header) {r : Result ℕ Refusal} → RoomMade t m bytes h.size → Means h (next_region m h.size) (more_of m (next_slot m)) c s → (a ≡ placed m h bytes) × (r ≡ Ok (new_word m h.kind)) →
      Performs k t (made_is r) a
  region-made h y p e = rw (e.0, e.1) (new-placed g w bytes_are h y p)
