-- The answers of judge_new and of the functions that place a new object. Assumes nothing.
use Prim.Native.Nat.{ℕ, ◌+◌, ◌*◌, ◌-◌, ◌≤◌, ◌<◌}
use mathlib.Core.Path.{◌≡◌, ap, subst, sym, ◌∙◌}
use mathlib.Core.Bool.{true, false, not, ◌||◌}
use mathlib.Core.List.{List}
use native.Mathlib.Omega.{arith}
use lib.Dec.{eqb, ltb}
use lib.ListN.{get_or, length, set}
use Rattle.heap_slots.specs.Limits.{HALF_END, SLOT_WORDS, SLOTS_MAX, SPAN}
use Rattle.account.specs.declared.Account.{Account}
use Rattle.account.specs.declared.OverBudget.{OverBudget}
use Rattle.std.specs.Prelude.{Result, Ok, Err}
use Rattle.account.specs.Account.{charge_is, charge_of, fits}
use Rattle.account.specs.AccountLaws.{charge-next, charge-over}
use Rattle.heap_slots.specs.Header.{header_at, set_header, with_half, with_region}
use Rattle.heap_slots.specs.FreeList.{Takes, taken_half, taken_slot}
use Rattle.heap_slots.specs.declared.Header.{Header}
use Rattle.heap_slots.specs.declared.TakenSlot.{TakenSlot}
use Rattle.heap_slots.proofs.Cases.{by_cases, same_or_not}
use Rattle.heap_slots.proofs.FreeListLaws.{taken_facts, taken-max}
use Rattle.heap_cells.proofs.SumLaws.{sum_le}
use Rattle.history.proofs.Facts.{eqb_no, eqb_yes, leb_no, leb_yes, ltb_no, ltb_yes}
use Rattle.heap.specs.declared.Heap.{Heap}
use Rattle.heap.specs.declared.Refusal.{Refusal}
use Rattle.heap.specs.declared.Refusal.TheVariants as No
use Rattle.heap.specs.Record.{with_objects}
use Rattle.heap.specs.State.{State, state, with_regions}
use Rattle.heap.specs.Good.{Good, coroutine_of}
use Rattle.heap.specs.Answers.{accepted}
use Rattle.heap.specs.Placing.{PlacesPlain, PlacesRegion, PlainObject, RegionObject, Seatable, Seats, flag_of, judged_new, next_slot, placed_plain, placed_region}
use Rattle.heap.proofs.PlaceLaws.{coroutine-max, judged-accepted, plain_good, region-good}

-- ---- judge_new

module _ (h : Heap) (total bytes size : ℕ) where
  pub judges_5 : fits h.account bytes ≡ false → ◌≡◌ {A = Result Unit Refusal} (Err No.OverBudget) (judged_new h total bytes size)
  unfolding judged_new
  judges_5 f = rw f

  module _ (f : fits h.account bytes ≡ true) where
    pub judges_6 : h.free ≡ 0 → h.size ≤ h.fresh → ◌≡◌ {A = Result Unit Refusal} (Err No.NoSlot) (judged_new h total bytes size)
    unfolding judged_new
    judges_6 z s = rw (f, eqb_yes h.free 0 z, ltb_no h.fresh h.size s)

    slot-there : (h.free ≡ 0 → h.fresh < h.size) → (not (eqb h.free 0) || ltb h.fresh h.size) ≡ true
    slot-there left =
        by_cases (same_or_not h.free 0)
        (λ z. rw (eqb_yes h.free 0 z) (ltb_yes h.fresh h.size (left z)))
        (λ nz. rw (eqb_no h.free 0 nz))

    pub judges_7 : (h.free ≡ 0 → h.fresh < h.size) → total < h.taken + size → ◌≡◌ {A = Result Unit Refusal} (Err No.NoCells) (judged_new h total bytes size)
    unfolding judged_new
    judges_7 left o = rw (f, slot-there left, leb_no (h.taken + size) total o)

    pub judges_accepted : (h.free ≡ 0 → h.fresh < h.size) → h.taken + size ≤ total → accepted ≡ judged_new h total bytes size
    unfolding judged_new
    judges_accepted left o = rw (f, slot-there left, leb_yes (h.taken + size) total o)

-- ---- next_slot and flag_of

pub next-fresh : (list : List ℕ) (fresh free : ℕ) → free ≡ 0 → fresh ≡ taken_slot list fresh free
unfolding taken_slot
next-fresh list fresh free z = rw (eqb_yes free 0 z)

pub next-listed : (list : List ℕ) (fresh free : ℕ) → (free ≡ 0 → ⊥) → get_or list (free - 1) 0 ≡ taken_slot list fresh free
unfolding taken_slot
next-listed list fresh free nz = rw (eqb_no free 0 nz)

-- ---- seat

pub seatable : {t : State} {bytes size : ℕ} → Good t → judged_new t.heap (length t.cells) bytes size ≡ accepted → Seatable t.heap t.slots t.list bytes size
seatable {t} {bytes} {size} g e =
    let j = judged-accepted t bytes size e in
    record {
      listed = g.listed;
      slots_max = g.slots_max;
      slots_fit = g.slots_fit;
      list_fit = omega (arith, g.room, g.fresh, g.list_fit);
      fresh = g.fresh;
      left = j.left;
      present = omega (arith, g.room, g.fresh, g.slots_max);
      coroutines = omega (arith, g.coroutines, sum_le (λ i. coroutine_of (header_at t.slots i).kind) t.heap.fresh (λ j l. coroutine-max (header_at t.slots j).kind), g.fresh, g.slots_max);
      cells_max = omega (arith, j.room, g.laid.cells_max);
      in_budget = j.in_budget;
    }

module _ {h : Heap} {s list : List ℕ} {bytes size : ℕ} (g : Seatable h s list bytes size) where
  pub seat-charged : {r : Result Account OverBudget} {over : OverBudget} → charge_is h.account r ≡ charge_of h.account bytes → r ≡ Err over → ⊥
  seat-charged e z = let y : true ≡ false = sym g.in_budget ∙ charge-over h.account bytes e z in let w : ◌≡◌ {A = ℕ} 0 1 = cc in absurd (omega arith)

  module _ {flag : ℕ} {t : TakenSlot} (e : Takes s list h.fresh h.free flag t) where
    pub seat-slot : (t.slot < SLOTS_MAX) × (t.slot * SLOT_WORDS + SLOT_WORDS ≤ length s)
    seat-slot =
        let f = taken_facts g.listed e in
        let m = taken-max h.size e g.fresh g.left in
        (omega (arith, f.within, m, g.slots_max), omega (arith, f.within, m, g.slots_fit))

    pub seat-half : flag ≤ 32768 → t.half < HALF_END
    seat-half l = omega (arith, (taken_facts g.listed e).high)

-- the record after it
abbrev pub seated_heap : Heap → Account → TakenSlot → ℕ → ℕ → Heap
seated_heap h a t size coroutine = with_objects h a t.fresh t.free h.top h.entries (h.taken + size) (h.present + 1) (h.coroutines + coroutine)

pub seats : (h : Heap) {s s' list : List ℕ} (bytes : ℕ) (hd : Header) {flag coroutine : ℕ} {t : TakenSlot} {c : Result Account OverBudget} {a : Account} → Takes s list h.fresh h.free flag t → flag ≡ flag_of hd.kind → coroutine ≡ coroutine_of hd.kind → charge_is h.account c ≡ charge_of h.account bytes → c ≡ Ok a →
    s' ≡ set_header s t.slot (with_half hd t.half) → Seats h s list hd bytes (Ok (t.half * SPAN + t.slot)) (seated_heap h a t hd.size coroutine) s'
seats h {s} {list = list} bytes hd {t = t} e f o p q w =
    let half : t.half ≡ taken_half s list h.free + flag_of hd.kind = e.half ∙ ap (λ (n : ℕ). taken_half s list h.free + n) f in
    record {
      heap = rw ((charge-next h.account bytes p q).1, e.fresh_is, e.free_is, o);
      slots = w ∙ rw (e.slot, half);
      answer = rw (e.slot, half);
    }

-- ---- the states after placing

pub plain_state : {t : State} (hd : Header) {bytes : ℕ} {r : Result ℕ Refusal} {h' : Heap} {s' : List ℕ} → Good t → judged_new t.heap (length t.cells) bytes 0 ≡ accepted → PlainObject t hd →
    Seats t.heap t.slots t.list (with_region hd 0 0 0) bytes r h' s' → PlacesPlain t hd bytes r (state h' s' t.scalars t.list t.directory t.cells)
plain_state {t} hd {bytes} {r} {h'} {s'} g j o w =
    let e : state h' s' t.scalars t.list t.directory t.cells ≡ placed_plain t hd bytes = rw (w.heap, w.slots) in
    record { after = e; answer = w.answer; good = subst Good (sym e) (plain_good g hd bytes o.some_kind (judged-accepted t bytes 0 j) o.fit) }

pub region-state : {t : State} (hd : Header) {bytes slot : ℕ} {r : Result ℕ Refusal} {h' : Heap} {s' : List ℕ} → Good t → judged_new t.heap (length t.cells) bytes hd.size ≡ accepted → t.heap.top + hd.size ≤ length t.cells →
    t.heap.entries < t.heap.size * 2 → RegionObject t hd → Seats t.heap t.slots t.list (with_region hd hd.size t.heap.top t.heap.entries) bytes r h' s' → slot ≡ next_slot t →
    PlacesRegion t hd bytes r
    (state (with_regions h' h'.account (t.heap.top + hd.size) (t.heap.entries + 1) h'.taken) s' t.scalars t.list (set t.directory t.heap.entries slot) t.cells)
region-state {t} hd {bytes} {slot} {r} {h'} {s'} g j top entry o w n =
    let e : state (with_regions h' h'.account (t.heap.top + hd.size) (t.heap.entries + 1) h'.taken) s' t.scalars t.list (set t.directory t.heap.entries slot) t.cells ≡ placed_region t hd bytes =
    rw (w.heap, w.slots, n) in
    record { after = e; answer = w.answer; good = subst Good (sym e) (region-good g hd bytes o.some_kind (judged-accepted t bytes hd.size j) top entry o.fit) }
