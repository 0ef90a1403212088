-- A region that is made longer. Assumes nothing.
use Prim.Native.Nat.{ℕ, ◌+◌, ◌*◌, ◌-◌, ◌≤◌, ◌<◌}
use mathlib.Core.Path.{◌≡◌, refl, ap, ◌∙◌}
use mathlib.Core.List.{List}
use native.Mathlib.Omega.{arith}
use lib.ListN.{length}
use lib.Seq.{take-take}
use Rattle.account.specs.declared.Account.{Account}
use Rattle.heap_slots.specs.Header.{header_at, with_region}
use Rattle.heap_slots.specs.Limits.{DIRECTORY_MAX, HasSlot}
use Rattle.heap_slots.specs.declared.Header.{Header}
use Rattle.heap_cells.specs.Regions.{Grown, Growing, sizes_of}
use Rattle.heap.specs.declared.Heap.{Heap}
use Rattle.heap.specs.State.{State, with_regions}
use Rattle.heap.specs.Good.{Good}
use Rattle.heap.proofs.StepLaws.{touched_account, touched_grown}
use Rattle.heap.proofs.TouchLaws.{Touched, touched_none}
use Rattle.collections_growth.specs.Growth.{Lengthened, Lengthening, Longer, top_of}

-- ---- what a longer region asks

module _ {t : State} {i size : ℕ} (g : Good t) (w : Lengthening t i size) where
  pub lengthening : Growing t.heap.fresh i size (top_of t.heap) t.slots t.directory t.cells
  lengthening = record { laid = g.laid; within = w.within; more = w.more }

  pub grow_asks : Growing t.heap.fresh i size (top_of t.heap) t.slots t.directory t.cells × (sizes_of t.slots t.heap.fresh + size ≤ length t.cells + (header_at t.slots i).size)
      × (t.heap.fresh < t.heap.size * 2) × (t.heap.size * 2 ≤ length t.directory) × (t.heap.size * 2 ≤ DIRECTORY_MAX)
  grow_asks = (
    lengthening,
    omega (arith, w.fits, g.taken),
    omega (arith, g.fresh, g.some_slot),
    g.directory_fit,
    omega (arith, g.slots_max),
  )

  pub slot-header-fits : HasSlot t.slots i
  slot-header-fits = (omega (arith, w.within, g.fresh, g.slots_max), omega (arith, w.within, g.fresh, g.slots_fit))

  -- ---- the region as long as it was

  same-header : (h : Header) → h.size ≡ size → h ≡ with_region h size h.start h.entry
  same-header h e = ap (λ (n : ℕ). with_region h n h.start h.entry) e

  pub same-grown : (header_at t.slots i).size ≡ size → Grown t.heap.fresh i size (top_of t.heap) t.slots t.directory t.cells t.slots t.directory t.cells
  same-grown e = record {
    laid = g.laid;
    header = same-header (header_at t.slots i) e;
    front = take-take (header_at t.slots i).size (header_at t.slots i).size _ (omega arith);
    others = λ j l n. refl;
    slots_len = refl;
    dir_len = refl;
    cells_len = refl;
  }

  -- the record stays too
  pub stays-longer : {h : Header} → h ≡ header_at t.slots i → size ≤ h.size → Longer t i size t
  stays-longer e l = record { heap = refl; grown = same-grown (omega (arith, w.more, (rw e at l))) }

  -- nothing is charged, and no cell is taken
  pub stays_same : {h : Header} → h ≡ header_at t.slots i → size ≤ h.size → Lengthened t i size t.heap.account t.heap t.slots t.directory t.cells
  stays_same e l =
      let s : (header_at t.slots i).size ≡ size = omega (arith, w.more, (rw e at l)) in
      let z : size - (header_at t.slots i).size ≡ 0 = omega arith in
      let n : t.heap.taken + 0 ≡ t.heap.taken = omega arith in
      record { heap = rw (z, n); grown = same-grown s }

  -- charged, and its cells taken
  pub longer-made : {a : Account} {h : Header} {m : State} → h ≡ header_at t.slots i → Longer t i size m →
      Lengthened t i size a (with_regions m.heap a m.heap.top m.heap.entries (m.heap.taken + (size - h.size))) m.slots m.directory m.cells
  longer-made {a} {h} {m} e u = record {
    heap = ap (λ (z : Heap). with_regions z a m.heap.top m.heap.entries (z.taken + (size - h.size))) u.heap ∙ rw e;
    grown = u.grown;
  }

  -- ---- the state with the longer region

  pub lengthened_touched : {a : Account} {r : Heap} {s' dir' c' : List ℕ} → Lengthened t i size a r s' dir' c' →
      Touched t record { heap = with_regions t.heap a r.top r.entries (t.heap.taken + (size - (header_at t.slots i).size)); slots = s'; scalars = t.scalars; list = t.list; directory = dir'; cells = c' } i
  lengthened_touched {a} u =
      touched_grown (touched_account (touched_none i g) a) {taken = t.heap.taken + (size - (header_at t.slots i).size)} u.grown (omega (arith, w.more)) (omega (arith, w.more, w.fits))
