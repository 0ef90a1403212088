-- What means nothing may change: the place of a region, cells at the top and above it, the scalars of a slot without an object. Assumes nothing.
use Prim.Native.Nat.{ℕ, ◌*◌, ◌-◌, ◌<◌}
use mathlib.Core.Path.{◌≡◌, refl, ap, sym, ◌∙◌, fun_ext}
use mathlib.Core.List.{List}
use native.Mathlib.Omega.{arith}
use lib.ListN.{length, get_or}
use Rattle.account.specs.declared.Account.{Account}
use Rattle.heap_slots.specs.Header.{header_at}
use Rattle.heap_slots.specs.FreeList.{taken_slot}
use Rattle.heap_slots.specs.declared.Scalars.{Scalars}
use Rattle.heap_slots.proofs.Cases.{by_cases, lt_or_le, same_or_not}
use Rattle.heap_cells.specs.Regions.{Laid, RawSlot, Reserved, raw_at}
use Rattle.heap_cells.specs.declared.Top.{Top}
use Rattle.heap_cells.proofs.SumLaws.{sum_ext}
use Rattle.heap_cells.proofs.RawLaws.{laid_cells, raw_above}
use Rattle.history.proofs.Facts.{eqb_no, eqb_yes}
use Rattle.history.proofs.Lift.{Seen, seen}
use Rattle.layout.specs.Layout.{Layout}
use Rattle.model.specs.Calls.{Call}
use Rattle.model.specs.Model.{Model}
use Rattle.model.specs.Step.{step}
use Rattle.heap.specs.declared.Heap.{Heap}
use Rattle.heap.specs.State.{State, model_of, more_of, raw_of, slot_from, slot_of, with_cells, with_moved, with_regions, with_scalars}
use Rattle.heap.specs.Good.{Good, SlotGood}
use Rattle.heap.specs.Promise.{Does}
use Rattle.heap.specs.Placing.{Roomy, next_slot}
use Rattle.heap.proofs.KindLaws.{object-none}
use Rattle.heap.proofs.SlotLaws.{slot-unused, slot-used}
use Rattle.heap.proofs.TouchLaws.{good_again}
use Rattle.heap.proofs.GoodLaws.{good_as, holds_as}
use Rattle.heap.proofs.StepLaws.{OwnScalars}

-- from the state b to the state a every object is what it was
pub record Alike (b a : State) : Type 0 where
  pub heap : a.heap ≡ with_regions b.heap b.heap.account a.heap.top a.heap.entries b.heap.taken
  pub list : a.list ≡ b.list
  pub slots_length : length a.slots ≡ length b.slots
  pub scalars-length : length a.scalars ≡ length b.scalars
  pub directory-length : length a.directory ≡ length b.directory
  pub cells_length : length a.cells ≡ length b.cells
  pub raw : (j : ℕ) → j < b.heap.fresh → raw_of a j ≡ raw_of b j
  pub more : (j : ℕ) → j < b.heap.fresh → ((raw_of b j).kind ≡ 0 → ⊥) → more_of a j ≡ more_of b j
  pub laid : Laid b.heap.fresh a.heap.top a.heap.entries a.slots a.directory a.cells

-- a slot without an object is good whatever its scalars are
empty-good : {r : RawSlot} {x : Scalars} (y : Scalars) → SlotGood r x → r.kind ≡ 0 → SlotGood r y
empty-good y g z = good_as 0 z (omega arith) g.half_low g.half_high (holds_as 0 z g)

module _ {b a : State} (g : Good b) (c : Alike b a) where
  alike_slot : (j : ℕ) → j < b.heap.fresh → SlotGood (raw_of a j) (more_of a j)
  alike_slot j l =
      by_cases (same_or_not (raw_of b j).kind 0)
      (λ z. rw (c.raw j l) (empty-good (more_of a j) (g.each j l) z))
      (λ nz. rw (c.raw j l, c.more j l nz) (g.each j l))

  pub alike_good : Good a
  unfolding raw_at
  alike_good =
      let used : a.heap.taken ≡ b.heap.taken = ap (λ (x : Heap). x.taken) c.heap in
      good_again g record {
        heap = c.heap ∙ ap (λ (n : ℕ). with_regions b.heap b.heap.account a.heap.top a.heap.entries n) (sym used) ∙ ap (λ (n : Account). with_regions b.heap n a.heap.top a.heap.entries a.heap.taken) (sym (ap (λ (x : Heap). x.account) c.heap));
        list = c.list;
        slots_length = c.slots_length;
        scalars-length = c.scalars-length;
        directory-length = c.directory-length;
        cells_length = c.cells_length;
        each = alike_slot;
        kind = λ j l. ap (λ (r : RawSlot). r.kind) (c.raw j l);
        half = λ j l. ap (λ (r : RawSlot). r.half) (c.raw j l);
        laid = c.laid;
        taken = used ∙ g.taken ∙ sym (sum_ext (λ j. (header_at b.slots j).size) (λ j. (header_at a.slots j).size) b.heap.fresh (λ j l. ap (λ (r : RawSlot). r.size) (c.raw j l)));
        cells_fit = omega (arith, g.cells_fit);
      }

  slot_alike : (j : ℕ) → slot_of a j ≡ slot_of b j
  unfolding slot_from
  slot_alike j =
      let fresh : a.heap.fresh ≡ b.heap.fresh = ap (λ (x : Heap). x.fresh) c.heap in
      by_cases (lt_or_le j b.heap.fresh)
      (λ l.
      slot-used a j (omega arith)
      ∙ by_cases (same_or_not (raw_of b j).kind 0)
      (λ z. rw (c.raw j l, object-none (raw_of b j) (more_of a j) z, ← object-none (raw_of b j) (more_of b j) z) (sym (slot-used b j l)))
      (λ nz. rw (c.raw j l, c.more j l nz) (sym (slot-used b j l))))
      (λ l. slot-unused a j (omega arith) ∙ sym (slot-unused b j l))

  pub alike_model : (l : Layout) → model_of l a ≡ model_of l b
  unfolding model_of
  alike_model l = rw (fun_ext slot_alike, c.heap, c.list, c.cells_length)

-- a call made on the same objects does the same
pub does_from : {l : Layout} {k : Call} {b m a : State} {o : Seen} → model_of l m ≡ model_of l b → o.refusal ≡ 0 → Does l k m o a → Does l k b o a
does_from {l} {k} e z d = record {
  shows = d.shows ∙ ap (λ (x : Model). seen (step x k)) e;
  next = d.next ∙ ap (λ (x : Model). (step x k).next) e;
  good = d.good;
  kept = λ n. absurd (n z);
}

-- ---- the slot that the next object takes

pub next-empty : {t : State} → Good t → next_slot t < t.heap.fresh → (raw_of t (next_slot t)).kind ≡ 0
unfolding taken_slot raw_at
next-empty {t} g l =
    by_cases (same_or_not t.heap.free 0)
    (λ z. absurd (let e : next_slot t ≡ t.heap.fresh = rw (eqb_yes t.heap.free 0 z) in omega arith))
    (λ nz. rw (eqb_no t.heap.free 0 nz) (g.listed.empty (t.heap.free - 1) (omega arith)))

pub next-below : {t : State} → Good t → (t.heap.free ≡ 0 → t.heap.fresh < t.heap.size) → next_slot t < t.heap.size
unfolding taken_slot
next-below {t} g left =
    by_cases (same_or_not t.heap.free 0)
    (λ z. rw (eqb_yes t.heap.free 0 z) (left z))
    (λ nz. rw (eqb_no t.heap.free 0 nz) (omega (arith, g.listed.inside (t.heap.free - 1) (omega arith), g.fresh)))

-- ---- what means nothing

-- the scalars of a slot without an object
pub alike_scalars : {t : State} {x' : List ℕ} {i : ℕ} {y : Scalars} → Good t → (i < t.heap.fresh → (raw_of t i).kind ≡ 0) → OwnScalars t.scalars x' i y → Alike t (with_scalars t x')
alike_scalars {i = i} g z w = record {
  heap = refl;
  list = refl;
  slots_length = refl;
  scalars-length = w.same_length;
  directory-length = refl;
  cells_length = refl;
  raw = λ j l. refl;
  more = λ j l nz. w.others j (λ e. nz (rw e (z (rw e at l))));
  laid = g.laid;
}

-- cells at the top and above it
pub alike_cells : {t : State} (c' : List ℕ) → Good t → length c' ≡ length t.cells → ((q : ℕ) → q < t.heap.top → get_or c' q 0 ≡ get_or t.cells q 0) → Alike t (with_cells t c')
alike_cells c' g e h = record {
  heap = refl;
  list = refl;
  slots_length = refl;
  scalars-length = refl;
  directory-length = refl;
  cells_length = e;
  raw = λ j l. raw_above g.laid c' e h j l;
  more = λ j l nz. refl;
  laid = laid_cells g.laid c' e;
}

-- regions moved, for room at the top
module _ {t : State} {size : ℕ} {r : Top} {s' dir' c' : List ℕ} (g : Good t) (w : Reserved t.heap.fresh (t.heap.size * 2) size r t.slots t.directory t.cells s' dir' c') where
  abbrev moved : State
  moved = with_moved t (with_regions t.heap t.heap.account r.cells r.entries t.heap.taken) s' dir' c'

  alike_reserved : Alike t moved
  alike_reserved = record {
    heap = refl;
    list = refl;
    slots_length = w.kept.slots_len;
    scalars-length = refl;
    directory-length = w.kept.dir_len;
    cells_length = w.kept.cells_len;
    raw = w.kept.same;
    more = λ j l nz. refl;
    laid = w.laid;
  }

  pub roomy : Roomy t moved size
  roomy = record {
    heap = refl;
    scalars = refl;
    list = refl;
    cells_length = w.kept.cells_len;
    good = alike_good g alike_reserved;
    model = alike_model g alike_reserved;
    region = w.room;
    entry = w.entry;
  }
