-- One slot's object is changed, in its header, scalars and region, and nothing else. Assumes nothing.
use Prim.Native.Nat.{ℕ, ◌+◌, ◌%◌, ◌≤◌, ◌<◌}
use mathlib.Core.Path.{◌≡◌, refl, ap, sym, ◌∙◌, fun_ext}
use mathlib.Core.Bool.{cond}
use mathlib.Core.Option.{some}
use native.Mathlib.Omega.{arith}
use lib.Dec.{eqb, leb}
use lib.ListN.{length, get_or}
use Rattle.heap_slots.specs.Limits.{BOX_HALF, GENERATIONS}
use Rattle.words.specs.Word.{ref_tag}
use Rattle.account.specs.declared.Account.{Account}
use Rattle.heap_slots.specs.Header.{header_at}
use Rattle.heap_slots.proofs.Cases.{by_cases, lt_or_le, same_or_not}
use Rattle.heap_cells.specs.Regions.{Laid, RawSlot, raw_at, sizes_of}
use Rattle.heap_cells.proofs.SumLaws.{sum_ext, sum-put}
use Rattle.history.proofs.Facts.{eqb_no, eqb_self}
use Rattle.history.proofs.Lift.{amended-hit}
use Rattle.layout.specs.Layout.{Layout}
use Rattle.map_store.specs.Store.{Room}
use Rattle.model.specs.Content.{Content}
use Rattle.model.specs.Reference.{ref_in, ref_of}
use Rattle.model.specs.Slots.{Slot, SlotTable, amended, update}
use Rattle.model.specs.Model.{Model}
use Rattle.heap.specs.declared.Heap.{Heap}
use Rattle.heap.specs.Kinds.{content_of, room_of}
use Rattle.heap.specs.State.{State, model_of, more_of, raw_of, slot_from, slot_of, with_regions}
use Rattle.heap.specs.Good.{Good, SlotGood, coroutine_of, filled}
use Rattle.heap.proofs.KindLaws.{object-some}
use Rattle.heap.proofs.SlotLaws.{slot-unused, slot-used}
use Rattle.heap.proofs.ReachLaws.{Reached, reached-boxed, reached-gen, reached-object, reached-ref}

-- ---- the invariant again

-- from the state b to the state a every slot keeps its tag and kind, and is good
pub record Regained (b a : State) : Type 0 where
  pub heap : a.heap ≡ with_regions b.heap a.heap.account a.heap.top a.heap.entries a.heap.taken
  pub list : a.list ≡ b.list
  pub slots_length : length a.slots ≡ length b.slots
  pub scalars-length : length a.scalars ≡ length b.scalars
  pub directory-length : length a.directory ≡ length b.directory
  pub cells_length : length a.cells ≡ length b.cells
  pub each : (j : ℕ) → j < b.heap.fresh → SlotGood (raw_of a j) (more_of a j)
  pub kind : (j : ℕ) → j < b.heap.fresh → (header_at a.slots j).kind ≡ (header_at b.slots j).kind
  pub half : (j : ℕ) → j < b.heap.fresh → (header_at a.slots j).half ≡ (header_at b.slots j).half
  pub laid : Laid b.heap.fresh a.heap.top a.heap.entries a.slots a.directory a.cells
  pub taken : a.heap.taken ≡ sizes_of a.slots b.heap.fresh
  pub cells_fit : a.heap.taken ≤ length b.cells

pub good_again : {b a : State} → Good b → Regained b a → Good a
good_again {b} {a} g c =
    let h = c.heap in
    let size : a.heap.size ≡ b.heap.size = ap (λ (x : Heap). x.size) h in
    let fresh : a.heap.fresh ≡ b.heap.fresh = ap (λ (x : Heap). x.fresh) h in
    let free : a.heap.free ≡ b.heap.free = ap (λ (x : Heap). x.free) h in
    let there : a.heap.present ≡ b.heap.present = ap (λ (x : Heap). x.present) h in
    let coroutines : a.heap.coroutines ≡ b.heap.coroutines = ap (λ (x : Heap). x.coroutines) h in
    record {
      some_slot = omega (arith, g.some_slot);
      slots_max = omega (arith, g.slots_max);
      slots_fit = omega (arith, g.slots_fit, c.slots_length);
      scalars_fit = omega (arith, g.scalars_fit, c.scalars-length);
      list_fit = rw c.list (omega (arith, g.list_fit));
      directory_fit = omega (arith, g.directory_fit, c.directory-length);
      weights = rw (ap (λ (x : Heap). x.weights) h) g.weights;
      fresh = omega (arith, g.fresh);
      each = λ j l. c.each j (omega arith);
      laid = rw fresh c.laid;
      taken = rw fresh c.taken;
      cells_fit = omega (arith, c.cells_fit, c.cells_length);
      listed =
          rw (fresh, free, c.list)
          record {
            inside = g.listed.inside;
            empty = λ k l. c.kind (get_or b.list k 0) (g.listed.inside k l) ∙ g.listed.empty k l;
            low = λ k l. omega (arith, c.half (get_or b.list k 0) (g.listed.inside k l), g.listed.low k l);
            high = λ k l. omega (arith, c.half (get_or b.list k 0) (g.listed.inside k l), g.listed.high k l);
            once = g.listed.once;
          };
      present = rw (fresh, there) (g.present ∙ sym (sum_ext (filled b) (filled a) b.heap.fresh (λ j l. ap (λ (k : ℕ). cond (eqb k 0) 0 1) (c.kind j l))));
      coroutines = rw (fresh, coroutines) (g.coroutines ∙ sym (sum_ext (λ j. coroutine_of (header_at b.slots j).kind) (λ j. coroutine_of (header_at a.slots j).kind) b.heap.fresh (λ j l. ap coroutine_of (c.kind j l))));
      room = omega (arith, g.room);
    }

-- ---- the change of one slot

-- from the state b to the state a: slot i keeps its tag and kind; the other slots keep all but their region's place
pub record Touched (b a : State) (i : ℕ) : Type 0 where
  pub heap : a.heap ≡ with_regions b.heap a.heap.account a.heap.top a.heap.entries a.heap.taken
  pub list : a.list ≡ b.list
  pub slots_length : length a.slots ≡ length b.slots
  pub scalars-length : length a.scalars ≡ length b.scalars
  pub directory-length : length a.directory ≡ length b.directory
  pub cells_length : length a.cells ≡ length b.cells
  pub half : (raw_of a i).half ≡ (raw_of b i).half
  pub kind : (raw_of a i).kind ≡ (raw_of b i).kind
  pub others : (j : ℕ) → j < b.heap.fresh → (j ≡ i → ⊥) → raw_of a j ≡ raw_of b j
  pub others-more : (j : ℕ) → j < b.heap.fresh → (j ≡ i → ⊥) → more_of a j ≡ more_of b j
  pub laid : Laid b.heap.fresh a.heap.top a.heap.entries a.slots a.directory a.cells
  pub taken : a.heap.taken + (raw_of b i).size ≡ b.heap.taken + (raw_of a i).size
  pub cells_fit : a.heap.taken ≤ length b.cells

-- nothing has changed yet
pub touched_none : {t : State} (i : ℕ) → Good t → Touched t t i
touched_none i g = record {
  heap = refl;
  list = refl;
  slots_length = refl;
  scalars-length = refl;
  directory-length = refl;
  cells_length = refl;
  half = refl;
  kind = refl;
  others = λ j l n. refl;
  others-more = λ j l n. refl;
  laid = g.laid;
  taken = refl;
  cells_fit = g.cells_fit;
}

module _ {b a : State} {i : ℕ} (g : Good b) (within : i < b.heap.fresh) (c : Touched b a i) (s : SlotGood (raw_of a i) (more_of a i)) where
  each-slot : (j : ℕ) → j < b.heap.fresh → SlotGood (raw_of a j) (more_of a j)
  each-slot j l =
      by_cases (same_or_not j i)
      (λ e. rw e s)
      (λ ne. rw (c.others j l ne, c.others-more j l ne) (g.each j l))

  pub touched_good : Good a
  unfolding raw_at
  touched_good = good_again g record {
    heap = c.heap;
    list = c.list;
    slots_length = c.slots_length;
    scalars-length = c.scalars-length;
    directory-length = c.directory-length;
    cells_length = c.cells_length;
    each = each-slot;
    kind = λ j l. by_cases (same_or_not j i) (λ e. rw e c.kind) (λ ne. ap (λ (r : RawSlot). r.kind) (c.others j l ne));
    half = λ j l. by_cases (same_or_not j i) (λ e. rw e c.half) (λ ne. ap (λ (r : RawSlot). r.half) (c.others j l ne));
    laid = c.laid;
    taken =
        omega (
          arith,
          c.taken,
          g.taken,
          sum-put (λ j. (header_at b.slots j).size) (λ j. (header_at a.slots j).size) b.heap.fresh i within (λ j l ne. ap (λ (r : RawSlot). r.size) (c.others j l ne)),
        );
    cells_fit = c.cells_fit;
  }

-- ---- the model after it

-- another account and another table; cells, layout, weights and counts as they were
abbrev pub with_table : Model → Account → SlotTable → Model
with_table m account table = record { table = table; cells = m.cells; layout = m.layout; weights = m.weights; account = account; collections = m.collections }

-- the slot with its object's new contents and room
abbrev slot_with : State → ℕ → ℕ → (Content → Content) → (Content → Room → Room) → Slot
slot_with b w i p q = record {
  gen = (ref_of i (ref_tag w)).gen;
  boxed = (ref_of i (ref_tag w)).boxed;
  object = some record { content = p (content_of (raw_of b i) (more_of b i)); room = q (content_of (raw_of b i) (more_of b i)) (room_of (raw_of b i)) };
}

module _ {b a : State} {w i : ℕ} (o : Reached b w i) (c : Touched b a i) (p : Content → Content) (q : Content → Room → Room)
    (content : content_of (raw_of a i) (more_of a i) ≡ p (content_of (raw_of b i) (more_of b i))) (room : room_of (raw_of a i) ≡ q (content_of (raw_of b i) (more_of b i)) (room_of (raw_of b i))) where
  slot-here : slot_of a i ≡ slot_with b w i p q
  unfolding slot_from
  slot-here =
      let fresh : a.heap.fresh ≡ b.heap.fresh = ap (λ (x : Heap). x.fresh) c.heap in
      let before = slot-used b i o.within in
      let gen : (raw_of b i).half % GENERATIONS ≡ (ref_of i (ref_tag w)).gen = ap (λ (s : Slot). s.gen) (sym before) ∙ sym (reached-gen o) in
      let boxed : leb BOX_HALF (raw_of b i).half ≡ (ref_of i (ref_tag w)).boxed = ap (λ (s : Slot). s.boxed) (sym before) ∙ sym (reached-boxed o) in
      let kind : (raw_of a i).kind ≡ 0 → ⊥ = λ e. o.present (sym c.kind ∙ e) in
      slot-used a i (omega (arith, o.within))
      ∙ rw (object-some (raw_of a i) (more_of a i) kind, content, room, c.half, gen, boxed)

  slot-there : (j : ℕ) → (j ≡ i → ⊥) → slot_of a j ≡ slot_of b j
  slot-there j ne =
      let fresh : a.heap.fresh ≡ b.heap.fresh = ap (λ (x : Heap). x.fresh) c.heap in
      by_cases (lt_or_le j b.heap.fresh)
      (λ l. slot-used a j (omega arith) ∙ rw (c.others j l ne, c.others-more j l ne) (sym (slot-used b j l)))
      (λ l. slot-unused a j (omega arith) ∙ sym (slot-unused b j l))

  slots-amended : (l : Layout) → slot_of a ≡ (amended (model_of l b).table p q (some (ref_of i (ref_tag w)))).slots
  unfolding update model_of ref_of
  slots-amended l =
      fun_ext
      (λ j.
      by_cases (same_or_not i j)
      (λ e. rw (← e) (slot-here ∙ rw (eqb_self i)))
      (λ ne. slot-there j (λ e. ne (sym e)) ∙ rw (eqb_no i j ne)))
      ∙ sym (amended-hit (model_of l b).table p q (ref_of i (ref_tag w)) _ (reached-gen o) (reached-boxed o) (reached-object o))

  pub touched_model : (l : Layout) → model_of l a ≡ with_table (model_of l b) a.heap.account (amended (model_of l b).table p q (ref_in w))
  unfolding model_of amended
  touched_model l = rw (reached-ref o, slots-amended l, c.heap, c.list, c.cells_length)
