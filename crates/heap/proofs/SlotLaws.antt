-- The model's slots and counts, from the record and the lent words. Assumes nothing.
use Prim.Native.Nat.{ℕ, zero, suc, ◌≤◌, ◌<◌}
use mathlib.Core.Path.{◌≡◌, refl, ap, sym, ◌∙◌}
use mathlib.Core.Bool.{Bool, true, false, ◌||◌, not}
use mathlib.Core.List.{List}
use mathlib.Core.Option.{Option}
use native.Mathlib.Omega.{arith}
use lib.ListN.{length}
use Rattle.heap_slots.specs.Header.{header_at}
use Rattle.heap_slots.specs.FreeList.{free_list}
use Rattle.heap_slots.specs.Lookup.{Halves}
use Rattle.heap_slots.proofs.FreeListLaws.{free-none, free-pop}
use Rattle.heap_cells.specs.Regions.{Laid, raw_at, sum_to}
use Rattle.heap_cells.proofs.RawLaws.{region-length}
use Rattle.history.proofs.Facts.{ltb_no, ltb_yes}
use Rattle.layout.specs.Layout.{Layout}
use Rattle.map_store.specs.Store.{Room}
use Rattle.model.specs.Calls.{add}
use Rattle.model.specs.Content.{Content}
use Rattle.model.specs.Slots.{one}
use Rattle.model.specs.Slots as Slots
use Rattle.model.specs.Model.{cells_in, cells_used, occupied, count_of_present}
use Rattle.model.specs.Refusals.{is_empty, slotless, unless}
use Rattle.heap.specs.Kinds.{object_of}
use Rattle.heap.specs.State.{State, model_of, more_of, raw_of, slot_from, slot_of, unused}
use Rattle.heap.specs.Good.{Good, filled}
use Rattle.heap.proofs.KindLaws.{cells_of_object, object-filled}

-- ---- a slot of the model

pub slot-used : (t : State) (i : ℕ) → i < t.heap.fresh → slot_of t i ≡ slot_from (raw_of t i) (more_of t i)
unfolding slot_of
slot-used t i h = rw (ltb_yes i t.heap.fresh h)

pub slot-unused : (t : State) (i : ℕ) → t.heap.fresh ≤ i → slot_of t i ≡ unused
unfolding slot_of
slot-unused t i h = rw (ltb_no i t.heap.fresh h)

pub slot-object : (t : State) (i : ℕ) → i < t.heap.fresh → (slot_of t i).object ≡ object_of (raw_of t i) (more_of t i)
unfolding slot_from
slot-object t i h = ap (λ (s : Slots.Slot). s.object) (slot-used t i h)

-- ---- regions

pub raw-length : {n top m : ℕ} {s dir c : List ℕ} → Laid n top m s dir c → (j : ℕ) → j < n → length (raw_at s c j).cells ≡ (raw_at s c j).size
unfolding raw_at
raw-length {s = s} {c = c} g j h = region-length (header_at s j) c (g.inside j h)

-- ---- sums over the slots

-- the model's sum and the cells' sum of the same numbers
pub sum-turned : (n : ℕ) (f g : ℕ → ℕ) → ((j : ℕ) → j < n → f j ≡ g j) → Slots.sum_to n f ≡ sum_to g n
unfolding Slots.sum_to sum_to
sum-turned zero f g h = refl
sum-turned (suc n) f g h = rw (sum-turned n f g (λ j l. h j (omega arith)), h n (omega arith))

module _ (l : Layout) (t : State) (g : Good t) where
  -- "the cells of present objects" are those in use
  pub cells-used : cells_used (model_of l t).table ≡ t.heap.taken
  unfolding cells_used model_of raw_at
  cells-used =
      sum-turned t.heap.fresh (λ i. cells_in (slot_of t i).object) (λ j. (header_at t.slots j).size)
      (λ j h. ap cells_in (slot-object t j h) ∙ cells_of_object (raw_of t j) (more_of t j) (g.each j h) (raw-length g.laid j h))
      ∙ sym g.taken

  pub counts-present : count_of_present (model_of l t).table ≡ t.heap.present
  unfolding count_of_present model_of raw_at
  counts-present =
      sum-turned t.heap.fresh (λ i. one (occupied (slot_of t i).object)) (filled t)
      (λ j h. ap (λ (o : Option Slots.Object). one (occupied o)) (slot-object t j h) ∙ object-filled (raw_of t j) (more_of t j))
      ∙ sym g.present

-- ---- 6: no slot on the free list, and none never used

module _ (l : Layout) (t : State) (c : Content) (q : Room) where
  pub slot_missing : t.heap.free ≡ 0 → t.heap.size ≤ t.heap.fresh → slotless (model_of l t).table (add c q) ≡ 6
  unfolding slotless model_of unless is_empty
  slot_missing z h = rw (free-none t.list t.heap.free z, ltb_no t.heap.fresh t.heap.size h)

  pub slot_unspent : t.heap.fresh < t.heap.size → slotless (model_of l t).table (add c q) ≡ 0
  unfolding slotless model_of unless is_empty
  slot_unspent h = rw (ltb_yes t.heap.fresh t.heap.size h) (go (not (is_empty (free_list t.list t.heap.free))))
    where
      go : (b : Bool) → unless (b || true) 6 ≡ 0
      go true = unfold unless in refl
      go false = unfold unless in refl

  pub slot-listed : (t.heap.free ≡ 0 → ⊥) → slotless (model_of l t).table (add c q) ≡ 0
  unfolding slotless model_of unless is_empty
  slot-listed h = rw (free-pop t.list t.heap.free h)

-- ---- what the lookup needs

pub halves : {t : State} → Good t → Halves t.slots t.heap.fresh
unfolding raw_at
halves g = record { low = λ i h k. (g.each i h).half_low; high = λ i h k. (g.each i h).half_high }
