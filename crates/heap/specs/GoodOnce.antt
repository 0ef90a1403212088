-- That a heap is good has at most one proof.
use Rattle.std.specs.Prelude.{◌≡◌, ℕ, ◌+◌, ◌*◌, ◌/◌, ◌<◌, ◌≤◌, Bool, true, false, cond, List, eqb}
use Rattle.std.proofs.Math.Bridge.{le_prop}
use Rattle.std.proofs.Math.Nat.{ℕ_set}
use Rattle.heap_slots.specs.FreeList.{Listed}
use Rattle.heap_slots.specs.Kinds.{ARRAY, BOX, CELL, ERROR, FUNCTION, INTEGER, ITERATOR, MAP, NONE, STRING, STRUCT}
use Rattle.heap_slots.specs.Scalars.{iterator_part, map_part}
use Rattle.heap_slots.specs.declared.Scalars.{Scalars}
use Rattle.heap_cells.specs.Regions.{RawSlot, Laid}
use Rattle.map_store.specs.Map as Map
use Rattle.map_store.specs.Once as Maps
use Rattle.model.specs.declared.Weights.{Weights}
use Rattle.heap.specs.Kinds.{map_of}
use Rattle.heap.specs.State.{State, more_of, raw_of}
use Rattle.heap.specs.Good.{Good, Holds, SlotGood, WeightsGood}

either-prop : (b : Bool) {A B : Type 0} → IsProp A → IsProp B → IsProp (cond b A B)
either-prop true a b = a
either-prop false a b = b

holds-prop : (k : ℕ) (r : RawSlot) (x : Scalars) → IsProp (Holds k r x)
holds-prop k r x =
    let map = Maps.good-prop (map_of r x) r.cells in
    either-prop (eqb k NONE) (hlevel (le_prop, ℕ_set))
    (either-prop (eqb k STRING) (hlevel ℕ_set)
    (either-prop (eqb k INTEGER) (hlevel ℕ_set)
    (either-prop (eqb k CELL) (hlevel ℕ_set)
    (either-prop (eqb k ERROR) (hlevel ℕ_set)
    (either-prop (eqb k BOX) (hlevel ℕ_set)
    (either-prop (eqb k ARRAY) (hlevel le_prop)
    (either-prop (eqb k MAP) (hlevel (le_prop, ℕ_set, map))
    (either-prop (eqb k STRUCT) (hlevel ℕ_set)
    (either-prop (eqb k FUNCTION) (hlevel ℕ_set)
    (either-prop (eqb k ITERATOR) (hlevel (le_prop, ℕ_set)) (hlevel ℕ_set)))))))))))

slot-prop : (r : RawSlot) (x : Scalars) → IsProp (SlotGood r x)
slot-prop r x = let holds = holds-prop r.kind r x in hlevel (le_prop, holds)

weights-prop : (w : Weights) → IsProp (WeightsGood w)
weights-prop w = hlevel le_prop

laid-prop : (n top m : ℕ) (s dir c : List ℕ) → IsProp (Laid n top m s dir c)
laid-prop n top m s dir c = hlevel (le_prop, ℕ_set)

listed-prop : (s list : List ℕ) (fresh free : ℕ) → IsProp (Listed s list fresh free)
listed-prop s list fresh free = hlevel (le_prop, ℕ_set)

pub good-prop : (t : State) → IsProp (Good t)
good-prop t =
    let weights = weights-prop t.heap.weights in
    let each = λ (i : ℕ). slot-prop (raw_of t i) (more_of t i) in
    let laid = laid-prop t.heap.fresh t.heap.top t.heap.entries t.slots t.directory t.cells in
    let listed = listed-prop t.slots t.list t.heap.fresh t.heap.free in
    hlevel (le_prop, ℕ_set, weights, each, laid, listed)
