use Rattle.map_store.proofs.Calls2.{now_hashed, remove-out, remove-dead, remove-live}
use Rattle.map_store.proofs.MapStore.remove.Goals.{else-pos-self-via-then-pos-self+else-cells-pos-eq1, else-pos-self-via-else-pos-self}
use Rattle.map_store.proofs.MapStore.remove.Goals as goal

pub slot_of-slot-requires-clause-mapped : goal.slot_of-slot-requires-clause-mapped
slot_of-slot-requires-clause-mapped c =
    let B = c.make_hashed.ensures in
    rw c.places.ensures ((B.good.indexed (now_hashed _ _ _ _ _ B c.args.pos)).mapped)

pub returns-then-cells-pos-eq1 : goal.returns-then-cells-pos-eq1
returns-then-cells-pos-eq1 c = remove-live _ _ _ _ _ c.make_hashed.ensures _ (c.if-pos-self.true, c.if-cells-pos-eq1.true) _ _ c.take.ensures

pub returns-else-pos-self : goal.returns-else-pos-self
returns-else-pos-self c =
    elim c.else-pos-self.branch [
      | else-pos-self-via-then-pos-self+else-cells-pos-eq1 w ↦ remove-dead _ _ _ _ _ c.make_hashed.ensures _ w.if-pos-self.true w.if-cells-pos-eq1.false
      | else-pos-self-via-else-pos-self w ↦ remove-out _ _ _ _ _ c.make_hashed.ensures _ w.if-pos-self.false
    ]
