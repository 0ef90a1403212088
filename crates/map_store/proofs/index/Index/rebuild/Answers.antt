use Rattle.map_store.proofs.Steps.{wiped-able, wiped-start, wiped-end, build_room, build_skip, build_place, build_end}
use Rattle.map_store.proofs.index.Index.rebuild.Goals.{then-cells-pos-eq1, else-cells-pos-eq1}
use Rattle.map_store.proofs.index.Index.rebuild.Goals as goal

pub loop-pos-init : goal.loop-pos-init
loop-pos-init c = wiped-start _ _ _ _ _ c.requires c.clear.ensures

pub place-requires-clause-room : goal.place-requires-clause-room
place-requires-clause-room c =
    build_room _ _ _ _ _ _ (wiped-able _ _ _ _ _ c.requires c.clear.ensures) c.loop-pos.invariant c.loop-pos-test.true c.if-cells-pos-eq1.true

pub loop-pos-preserved : goal.loop-pos-preserved
loop-pos-preserved c =
    let R = wiped-able _ _ _ _ _ c.requires c.clear.ensures in
    elim c.if-cells-pos-eq1.branch [
      | then-cells-pos-eq1 w ↦
          rw w.cells-is
          (build_place _ _ _ _ _ _ R c.loop-pos.invariant c.loop-pos-test.true w.if-cells-pos-eq1.true _ w.place.ensures.mapped w.place.ensures.frame w.place.ensures.room)
      | else-cells-pos-eq1 w ↦ rw w.cells-is (build_skip _ _ _ _ _ _ R c.loop-pos.invariant c.loop-pos-test.true w.if-cells-pos-eq1.false)
    ]

pub returns : goal.returns
returns c =
    wiped-end _ _ _ _ _ _ c.requires c.clear.ensures
    (build_end _ _ _ _ _ _ (wiped-able _ _ _ _ _ c.requires c.clear.ensures) c.loop-pos.invariant c.loop-pos-test.false)
