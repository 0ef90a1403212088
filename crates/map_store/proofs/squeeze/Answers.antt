use Rattle.std.proofs.Common.{arith}
use Rattle.map_store.proofs.Steps.{squeeze_start, squeeze_skip, squeeze_move, squeeze_end, is_live, is_dead}
use Rattle.map_store.proofs.squeeze.Goals.{then-entry, else-entry}
use Rattle.map_store.proofs.squeeze.Goals as goal

pub loop-pos-init : goal.loop-pos-init
loop-pos-init c = squeeze_start _ _

pub write_entry-requires : goal.write_entry-requires
write_entry-requires c = omega (arith, c.loop-pos.invariant.before)

pub loop-pos-preserved : goal.loop-pos-preserved
loop-pos-preserved c =
    let Q = c.loop-pos.invariant in
    let e = c.read_entry-entry.ensures in
    elim c.if-entry.branch [
      | then-entry w ↦ rw (w.left-is, c.write_entry.ensures, e) (squeeze_move _ _ _ _ _ c.requires Q c.loop-pos-test.true (is_live _ (rw e at w.if-entry.true)))
      | else-entry w ↦ rw (w.left-is, c.write_entry.ensures, e) (squeeze_skip _ _ _ _ _ c.requires Q c.loop-pos-test.true (is_dead _ (rw e at w.if-entry.false)))
    ]

pub returns : goal.returns
returns c = squeeze_end _ _ _ _ _ c.loop-pos.invariant c.loop-pos-test.false
