use Rattle.map_store.proofs.Calls.{seek_start, seek_step, seek_none, seek_found}
use Rattle.map_store.proofs.reading.Map.live_from.Goals as goal

pub loop-pos-init : goal.loop-pos-init
loop-pos-init c = seek_start _ _ _

pub returns-then-self-pos-eq1 : goal.returns-then-self-pos-eq1
returns-then-self-pos-eq1 c = seek_found _ _ _ _ c.loop-pos.invariant c.loop-pos-test.true c.if-self-pos-eq1.true

pub loop-pos-preserved : goal.loop-pos-preserved
loop-pos-preserved c = seek_step _ _ _ _ c.loop-pos.invariant c.if-self-pos-eq1.false

pub returns : goal.returns
returns c = seek_none _ _ _ _ c.loop-pos.invariant c.loop-pos-test.false
