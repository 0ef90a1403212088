use Rattle.collector.proofs.Sweeping.{swept-start, swept_lookable, swept_step, swept-end}
use Rattle.collector.proofs.sweep.Goals as goal

pub loop-i-init : goal.loop-i-init
loop-i-init c = swept-start c.requires

pub sweep_slot-t-requires : goal.sweep_slot-t-requires
sweep_slot-t-requires c = swept_lookable c.requires c.loop-i.invariant c.loop-i-test.true

pub loop-i-preserved : goal.loop-i-preserved
loop-i-preserved c = swept_step c.requires c.loop-i.invariant c.loop-i-test.true c.sweep_slot-t.ensures

pub returns : goal.returns
returns c = swept-end c.requires c.loop-i.invariant c.loop-i.auto.i-end c.loop-i-test.false
