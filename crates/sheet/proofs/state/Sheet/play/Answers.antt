use Rattle.sheet.proofs.PlayLaws.{playing_end, playing_start, playing_step}
use Rattle.sheet.proofs.state.Sheet.play.Goals as goal

pub loop-at-init : goal.loop-at-init
loop-at-init c = playing_start _ c.args.input.now _ c.requires

pub loop-at-preserved : goal.loop-at-preserved
loop-at-preserved c = playing_step c.loop-at.invariant c.loop-at-test.true c.turn-at.ensures

pub returns : goal.returns
returns c = playing_end c.loop-at.invariant c.loop-at-test.false
