use Rattle.collector_marking.proofs.Adding.{going_start, going_step, going_end}
use Rattle.collector_marking.proofs.Traced.{words-front, words-end}
use Rattle.collector_marking.proofs.Marker.mark_words.Goals as goal

pub loop-w-init : goal.loop-w-init
loop-w-init c = going_start

pub loop-w-preserved : goal.loop-w-preserved
loop-w-preserved c = going_step c.loop-w.invariant (words-front _ _ c.loop-w-test.true) c.mark_word.ensures

pub returns : goal.returns
returns c = going_end c.loop-w.invariant (words-end _ _ c.loop-w-test.false)
