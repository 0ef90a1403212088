use Rattle.capi.proofs.Laws.{keeps}
use Rattle.capi.proofs.mch_pop.Goals as goal

pub returns : goal.returns
returns c = keeps c.load-h.ensures c.pop-word.ensures c.answer.ensures c.write_answer.ensures
