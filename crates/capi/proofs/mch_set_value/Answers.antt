use Rattle.capi.proofs.Laws.{keeps}
use Rattle.capi.proofs.mch_set_value.Goals as goal

pub returns : goal.returns
returns c = keeps c.load-h.ensures c.set_value-done.ensures c.answer.ensures c.write_answer.ensures
