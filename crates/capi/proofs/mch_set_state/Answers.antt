use Rattle.capi.proofs.Laws.{keeps}
use Rattle.capi.proofs.mch_set_state.Goals as goal

pub returns : goal.returns
returns c = keeps c.load-h.ensures c.set_state-done.ensures c.answer.ensures c.write_answer.ensures
