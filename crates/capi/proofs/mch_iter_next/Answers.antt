use Rattle.capi.proofs.Laws.{keeps}
use Rattle.capi.proofs.mch_iter_next.Goals as goal

pub returns : goal.returns
returns c = keeps c.load-h.ensures c.iter_next-item.ensures c.answer.ensures c.write_answer.ensures
