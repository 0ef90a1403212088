use Rattle.capi.proofs.Laws.{keeps}
use Rattle.capi.proofs.mch_store_box.Goals as goal

pub returns : goal.returns
returns c = keeps c.load-h.ensures c.store_box-done.ensures c.answer.ensures c.write_answer.ensures
