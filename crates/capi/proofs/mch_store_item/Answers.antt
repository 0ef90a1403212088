use Rattle.capi.proofs.Laws.{keeps}
use Rattle.capi.proofs.mch_store_item.Goals as goal

pub returns : goal.returns
returns c = keeps c.load-h.ensures c.store_item-done.ensures c.answer.ensures c.write_answer.ensures
