use Rattle.capi.proofs.Laws.{performs}
use Rattle.capi.proofs.mch_charge.Goals as goal

pub returns : goal.returns
returns c = performs c.load-h.ensures c.save.ensures c.charge-done.ensures c.answer.ensures c.write_answer.ensures
