use Rattle.capi.proofs.Laws.{performs}
use Rattle.capi.proofs.mch_new_string.Goals as goal

pub returns : goal.returns
returns c = performs c.load-h.ensures c.save.ensures c.new_string-made.ensures c.made.ensures c.write_answer.ensures
