use Rattle.capi.proofs.Laws.{performs_with}
use Rattle.capi.proofs.mch_new_coroutine.Goals as goal

pub returns : goal.returns
returns c = performs_with c.load-h.ensures c.save.ensures c.load_coroutine.ensures c.new_coroutine_flat-made.ensures c.made.ensures c.write_answer.ensures
