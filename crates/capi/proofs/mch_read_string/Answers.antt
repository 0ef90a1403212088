use Rattle.capi.proofs.Laws.{reading_lends}
use Rattle.capi.proofs.mch_read_string.Goals as goal

pub returns : goal.returns
returns c = reading_lends _ c.lent_view-view.ensures c.read_string.ensures c.answer.ensures c.write_answer.ensures
