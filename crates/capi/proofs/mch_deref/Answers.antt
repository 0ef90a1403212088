use Rattle.capi.proofs.Laws.{plain, reads}
use Rattle.capi.proofs.mch_deref.Goals as goal

pub returns : goal.returns
returns c = reads c.lent_view-view.ensures c.deref.ensures (plain _ c.show.ensures) c.write_answer.ensures
