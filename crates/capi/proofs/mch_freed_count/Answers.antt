use Rattle.capi.proofs.Laws.{plain, reads}
use Rattle.capi.proofs.mch_freed_count.Goals as goal

pub returns : goal.returns
returns c = reads c.lent_view-view.ensures c.freed_count.ensures (plain _ c.show.ensures) c.write_answer.ensures
