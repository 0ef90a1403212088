use Rattle.capi.proofs.Laws.{plain, reads}
use Rattle.capi.proofs.mch_used_bytes.Goals as goal

pub returns : goal.returns
returns c = reads c.lent_view-view.ensures c.used_bytes.ensures (plain _ c.show.ensures) c.write_answer.ensures
