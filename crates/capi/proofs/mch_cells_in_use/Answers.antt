use Rattle.capi.proofs.Laws.{plain, reads}
use Rattle.capi.proofs.mch_cells_in_use.Goals as goal

pub returns : goal.returns
returns c = reads c.lent_view-view.ensures c.cells_in_use.ensures (plain _ c.show.ensures) c.write_answer.ensures
