use Rattle.capi.proofs.Laws.{plain, reads}
use Rattle.capi.proofs.mch_fits.Goals as goal

pub returns : goal.returns
returns c = reads c.lent_view-view.ensures c.fits.ensures (plain _ c.show.ensures) c.write_answer.ensures
