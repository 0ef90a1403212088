use Rattle.heap.proofs.CallLaws.{fits_read}
use Rattle.heap.proofs.fits.Goals as goal

pub returns : goal.returns
returns c = fits_read c.args.view.now.good c.allows.ensures
