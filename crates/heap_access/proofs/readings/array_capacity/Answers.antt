use mathlib.Core.Path.{refl}
use Rattle.heap_access.proofs.ReadingLaws.{passed_on, shown_ok}
use Rattle.heap_access.proofs.ReadCalls.{array-capacity_read}
use Rattle.heap_access.proofs.readings.array_capacity.Goals as goal

pub returns-in_err-read_header_of : goal.returns-in_err-read_header_of
returns-in_err-read_header_of c = passed_on _ _ (array-capacity_read c.args.view.now.good c.read_header_of.ensures) _ c.in_err-read_header_of.was c.from_residual.ensures.1

pub returns : goal.returns
returns c = shown_ok _ _ (array-capacity_read c.args.view.now.good c.read_header_of.ensures) c.in_ok-read_header_of.was refl
