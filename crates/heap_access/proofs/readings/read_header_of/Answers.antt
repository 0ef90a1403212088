use mathlib.Core.Path.{ap}
use Rattle.std.proofs.Common.{Ok}
use Rattle.heap.proofs.ReachLaws.{located_fits}
use Rattle.heap_access.proofs.ObjectLaws.{object-at, object_lost}
use Rattle.heap_access.proofs.readings.read_header_of.Goals as goal

pub returns-in_err-i : goal.returns-in_err-i
returns-in_err-i c = object_lost c.locate.ensures c.in_err-i.was c.from_residual.ensures.1

pub read_header-requires : goal.read_header-requires
read_header-requires c = located_fits c.args.view.now.good c.locate.ensures c.in_ok-i.was

pub returns : goal.returns
returns c = object-at c.locate.ensures c.in_ok-i.was (ap Ok c.read_header.ensures)
