use mathlib.Core.Path.{ap}
use Rattle.heap.specs.Answers.{accepted}
use Rattle.heap_access.specs.Objects.{write}
use Rattle.heap_access.proofs.ObjectLaws.{located_header, object-at, store_lost}
use Rattle.heap_access.proofs.stores.store_header_word.Goals as goal

pub returns-in_err-i : goal.returns-in_err-i
returns-in_err-i g c = store_lost c.locate.ensures c.in_err-i.was c.from_residual.ensures.1

pub set_word-requires-clause-fits : goal.set_word-requires-clause-fits
set_word-requires-clause-fits g c = located_header c.locate.ensures c.in_ok-i.was c.requires.slots

pub returns : goal.returns
returns g c = object-at c.locate.ensures c.in_ok-i.was (ap (write accepted) c.set_word.ensures)
