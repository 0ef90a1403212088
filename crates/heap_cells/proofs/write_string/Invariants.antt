use Rattle.heap_cells.proofs.StringLaws.{Writing}
use Rattle.heap_cells.proofs.write_string.Given as goal

abbrev pub invariant-loop-q : goal.invariant-loop-q
invariant-loop-q l = Writing l.bytes l.initial.cells l.cells l.from l.q
