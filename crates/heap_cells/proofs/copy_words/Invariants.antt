use Rattle.heap_cells.proofs.MoveLaws.{Copying}
use Rattle.heap_cells.proofs.copy_words.Given as goal

abbrev pub invariant-loop-j : goal.invariant-loop-j
invariant-loop-j l = Copying l.words l.initial.cells l.cells l.from l.j
