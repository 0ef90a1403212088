use Prim.Native.Nat.{◌*◌}
use Rattle.heap_cells.proofs.StringLaws.{ReadTo}
use Rattle.heap_cells.proofs.read_string.Given as goal

abbrev pub invariant-loop-q : goal.invariant-loop-q
invariant-loop-q l = ReadTo l.cells l.from l.initial.buffer l.buffer (l.q * 8)
