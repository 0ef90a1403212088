use Prim.Native.Nat.{◌≤◌}
use lib.ListN.{drop}
use Rattle.script.proofs.TakeLaws.{Filling}
use Rattle.script.proofs.operands.read_words.Given as goal

abbrev pub invariant-loop-i : goal.invariant-loop-i
invariant-loop-i l = Filling (drop l.from l.input) l.initial.words l.filled l.i l.words × (l.i ≤ l.n)
