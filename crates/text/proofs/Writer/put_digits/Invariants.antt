use Rattle.text.proofs.WritesLaws.{Going}
use Rattle.text.proofs.Writer.put_digits.Given as goal

abbrev pub invariant-loop-left : goal.invariant-loop-left
invariant-loop-left l = Going l.base l.n l.w l.initial.self l.self l.left l.rest
