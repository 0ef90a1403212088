use native.Mathlib.Omega.{arith}
use Rattle.script.proofs.TakeLaws.{number_short, number-large, number-taken}
use Rattle.script.proofs.operands.take_number.Goals as goal

pub returns-then-input-t : goal.returns-then-input-t
returns-then-input-t c = λ ws. number_short c.args.size c.args.most (omega arith)

pub returns-then-most-x : goal.returns-then-most-x
returns-then-most-x c = λ ws. number-large c.args.size c.args.most (omega arith) c.read_little-x.ensures c.if-most-x.true

pub returns : goal.returns
returns c = λ ws. number-taken c.args.size c.args.most (omega arith) (omega arith) (omega arith) c.read_little-x.ensures (omega arith)
