use native.Mathlib.Omega.{arith}
use Rattle.script.proofs.TakeLaws.{count_short, count_large, count_taken}
use Rattle.script.proofs.operands.take_count.Goals as goal

pub returns-then-left-lt8 : goal.returns-then-left-lt8
returns-then-left-lt8 c = count_short c.args.input.now c.args.at c.args.size c.if-left-lt8.true

pub returns-then-left-size : goal.returns-then-left-size
returns-then-left-size c = count_large c.args.input.now c.args.at c.args.size (omega arith) c.requires.1 c.read_little-n.ensures c.if-left-size.true

pub returns : goal.returns
returns c = count_taken c.args.input.now c.args.at c.args.size (omega arith) c.requires.1 c.read_little-n.ensures (omega arith)
