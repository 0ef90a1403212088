use lib.ListN.{drop}
use native.Mathlib.Omega.{arith}
use Rattle.script.proofs.TakeLaws.{filling_start, filling_step, filling_end}
use Rattle.script.proofs.operands.read_words.Goals as goal

pub loop-i-init : goal.loop-i-init
loop-i-init c = (filling_start (drop c.args.from c.args.input.now) c.args.words.now c.args.filled, omega arith)

pub bounds-words-filled : goal.bounds-words-filled
bounds-words-filled c = omega (arith, c.loop-i.invariant.0.size)

pub loop-i-preserved : goal.loop-i-preserved
loop-i-preserved c = (filling_step c.args.input.now c.args.from c.args.filled c.loop-i.i c.read_little.result c.loop-i.invariant.0 (omega arith) c.read_little.ensures, omega arith)

pub returns : goal.returns
returns c = filling_end c.args.n c.loop-i.invariant.0 (omega arith) (omega arith)
