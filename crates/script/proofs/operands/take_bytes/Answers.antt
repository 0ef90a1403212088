use native.Mathlib.Omega.{arith}
use Rattle.script.specs.Parse.{with_bytes}
use Rattle.script.proofs.TakeLaws.{counts, counts_inside, list_none, bytes-taken}
use Rattle.script.proofs.operands.take_bytes.Goals as goal

pub returns-in_err-n : goal.returns-in_err-n
returns-in_err-n c = λ ns ws. rw c.from_residual.ensures (list_none 1 with_bytes c.take_count.ensures c.in_err-n.was)

pub overflow_add-result : goal.overflow_add-result
overflow_add-result c = let m = counts_inside 1 c.args.input.now c.args.t.at (counts 1 _ c.take_count.ensures c.in_ok-n.was) in omega (arith, m.0, m.1)

pub overflow_add-result-2 : goal.overflow_add-result-2
overflow_add-result-2 c = let m = counts_inside 1 c.args.input.now c.args.t.at (counts 1 _ c.take_count.ensures c.in_ok-n.was) in omega (arith, m.0, m.1)

pub returns : goal.returns
returns c = λ ns ws. bytes-taken c.requires (counts 1 _ c.take_count.ensures c.in_ok-n.was)
