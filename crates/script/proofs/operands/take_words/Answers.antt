use native.Mathlib.Omega.{arith}
use Rattle.script.specs.Parse.{with_words}
use Rattle.script.proofs.TakeLaws.{counts, counts_inside, list_none, words-taken}
use Rattle.script.proofs.operands.take_words.Goals as goal

pub returns-in_err-n : goal.returns-in_err-n
returns-in_err-n c = λ ns. rw c.from_residual.ensures (list_none 8 with_words c.take_count.ensures c.in_err-n.was)

pub read_words-filled-requires : goal.read_words-filled-requires
read_words-filled-requires c = let m = counts_inside 8 c.args.input.now c.args.t.at (counts 8 _ c.take_count.ensures c.in_ok-n.was) in (omega (arith, m.0, m.1), omega (arith, m.0, m.1, c.requires.room))

pub overflow_mul-result : goal.overflow_mul-result
overflow_mul-result c = let m = counts_inside 8 c.args.input.now c.args.t.at (counts 8 _ c.take_count.ensures c.in_ok-n.was) in omega (arith, m.0, m.1)

pub overflow_add-result : goal.overflow_add-result
overflow_add-result c = let m = counts_inside 8 c.args.input.now c.args.t.at (counts 8 _ c.take_count.ensures c.in_ok-n.was) in omega (arith, m.0, m.1)

pub returns : goal.returns
returns c = λ ns. words-taken c.requires.inside (counts 8 _ c.take_count.ensures c.in_ok-n.was) c.read_words-filled.ensures
