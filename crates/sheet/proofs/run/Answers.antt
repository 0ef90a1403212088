use Rattle.sheet.proofs.OpeningLaws.{short-answers, text-answers}
use Rattle.sheet.proofs.run.Goals as goal

pub returns-then-out-n : goal.returns-then-out-n
returns-then-out-n c = short-answers c.args.input.now c.min-n.result c.min-n.ensures c.if-out-n.true

pub returns : goal.returns
returns c = text-answers c.args.input.now c.min-n.result c.min-n.ensures c.run_new.result c.if-out-n.false c.run_new.ensures
