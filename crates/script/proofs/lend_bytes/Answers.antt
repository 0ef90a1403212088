use Rattle.std.proofs.Common.{◌∙◌, length}
use lib.Seq.{length-take-le}
use Rattle.script.proofs.LendLaws.{fronts, lends_buffer, lends_bytes}
use Rattle.script.proofs.lend_bytes.Goals as goal

pub returns-in-Buffer : goal.returns-in-Buffer
returns-in-Buffer c = λ k e z. lends_buffer c.args.memory k c.in-Buffer.is e (fronts _ _ c.args.o.b (c.requires.0 c.in-Buffer.is) (c.fill.ensures.len ∙ length-take-le c.args.o.b c.args.bytes.now (c.requires.0 c.in-Buffer.is)) (c.fill.ensures.after (λ y f. f) ∙ rw (length-take-le c.args.o.b c.args.bytes.now (c.requires.0 c.in-Buffer.is))))

pub returns-in_default : goal.returns-in_default
returns-in_default c = λ k e z. lends_bytes c.args.memory k c.in_default.not-Buffer z (fronts _ _ (length c.args.own.now) c.requires.1 (rw c.copy_from_slice.ensures.after) c.copy_from_slice.ensures.after)
