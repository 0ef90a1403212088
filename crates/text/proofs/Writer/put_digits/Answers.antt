use mathlib.Core.Path.{refl}
use Rattle.text.proofs.WritesLaws.{going_step, going_end}
use Rattle.text.proofs.Writer.put_digits.Goals as goal

pub loop-left-preserved : goal.loop-left-preserved
loop-left-preserved c = going_step c.loop-left.invariant c.requires.2 c.digit_byte.ensures c.loop-left-test.true refl refl refl

pub returns : goal.returns
returns c = going_end c.loop-left.invariant c.requires.2 c.loop-left-test.false refl refl refl
