use Rattle.text.proofs.WritesLaws.{writes-append}
use Rattle.text.proofs.Writer.put_spaced_decimal.Goals as goal

pub returns : goal.returns
returns c = writes-append c.put_byte.ensures c.put_decimal.ensures
