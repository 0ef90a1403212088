use native.Mathlib.Omega.{arith}
use Rattle.model.specs.Callsheet.{digits}
use Rattle.text.proofs.DigitsLaws.{length_digits}
use Rattle.text.proofs.PutsLaws.{length_head}
use Rattle.text.proofs.WritesLaws.{writes_line}
use Rattle.text.proofs.Writer.put_line.Goals as goal

pub put_byte-requires : goal.put_byte-requires
put_byte-requires c = omega (arith, c.put_head.ensures.puts.ends, c.put_head.ensures.puts.size, length_digits 16 2 c.args.code, length_head (digits 16 2 c.args.code) c.args.refusal c.args.word c.args.used)

pub returns : goal.returns
returns c = writes_line (digits 16 2 c.args.code) c.args.refusal c.args.word c.args.used c.put_head.ensures c.put_byte.ensures
