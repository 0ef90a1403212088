use native.Mathlib.Omega.{arith}
use Rattle.model.specs.Callsheet.{digits}
use Rattle.text.proofs.DigitsLaws.{length_digits}
use Rattle.text.proofs.WritesLaws.{writes_head}
use Rattle.text.proofs.Writer.put_head.Goals as goal

pub put_fields-requires : goal.put_fields-requires
put_fields-requires c = omega (arith, c.put_hex.ensures.puts.ends, c.put_hex.ensures.puts.size, length_digits 16 2 c.args.code)

pub returns : goal.returns
returns c = writes_head (digits 16 2 c.args.code) c.args.refusal c.args.word c.args.used c.put_hex.ensures c.put_fields.ensures
