use native.Mathlib.Omega.{arith}
use Rattle.text.specs.Lines.{line_fields}
use Rattle.text.proofs.DigitsLaws.{length_digits, decimal_most}
use Rattle.text.proofs.WritesLaws.{writes-append}
use Rattle.text.proofs.Writer.put_fields.Goals as goal

pub put_spaced_hex-requires : goal.put_spaced_hex-requires
put_spaced_hex-requires c = omega (arith, c.put_spaced_decimal.ensures.puts.ends, c.put_spaced_decimal.ensures.puts.size, decimal_most c.args.refusal)

pub put_spaced_decimal-requires-2 : goal.put_spaced_decimal-requires-2
put_spaced_decimal-requires-2 c = omega (arith, c.put_spaced_decimal.ensures.puts.ends, c.put_spaced_decimal.ensures.puts.size, c.put_spaced_hex.ensures.puts.ends, c.put_spaced_hex.ensures.puts.size, decimal_most c.args.refusal, length_digits 16 16 c.args.word)

pub returns : goal.returns
unfolding line_fields
returns c = writes-append (writes-append c.put_spaced_decimal.ensures c.put_spaced_hex.ensures) c.put_spaced_decimal-2.ensures
