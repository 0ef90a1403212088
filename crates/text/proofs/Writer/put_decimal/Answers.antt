use mathlib.Core.Path.{ap}
use native.Mathlib.Omega.{arith}
use lib.ListN.{length}
use Rattle.text.proofs.DigitsLaws.{length_digits, decimal_most}
use Rattle.text.proofs.Writer.put_decimal.Goals as goal

pub put_digits-requires : goal.put_digits-requires
put_digits-requires c = omega (arith, length_digits 10 c.decimal_width.result c.args.w, decimal_most c.args.w, ap length c.decimal_width.ensures)
