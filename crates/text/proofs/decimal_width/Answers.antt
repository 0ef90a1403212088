use native.Mathlib.Omega.{arith}
use Rattle.text.proofs.DigitsLaws.{by_width}
use Rattle.text.proofs.decimal_width.Goals as goal

pub returns : goal.returns
returns c = by_width c.args.w c.ilog10.result c.ilog10.ensures.bound (omega (arith, c.ilog10.ensures.next_power_gt, c.max.ensures, c.ilog10.ensures.power_le)) (rw c.max.ensures at c.ilog10.ensures.power_le)
