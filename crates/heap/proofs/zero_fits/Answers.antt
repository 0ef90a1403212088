use Rattle.heap.proofs.ChargeLaws.{zero_charge}
use native.Mathlib.Omega.{arith}
use Rattle.heap.proofs.zero_fits.Goals as goal

pub returns : goal.returns
returns c = zero_charge c.args.account (omega arith) (omega arith)
