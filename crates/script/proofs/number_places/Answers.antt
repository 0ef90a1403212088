use Prim.Native.Nat.{◌+◌}
use mathlib.Core.Path.{refl}
use native.Mathlib.Omega.{arith}
use Rattle.script.proofs.LendLaws.{numbered_more, numbered-none, filling_end, filling_step}
use Rattle.script.proofs.number_places.Goals as goal

pub loop-i-init : goal.loop-i-init
loop-i-init c = record { front = numbered-none c.args.places.now; inside = omega arith; room = omega arith; size = refl }

pub loop-i-preserved : goal.loop-i-preserved
loop-i-preserved c = filling_step (0xAAAAAAAAAAAA0000 + c.loop-i.i) c.loop-i.invariant (omega arith) (λ h e. numbered_more c.loop-i.places c.loop-i.i h e)

pub returns : goal.returns
returns c = filling_end c.loop-i.invariant (omega arith)
