use native.Mathlib.Omega.{arith}
use Rattle.text.proofs.LittleLaws.{reads_little}
use Rattle.text.proofs.read_little.Goals as goal

pub returns : goal.returns
returns c = reads_little _ c.copy_from_slice.ensures.after c.requires.0 c.requires.1 (λ i. omega (arith, c.type_inv.bytes i)) c.from_le_bytes.ensures
