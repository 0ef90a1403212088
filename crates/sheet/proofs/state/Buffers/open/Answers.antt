use Rattle.std.proofs.Common.{refl}
use Rattle.sheet.proofs.state.Buffers.«open».Goals as goal

pub returns : goal.returns
returns c = record { opens = c.«open».ensures; kept = λ h. refl }
