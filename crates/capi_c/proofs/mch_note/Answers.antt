-- The number passed on is read back as it was.
use Rattle.std.proofs.Common.{to_z-of_z}
use Rattle.capi_c.proofs.mch_note.Goals as goal

pub returns : goal.returns
returns c = rw (to_z-of_z c.ranges.k) at c.mch_note.ensures
