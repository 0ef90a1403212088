-- The number passed on is read back as it was.
use Rattle.std.proofs.Common.{to_z-of_z}
use Rattle.capi_c.proofs.mch_new_array.Goals as goal

pub returns : goal.returns
returns c = rw (to_z-of_z c.ranges.length) at c.mch_new_array.ensures
