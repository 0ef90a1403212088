use mir.Facts.{to_z-of_z}
use Rattle.capi.proofs.Laws.{performs}
use Rattle.capi.proofs.mch_new_integer.Goals as goal

pub returns : goal.returns
returns c = performs c.load-h.ensures c.save.ensures (rw (to_z-of_z c.ranges.z) at c.new_integer-made.ensures) c.made.ensures c.write_answer.ensures
