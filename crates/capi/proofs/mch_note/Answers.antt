use mir.Facts.{to_z-of_z}
use Rattle.capi.proofs.Laws.{keeps}
use Rattle.capi.proofs.mch_note.Goals as goal

pub returns : goal.returns
returns c = keeps c.load-h.ensures (rw (to_z-of_z c.ranges.k) at c.note-done.ensures) c.answer.ensures c.write_answer.ensures
