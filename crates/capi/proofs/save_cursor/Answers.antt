use Rattle.history.proofs.Facts.{eqb_no}
use Rattle.capi.specs.Record.{cursor_out}
use Rattle.capi.proofs.save_cursor.Goals as goal

pub returns-then-s-eq0 : goal.returns-then-s-eq0
unfolding cursor_out
returns-then-s-eq0 c = rw c.if-s-eq0.true

pub returns-else-s-eq0 : goal.returns-else-s-eq0
unfolding cursor_out
returns-else-s-eq0 c = rw (eqb_no _ 0 c.if-s-eq0.false)
