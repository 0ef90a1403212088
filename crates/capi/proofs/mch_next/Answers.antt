use Rattle.capi.proofs.Laws.{steps}
use Rattle.capi.proofs.mch_next.Goals as goal

pub returns-clause-delivers_same : goal.returns-clause-delivers_same
returns-clause-delivers_same c = (steps _ _ c.lent_view-view.ensures c.load_cursor-c.ensures c.step_cursor.ensures c.moved-s.ensures c.save_cursor.ensures c.write_answer.ensures).0

pub returns-clause-cursor_after : goal.returns-clause-cursor_after
returns-clause-cursor_after c = (steps _ _ c.lent_view-view.ensures c.load_cursor-c.ensures c.step_cursor.ensures c.moved-s.ensures c.save_cursor.ensures c.write_answer.ensures).1
