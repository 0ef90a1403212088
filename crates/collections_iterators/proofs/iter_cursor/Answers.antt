use Rattle.collections_iterators.proofs.IteratorLaws.{cursor-index, cursor-map, cursor_read, iterator-epoch, passed-on}
use Rattle.collections_iterators.proofs.iter_cursor.Goals as goal

pub returns-in_err-p : goal.returns-in_err-p
returns-in_err-p c = passed-on _ _ (cursor_read c.args.view.now.good c.iterator_at.ensures) _ c.in_err-p.was c.from_residual.ensures.1

pub returns-then-row_at-eq-ARRAY : goal.returns-then-row_at-eq-ARRAY
returns-then-row_at-eq-ARRAY c = cursor-index c.args.view.now.good c.iterator_at.ensures c.in_ok-p.was c.row_at.ensures c.if-row_at-eq-ARRAY.true

pub cursor_of-requires : goal.cursor_of-requires
cursor_of-requires c = iterator-epoch c.args.view.now.good c.iterator_at.ensures c.in_ok-p.was

pub returns-else-row_at-eq-ARRAY : goal.returns-else-row_at-eq-ARRAY
returns-else-row_at-eq-ARRAY c = cursor-map c.args.view.now.good c.iterator_at.ensures c.in_ok-p.was c.row_at.ensures _ c.if-row_at-eq-ARRAY.false c.cursor_of.ensures
