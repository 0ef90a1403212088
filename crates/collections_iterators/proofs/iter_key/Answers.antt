use Rattle.collections_iterators.proofs.IteratorLaws.{key_read, none-shown, passed-on, shown-ok, some-shown}
use Rattle.collections_iterators.proofs.iter_key.Goals as goal

pub returns-in_err-x : goal.returns-in_err-x
returns-in_err-x c = passed-on _ _ (key_read c.args.view.now.good c.iterator_at.ensures) _ c.in_err-x.was c.from_residual.ensures.1

pub returns-then-x-eq0 : goal.returns-then-x-eq0
returns-then-x-eq0 c = shown-ok _ _ (key_read c.args.view.now.good c.iterator_at.ensures) c.in_ok-x.was (none-shown _ c.if-x-eq0.true)

pub returns-else-x-eq0 : goal.returns-else-x-eq0
returns-else-x-eq0 c = shown-ok _ _ (key_read c.args.view.now.good c.iterator_at.ensures) c.in_ok-x.was (some-shown c.if-x-eq0.false)
