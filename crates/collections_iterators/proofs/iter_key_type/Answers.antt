use mathlib.Core.Path.{refl}
use Rattle.collections_iterators.proofs.IteratorLaws.{keys_read, passed-on, shown-ok}
use Rattle.collections_iterators.proofs.iter_key_type.Goals as goal

pub returns-in_err-iterator_at : goal.returns-in_err-iterator_at
returns-in_err-iterator_at c = passed-on _ _ (keys_read c.args.view.now.good c.iterator_at.ensures) _ c.in_err-iterator_at.was c.from_residual.ensures.1

pub returns : goal.returns
returns c = shown-ok _ _ (keys_read c.args.view.now.good c.iterator_at.ensures) c.in_ok-iterator_at.was refl
