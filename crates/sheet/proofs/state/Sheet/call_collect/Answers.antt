use Rattle.std.proofs.Common.{refl}
use Rattle.std.proofs.lemmas.Result.{err_from_is_err_and}
use Rattle.sheet.proofs.ShownLaws.{shows-freed, shows-short, whole_kept}
use Rattle.sheet.proofs.state.Sheet.call_collect.Goals as goal

pub invariant_of-self : goal.invariant_of-self
invariant_of-self c = record { whole = whole_kept _ c.args.self.now.whole c.collect.ensures.marks_unchanged c.collect.ensures.order_unchanged c.collect.ensures.does }

pub returns-in_err-collection : goal.returns-in_err-collection
returns-in_err-collection c =
    let p = err_from_is_err_and c.from_residual.result c.from_residual.ensures.1 in
    rw (p.1, p.2) (shows-short refl refl _ c.in_err-collection.was c.collect.ensures.does)

pub returns : goal.returns
returns c = shows-freed refl refl _ c.in_ok-collection.was c.collect.ensures.does
