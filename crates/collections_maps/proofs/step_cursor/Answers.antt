use Rattle.std.proofs.lemmas.Result.{err_from_is_err_and}
use mathlib.Core.Path.{refl}
use Rattle.collections_maps.proofs.MapLaws.{found-here, step-refused, step_read}
use Rattle.collections_maps.proofs.step_cursor.Goals as goal

pub returns-in_err-map_at : goal.returns-in_err-map_at
returns-in_err-map_at c =
    let p = err_from_is_err_and c.from_residual.result c.from_residual.ensures.1 in
    rw (p.1, p.2) (step-refused c.args.view.now.good (c.map_at.ensures.refused _ c.in_err-map_at.was) refl)

pub returns : goal.returns
returns c = step_read (found-here c.args.view.now.good (c.map_at.ensures.found _ c.in_ok-map_at.was)) _ c.step.ensures
