use Rattle.std.proofs.lemmas.Result.{err_from_is_err_and}
use mathlib.Core.Path.{refl}
use Rattle.collections_maps.proofs.MapLaws.{found-here, growth-refused, growth_read}
use Rattle.collections_maps.proofs.readings.growth_bytes.Goals as goal

pub returns-in_err-m : goal.returns-in_err-m
returns-in_err-m c =
    let p = err_from_is_err_and c.from_residual.result c.from_residual.ensures.1 in
    rw (p.1, p.2) (growth-refused c.args.view.now.good (c.map_at.ensures.refused _ c.in_err-m.was) refl)

pub returns : goal.returns
returns c = growth_read (found-here c.args.view.now.good (c.map_at.ensures.found _ c.in_ok-m.was)) (c.map_at.ensures.found _ c.in_ok-m.was).traced c.growth_bytes.ensures
