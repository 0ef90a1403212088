use Rattle.std.proofs.lemmas.Result.{err_from_is_err_and}
use mathlib.Core.Path.{◌≡◌, refl}
use borrow.Author.Rules.{rules}
use Rattle.collections_maps.proofs.MapLaws.{found-here, same_position, find-refused, find_read}
use Rattle.collections_maps.proofs.readings.find.Goals as goal

pub returns-in_err-m : goal.returns-in_err-m
returns-in_err-m c =
    let p = err_from_is_err_and c.from_residual.result c.from_residual.ensures.1 in
    rw (p.1, p.2) (find-refused c.args.view.now.good (c.map_at.ensures.refused _ c.in_err-m.was) refl)

pub returns : goal.returns
returns c =
    let f = c.map_at.ensures.found _ c.in_ok-m.was in
    let e : c.map.result ≡ c.find.result = same_position _ _ _ c.map.ensures.cases (λ p q h. search rules) in
    rw e (find_read (found-here c.args.view.now.good f) c.find.result f.traced c.find.ensures)
