use mathlib.Core.Path.{◌≡◌}
use borrow.Author.Rules.{rules}
use Rattle.collections_maps.proofs.MapLaws.{lent-kept, lent-moved, same_position}
use Rattle.collections_maps.proofs.step_lent.Goals as goal

pub returns-in-Ok : goal.returns-in-Ok
returns-in-Ok c =
    let e : c.map.result ≡ c.in-Ok.s.found = same_position _ _ _ c.map.ensures.cases (λ p q h. search rules) in
    rw e (lent-moved _ _ c.step_cursor.ensures c.in-Ok.s c.in-Ok.is)

pub returns-in-Err : goal.returns-in-Err
returns-in-Err c = lent-kept _ _ c.step_cursor.ensures c.in-Err.is
