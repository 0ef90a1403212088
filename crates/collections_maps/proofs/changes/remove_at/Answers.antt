use Rattle.std.proofs.lemmas.Result.{err_from_is_err_and}
use Rattle.heap.specs.Answers.{seen_by}
use Rattle.collections_maps.proofs.InsertLaws.{located_map}
use Rattle.collections_maps.proofs.RemoveLaws.{remove-at-does, remove-at-refused}
use Rattle.collections_maps.proofs.changes.remove_at.Goals as goal

pub remove_place-requires : goal.remove_place-requires
remove_place-requires c = record { good = c.requires; map = located_map c.requires c.locate.ensures c.in_ok-i.was }

pub returns-in_err-i : goal.returns-in_err-i
unfolding seen_by
returns-in_err-i c =
    let p = err_from_is_err_and c.from_residual.result c.from_residual.ensures.1 in
    rw (p.1, p.2) (remove-at-refused c.requires c.locate.ensures c.in_err-i.was)

pub returns : goal.returns
returns c = remove-at-does c.requires c.locate.ensures c.in_ok-i.was c.remove_place.ensures
