use Rattle.std.proofs.lemmas.Result.{err_from_is_err_and}
use Rattle.heap.specs.Answers.{seen_by}
use Rattle.heap.proofs.ReachLaws.{located_at}
use Rattle.collections_maps.proofs.InsertLaws.{put_refused}
use Rattle.collections_maps.proofs.changes.put.Goals as goal

pub put_at-requires : goal.put_at-requires
put_at-requires c = record { good = c.requires; map = located_at c.requires c.locate.ensures c.in_ok-i.was }

pub returns-in_err-i : goal.returns-in_err-i
unfolding seen_by
returns-in_err-i c =
    let p = err_from_is_err_and c.from_residual.result c.from_residual.ensures.1 in
    rw (p.1, p.2) (put_refused c.requires c.locate.ensures c.in_err-i.was)
