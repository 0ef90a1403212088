use Rattle.std.proofs.lemmas.Result.{err_from_is_err_and}
use Rattle.heap.proofs.LocateLaws.{found-fits, locates_at, locates_missed, locates_other}
use Rattle.heap.proofs.lookup.locate.Goals as goal

pub read_header-requires : goal.read_header-requires
read_header-requires c = found-fits c.find.ensures c.in_ok-i.was c.requires.0 c.requires.1

pub returns-in_err-i : goal.returns-in_err-i
returns-in_err-i c =
    let p = err_from_is_err_and c.from_residual.result c.from_residual.ensures.1 in
    rw (p.1, p.2) (locates_missed c.find.ensures c.in_err-i.was)

pub returns-then-read_header-kind : goal.returns-then-read_header-kind
returns-then-read_header-kind c = locates_at c.find.ensures c.in_ok-i.was c.read_header.ensures c.if-read_header-kind.true

pub returns-else-read_header-kind : goal.returns-else-read_header-kind
returns-else-read_header-kind c = locates_other c.find.ensures c.in_ok-i.was c.read_header.ensures c.if-read_header-kind.false
