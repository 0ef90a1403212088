use Rattle.heap.proofs.LocateLaws.{found-fits, ranks_at, ranks_dead, ranks_nil, ranks_wrong}
use Rattle.heap.proofs.lookup.row_at.Goals as goal

pub read_header-requires : goal.read_header-requires
read_header-requires c = found-fits c.find.ensures c.in-Ok.is c.requires.0 c.requires.1

pub returns-in-Ok : goal.returns-in-Ok
returns-in-Ok c = ranks_at c.find.ensures c.in-Ok.is c.read_header.ensures

pub returns-in-Err-Dead : goal.returns-in-Err-Dead
returns-in-Err-Dead c = ranks_dead c.find.ensures (cc)

pub returns-in-Err-Nil : goal.returns-in-Err-Nil
returns-in-Err-Nil c = ranks_nil c.find.ensures (cc)

pub returns-in-Err-Wrong : goal.returns-in-Err-Wrong
returns-in-Err-Wrong c = ranks_wrong c.find.ensures (cc)
