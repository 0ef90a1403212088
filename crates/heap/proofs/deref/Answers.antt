use borrow.Author.Tests.{not-false, not-true}
use Rattle.heap.proofs.CallLaws.{deref-at, deref_plain, deref-refused}
use Rattle.heap.proofs.ReachLaws.{located_fits}
use Rattle.heap.proofs.deref.Goals as goal

pub returns-then-not-is_box : goal.returns-then-not-is_box
returns-then-not-is_box c = deref_plain c.args.view.now.good c.is_box.ensures (not-true _ c.if-not-is_box.true-raw)

pub read_header-requires : goal.read_header-requires
read_header-requires c = located_fits c.args.view.now.good c.locate.ensures c.in-Ok.is

pub returns-in-Err : goal.returns-in-Err
returns-in-Err c = deref-refused c.args.view.now.good c.is_box.ensures (not-false _ c.if-not-is_box.false-raw) c.locate.ensures c.in-Err.is

pub returns-in-Ok : goal.returns-in-Ok
returns-in-Ok c = deref-at c.args.view.now.good c.is_box.ensures (not-false _ c.if-not-is_box.false-raw) c.locate.ensures c.in-Ok.is c.read_header.ensures
