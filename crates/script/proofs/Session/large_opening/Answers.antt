use mathlib.Core.Path.{refl}
use Rattle.text.proofs.WritesLaws.{writes-lent}
use Rattle.script.proofs.OpeningLaws.{large-ends, large-refused}
use Rattle.script.proofs.Session.large_opening.Goals as goal

pub returns-then-can_open : goal.returns-then-can_open
returns-then-can_open c = large-ends c.can_open.ensures c.if-can_open.true c.ended.ensures

pub returns-else-can_open : goal.returns-else-can_open
returns-else-can_open c = large-refused c.can_open.ensures c.if-can_open.false refl (writes-lent c.put_line.ensures c.out-else-can_open-1.given.1.1) refl
