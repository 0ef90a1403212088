use mathlib.Core.Path.{refl, sym}
use lib.Seq.{length-take-le}
use Rattle.text.proofs.WritesLaws.{writes-lent}
use Rattle.script.proofs.OpeningLaws.{seat-cells, turned-large, turned-opened, turned-refused}
use Rattle.script.proofs.Session.open_turn.Goals as goal

pub returns-then-not-is_seatable-clause-goes : goal.returns-then-not-is_seatable-clause-goes
returns-then-not-is_seatable-clause-goes c =
    turned-large c.args.k.operands _ c.args.k.next c.requires.session_ready c.requires.placed.onward c.requires.placed.within c.is_seatable.ensures c.if-not-is_seatable.true c.large_opening.ensures

pub slice_bounds-open-end-5 : goal.slice_bounds-open-end-5
slice_bounds-open-end-5 c = sym (length-take-le _ _ (seat-cells c.args.k.operands c.is_seatable.ensures c.if-not-is_seatable.false c.requires.session_ready))

pub returns-in_default-clause-goes : goal.returns-in_default-clause-goes
returns-in_default-clause-goes c =
    let cells = seat-cells c.args.k.operands c.is_seatable.ensures c.if-not-is_seatable.false c.requires.session_ready in
    let opens = rw (length-take-le c.args.k.operands.b c.args.lent.now.cells.now cells, c.weights_in.ensures) at c.open-opened.ensures in
    turned-refused c.args.k.operands c.args.k.from c.args.k.to c.args.k.next _ c.requires.session_ready c.is_seatable.ensures c.if-not-is_seatable.false opens c.requires.placed.onward c.requires.placed.within c.in_default.is refl (writes-lent c.put_line.ensures c.lent-1.given.1) refl

pub returns-clause-goes : goal.returns-clause-goes
returns-clause-goes c =
    let cells = seat-cells c.args.k.operands c.is_seatable.ensures c.if-not-is_seatable.false c.requires.session_ready in
    let opens = rw (length-take-le c.args.k.operands.b c.args.lent.now.cells.now cells, c.weights_in.ensures) at c.open-opened.ensures in
    turned-opened c.args.k.operands c.args.k.from c.args.k.to c.args.k.next _ c.requires.session_ready c.is_seatable.ensures c.if-not-is_seatable.false opens c.requires.placed.onward c.requires.placed.within _ c.in-Ok.is c.requires.placed.bytes c.requires.placed.inside c.open-opened.auto.table c.open-opened.auto.marks c.open-opened.auto.order (writes-lent c.put_line-2.ensures c.lent-2-1.given.1)

pub returns-in_default-clause-kept : goal.returns-in_default-clause-kept
returns-in_default-clause-kept c = let line = writes-lent c.put_line.ensures c.lent-1.given.1 in record { slots = refl; scalars = refl; list = refl; directory = refl; cells = refl; marks = c.open-opened.auto.marks; order = c.open-opened.auto.order; table = c.open-opened.auto.table; roots = refl; words = refl; bytes = refl; places = refl; out = line.size }

pub returns-clause-kept : goal.returns-clause-kept
returns-clause-kept c = let line = writes-lent c.put_line-2.ensures c.lent-2-1.given.1 in record { slots = refl; scalars = refl; list = refl; directory = refl; cells = refl; marks = c.open-opened.auto.marks; order = c.open-opened.auto.order; table = c.open-opened.auto.table; roots = refl; words = refl; bytes = refl; places = refl; out = line.size }
