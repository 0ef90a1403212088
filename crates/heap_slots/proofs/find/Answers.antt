use borrow.Author.Tests.{lt-ltb, le-ltb, eq-eqb, ne_eqb}
use Rattle.heap_slots.specs.Lookup.{hit_first}
use Rattle.heap_slots.proofs.LookupLaws.{finds_so}
use Rattle.heap_slots.proofs.find.Goals as goal
use Rattle.heap_slots.proofs.find.Goals.{else-i-fresh-via-then-i-fresh+then-slots-p+else-slots-p-ne-NONE, else-i-fresh-via-then-i-fresh+else-slots-p, else-i-fresh-via-else-i-fresh}

pub returns-then-slots-p-ne-NONE : goal.returns-then-slots-p-ne-NONE
unfolding hit_first
returns-then-slots-p-ne-NONE c = finds_so (simp (lt-ltb _ _ c.if-i-fresh.true, eq-eqb _ _ c.if-slots-p.true, ne_eqb _ _ c.if-slots-p-ne-NONE.true))

pub returns-else-i-fresh : goal.returns-else-i-fresh
unfolding hit_first
returns-else-i-fresh c =
    finds_so
    (elim c.else-i-fresh.branch [
      | else-i-fresh-via-then-i-fresh+then-slots-p+else-slots-p-ne-NONE w ↦ simp (lt-ltb _ _ w.if-i-fresh.true, eq-eqb _ _ w.if-slots-p.true, eq-eqb _ _ w.if-slots-p-ne-NONE.false, c.missed.ensures)
      | else-i-fresh-via-then-i-fresh+else-slots-p w ↦ simp (lt-ltb _ _ w.if-i-fresh.true, ne_eqb _ _ w.if-slots-p.false, c.missed.ensures)
      | else-i-fresh-via-else-i-fresh w ↦ simp (le-ltb _ _ w.if-i-fresh.false, c.missed.ensures)
    ])
