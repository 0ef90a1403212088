use Rattle.collector_marking.proofs.Adding.{adds-none, adds_as, adds_both}
use Rattle.collector_marking.proofs.Traced.{entry-dead, entry-live}
use Rattle.collector_marking.proofs.Marker.mark_entry.Goals as goal

pub returns-then-cells-at-eq1 : goal.returns-then-cells-at-eq1
returns-then-cells-at-eq1 c = adds_as (entry-live _ _ _ _ c.if-cells-at-eq1.true) (adds_both c.mark_typed.ensures c.mark_typed-then-cells-at-eq1.ensures)

pub returns-else-cells-at-eq1 : goal.returns-else-cells-at-eq1
returns-else-cells-at-eq1 c = adds_as (entry-dead _ _ _ _ c.if-cells-at-eq1.false) adds-none
