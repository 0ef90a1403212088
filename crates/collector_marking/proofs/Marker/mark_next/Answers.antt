use Rattle.collector_marking.proofs.Adding.{adds_as}
use Rattle.collector_marking.proofs.Objects.{kids_box}
use Rattle.collector_marking.proofs.Marker.mark_next.Goals as goal

pub returns-then-h-eq-BOX : goal.returns-then-h-eq-BOX
returns-then-h-eq-BOX c = adds_as (kids_box _ _ _ _ _ c.read_header-h.ensures c.if-h-eq-BOX.true) c.mark_word.ensures
