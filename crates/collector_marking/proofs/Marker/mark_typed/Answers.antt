use Rattle.collector_marking.proofs.Adding.{adds-none, adds_as}
use Rattle.collector_marking.proofs.Traced.{typed_word, typed_none}
use Rattle.collector_marking.proofs.Marker.mark_typed.Goals as goal

pub returns-then-ty-ge1 : goal.returns-then-ty-ge1
returns-then-ty-ge1 c = adds_as (typed_word _ _ c.if-ty-ge1.true) c.mark_word.ensures

pub returns-else-ty-ge1 : goal.returns-else-ty-ge1
returns-else-ty-ge1 c = adds_as (typed_none _ _ c.if-ty-ge1.false) adds-none
