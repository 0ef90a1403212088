use Rattle.collector_marking.proofs.Adding.{adds_as, adds_both}
use Rattle.collector_marking.proofs.Traced.{key-unknown, key_known}
use Rattle.collector_marking.proofs.Marker.mark_iterator.Goals as goal

pub returns-then-known-ne0 : goal.returns-then-known-ne0
returns-then-known-ne0 c = adds_as (key_known c.args.source _ c.args.known c.args.key c.if-known-ne0.true) (adds_both c.mark_word.ensures c.mark_typed.ensures)

pub returns-else-known-ne0 : goal.returns-else-known-ne0
returns-else-known-ne0 c = adds_as (key-unknown c.args.source _ c.args.known c.args.key c.if-known-ne0.false) c.mark_word.ensures
