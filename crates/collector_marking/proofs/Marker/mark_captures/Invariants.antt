use lib.ListN.{drop}
use Rattle.layout.specs.Sections.{captures_from}
use Rattle.model.specs.Content.{traced_by_type}
use Rattle.collector_marking.proofs.Adding.{Going}
use Rattle.collector_marking.proofs.Marker.mark_captures.Given as goal

abbrev pub invariant-loop-capture : goal.invariant-loop-capture
invariant-loop-capture l = Going (traced_by_type (captures_from l.layout.bytes.now l.at) l.captures) l.initial.self (traced_by_type (captures_from l.layout.bytes.now l.from) (drop l.capture-index l.captures)) l.self
