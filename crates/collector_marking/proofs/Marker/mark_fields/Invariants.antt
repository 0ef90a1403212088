use Prim.Native.Nat.{◌-◌}
use lib.ListN.{length}
use Rattle.layout.specs.Sections.{fields_from}
use Rattle.model.specs.Content.{words_at}
use Rattle.collector_marking.proofs.Adding.{Going}
use Rattle.collector_marking.proofs.Marker.mark_fields.Given as goal

abbrev pub invariant-loop-number : goal.invariant-loop-number
invariant-loop-number l = Going (words_at (fields_from l.layout.bytes.now l.at) l.fields) l.initial.self (words_at (fields_from l.layout.bytes.now l.from) l.fields) l.self

abbrev pub decreases-loop-number : goal.decreases-loop-number
decreases-loop-number l = length l.layout.bytes.now - l.from
