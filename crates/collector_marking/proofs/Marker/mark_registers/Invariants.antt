use Prim.Native.Nat.{◌+◌, ◌-◌}
use mathlib.Core.List.{map}
use lib.ListN.{length}
use Rattle.layout.specs.Sections.{registers_from}
use Rattle.model.specs.Content.{words_at}
use Rattle.collector_marking.proofs.Adding.{Going}
use Rattle.collector_marking.proofs.Marker.mark_registers.Given as goal

abbrev pub invariant-loop-number : goal.invariant-loop-number
invariant-loop-number l = Going (words_at (map (λ n. l.base + n) (registers_from l.layout.bytes.now l.at)) l.registers) l.initial.self (words_at (map (λ n. l.base + n) (registers_from l.layout.bytes.now l.from)) l.registers) l.self

abbrev pub decreases-loop-number : goal.decreases-loop-number
decreases-loop-number l = length l.layout.bytes.now - l.from
