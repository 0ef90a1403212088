use Prim.Native.Nat.{◌-◌}
use Rattle.layout.specs.Sections.{layout_of}
use Rattle.model.specs.Content.{frame_words}
use Rattle.heap.specs.Kinds.{frames_in}
use Rattle.collector_marking.proofs.Adding.{Going}
use Rattle.collector_marking.proofs.Marker.mark_frames.Given as goal

abbrev pub invariant-loop-j : goal.invariant-loop-j
invariant-loop-j l = Going (frame_words (layout_of l.layout.bytes.now) l.registers (frames_in l.frames 0 l.count)) l.initial.self (frame_words (layout_of l.layout.bytes.now) l.registers (frames_in l.frames l.j (l.count - l.j))) l.self
