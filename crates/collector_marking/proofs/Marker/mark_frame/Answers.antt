use Rattle.layout.specs.Sections.{layout_of}
use Rattle.collector_marking.proofs.Adding.{adds_as, adds_both}
use Rattle.collector_marking.proofs.Traced.{frame-whole}
use Rattle.collector_marking.proofs.Marker.mark_frame.Goals as goal

pub returns : goal.returns
returns c = adds_as (frame-whole (layout_of c.args.layout.bytes.now) c.args.registers.now c.args.frames.now c.args.j c.section-from.ensures.registers) (adds_both c.mark_word.ensures c.mark_registers.ensures)
