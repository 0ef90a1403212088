use mathlib.Core.Path.{sym, ap}
use mathlib.Core.List.{List, ◌++◌}
use Prim.Native.Nat.{ℕ}
use lib.ListN.{take}
use Rattle.layout.specs.Sections.{layout_of}
use Rattle.model.specs.Content.{frame_words}
use Rattle.heap.specs.Kinds.{frames_in}
use Rattle.collector_marking.proofs.Adding.{adds_as, adds_both}
use Rattle.collector_marking.proofs.Traced.{part-rest}
use Rattle.collector_marking.proofs.Marker.mark_coroutine.Goals as goal

pub returns : goal.returns
returns c = adds_as (ap (λ (fs : List ℕ). c.args.waiting ++ frame_words (layout_of c.args.layout.bytes.now) (take c.args.len c.args.cells.now) (frames_in fs 0 c.args.count)) (sym (part-rest c.args.len c.args.cells.now))) (adds_both c.mark_words.ensures c.mark_frames.ensures)
