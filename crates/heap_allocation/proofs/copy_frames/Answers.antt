use Rattle.std.proofs.Common.{◌∙◌, sym}
use Rattle.heap_allocation.proofs.FrameLaws.{turned, finished}
use Rattle.heap_allocation.proofs.copy_frames.Goals as goal

pub loop-i-preserved : goal.loop-i-preserved
loop-i-preserved c = record {
  same = c.put_frame.auto.cells ∙ c.loop-i.invariant.same;
  rest = rw c.put_frame.ensures (turned _ _ _ _ c.loop-i-test.true ∙ c.loop-i.invariant.rest);
}

pub returns : goal.returns
returns c = sym (finished _ _ _ _ c.loop-i-test.false) ∙ c.loop-i.invariant.rest
