use Rattle.std.proofs.Common.{◌≡◌, length}
use Rattle.heap_allocation.specs.Frames.{copied}
use Rattle.heap_allocation.proofs.FrameLaws.{Left}
use Rattle.heap_allocation.proofs.copy_frames.Given as goal

-- what is left to copy comes to the whole
abbrev pub invariant-loop-i : goal.invariant-loop-i
invariant-loop-i l = record {
  same : length l.cells ≡ length l.initial.cells;
  rest : Left l.frames l.at l.i l.cells ≡ copied l.frames l.initial.cells l.at;
}
