use Rattle.script.specs.Lines.{list_text}
use Rattle.script.proofs.LineLaws.{Listing}
use Rattle.script.proofs.lines.put_list.Given as goal

abbrev pub invariant-loop-place : goal.invariant-loop-place
invariant-loop-place l = Listing list_text l.places l.initial.writer l.writer l.place-index
