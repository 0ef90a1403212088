use Rattle.script.specs.Lines.{hex_text}
use Rattle.script.proofs.LineLaws.{Listing}
use Rattle.script.proofs.lines.put_bytes.Given as goal

abbrev pub invariant-loop-byte : goal.invariant-loop-byte
invariant-loop-byte l = Listing hex_text l.bytes l.initial.writer l.writer l.byte-index
