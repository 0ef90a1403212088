use Rattle.std.proofs.Common.{◌-◌, length}
use Rattle.sheet.specs.Turns.{text_from}
use Rattle.sheet.specs.Promise.{sheet_of}
use Rattle.sheet.proofs.PlayLaws.{Playing}
use Rattle.sheet.proofs.state.Sheet.play.Given as goal

abbrev pub invariant-loop-at : goal.invariant-loop-at
invariant-loop-at l = Playing (text_from (sheet_of l.initial.self) l.input) l.input l.initial.writer (sheet_of l.self) l.at l.writer

abbrev pub decreases-loop-at : goal.decreases-loop-at
decreases-loop-at l = length l.input - l.at
