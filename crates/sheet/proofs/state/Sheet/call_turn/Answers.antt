use Rattle.sheet.specs.Turns.{code_of}
use Rattle.sheet.proofs.CommandLaws.{commands_call}
use Rattle.sheet.proofs.state.Sheet.call_turn.Goals as goal

pub returns : goal.returns
returns c = commands_call (code_of c.args.command) c.requires.no_root c.call.ensures c.show-line.ensures (rw c.from.ensures at c.put_line.ensures)
