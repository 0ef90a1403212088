use Rattle.sheet.proofs.OperandLaws.{needs_root, no_root}
use Rattle.sheet.proofs.state.Sheet.command_turn.Goals as goal

pub root_turn-requires-clause-in_bounds : goal.root_turn-requires-clause-in_bounds
root_turn-requires-clause-in_bounds c = needs_root c.args.command c.args.operands.now c.in-Root.is c.requires.supplied

pub call_turn-requires-clause-no_root : goal.call_turn-requires-clause-no_root
call_turn-requires-clause-no_root c = no_root c.args.command c.in_default.not-Root
