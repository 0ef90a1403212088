use Rattle.std.proofs.Common.{◌+◌, arith, drop, get_or, length-drop}
use Rattle.sheet.proofs.OperandLaws.{named_some, supplied, supplied_same, supplied_size}
use Rattle.sheet.proofs.CommandLaws.{tail_whole, turns_command, turns_missing, used_of}
use Rattle.sheet.proofs.state.Sheet.turn.Goals as goal

pub command_turn-requires-clause-supplied : goal.command_turn-requires-clause-supplied
command_turn-requires-clause-supplied c =
    supplied_same (named_some c.read_at.ensures.named c.in-Some.is) (tail_whole c.args.input.now (c.args.at + 1)) (supplied (get_or c.args.input.now c.args.at 0) _ (drop (c.args.at + 1) c.args.input.now) c.read_at.ensures.operands c.in-Some.is c.operands.ensures)

pub overflow_add-next : goal.overflow_add-next
overflow_add-next c =
    omega (arith, c.requires.at_in_bounds, c.well_formed, supplied_size (get_or c.args.input.now c.args.at 0) _ (drop (c.args.at + 1) c.args.input.now) c.read_at.ensures.operands c.in-Some.is c.operands.ensures, length-drop (c.args.at + 1) c.args.input.now)

pub returns-in-None : goal.returns-in-None
returns-in-None c = turns_missing c.args.at c.requires.at_in_bounds c.read_at.ensures.operands c.in-None.is (used_of _ _) c.put_unknown.ensures

pub returns-in-Some : goal.returns-in-Some
returns-in-Some c =
    turns_command c.args.at c.requires.at_in_bounds c.read_at.ensures.operands _ c.in-Some.is c.operands.ensures (named_some c.read_at.ensures.named c.in-Some.is) (tail_whole c.args.input.now (c.args.at + 1)) c.command_turn.ensures
