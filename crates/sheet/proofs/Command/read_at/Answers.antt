use Rattle.std.proofs.Common.{◌+◌, arith, drop, get_or, length, length-drop}
use Rattle.sheet.proofs.OperandLaws.{named_some, present-short, present-unknown, present-whole}
use Rattle.sheet.proofs.Command.read_at.Goals as goal

pub returns-in_err-command-clause-operands : goal.returns-in_err-command-clause-operands
returns-in_err-command-clause-operands c = rw c.from_residual.ensures (present-unknown (length (drop (c.args.at + 1) c.args.input.now)) (get_or c.args.input.now c.args.at 0) c.from_byte.ensures.operands c.in_err-command.was)

pub returns-then-operands-input-clause-named : goal.returns-then-operands-input-clause-named
returns-then-operands-input-clause-named c = named_some c.from_byte.ensures.named c.in_ok-command.was

pub returns-then-operands-input-clause-operands : goal.returns-then-operands-input-clause-operands
returns-then-operands-input-clause-operands c = present-whole (length (drop (c.args.at + 1) c.args.input.now)) (get_or c.args.input.now c.args.at 0) c.from_byte.ensures.operands c.in_ok-command.was c.operands.ensures (omega (arith, c.if-operands-input.true, length-drop (c.args.at + 1) c.args.input.now))

pub returns-else-operands-input-clause-operands : goal.returns-else-operands-input-clause-operands
returns-else-operands-input-clause-operands c = present-short (length (drop (c.args.at + 1) c.args.input.now)) (get_or c.args.input.now c.args.at 0) c.from_byte.ensures.operands c.in_ok-command.was c.operands.ensures (omega (arith, c.if-operands-input.false, length-drop (c.args.at + 1) c.args.input.now))
