use Rattle.sheet.proofs.OperandLaws.{needs_array, needs_box, needs_read}
use Rattle.sheet.proofs.CommandLaws.{call-array, call-box, call-collect, call_read}
use Rattle.sheet.proofs.ShownLaws.{shows_same}
use Rattle.sheet.proofs.state.Sheet.call.Goals as goal

pub call_box-requires : goal.call_box-requires
call_box-requires c = needs_box c.args.command c.args.operands.now c.in-NewBox.is c.requires

pub call_array-requires : goal.call_array-requires
call_array-requires c = needs_array c.args.command c.args.operands.now c.in-NewArray.is c.requires

pub call_read-requires : goal.call_read-requires
call_read-requires c = needs_read c.args.command c.args.operands.now c.in-ReadBox.is c.requires

pub returns-in-NewBox : goal.returns-in-NewBox
returns-in-NewBox c = shows_same (call-box c.args.command _ _ c.in-NewBox.is) c.call_box.ensures

pub returns-in-NewArray : goal.returns-in-NewArray
returns-in-NewArray c = shows_same (call-array c.args.command _ _ c.in-NewArray.is) c.call_array.ensures

pub returns-in-ReadBox : goal.returns-in-ReadBox
returns-in-ReadBox c = shows_same (call_read c.args.command _ _ c.in-ReadBox.is) c.call_read.ensures

pub returns-in-Root : goal.returns-in-Root
returns-in-Root c = shows_same (call-collect c.args.command c.args.operands.now _ c.in-Root.is) c.call_collect.ensures
