use native.Mathlib.Omega.{arith}
use Rattle.layout.specs.Sections.{layout_of}
use Rattle.commands.specs.Promise.{lists}
use Rattle.commands.proofs.ShapeLaws.{group_is}
use Rattle.commands.proofs.ListLaws.{change-command, lent-command, list-command, read_command}
use Rattle.commands.proofs.perform.Goals as goal

pub returns-in-0-to-9-clause-commanded_by : goal.returns-in-0-to-9-clause-commanded_by
returns-in-0-to-9-clause-commanded_by c = (read_command _ _ _ (group_is _ c.shape_of.ensures) c.requires (omega arith) (c.read_group.ensures _)).0

pub returns-in-10-to-13-clause-commanded_by : goal.returns-in-10-to-13-clause-commanded_by
returns-in-10-to-13-clause-commanded_by c = (change-command _ _ _ (group_is _ c.shape_of.ensures) c.requires (omega arith) (omega arith) (c.change_group.ensures _)).0

pub returns-in-10-to-13-clause-ready : goal.returns-in-10-to-13-clause-ready
returns-in-10-to-13-clause-ready c = (change-command {l = layout_of c.args.layout.now} _ _ (lists c.args.words.now c.args.frames.now c.args.bytes.now c.args.places.now) (group_is _ c.shape_of.ensures) c.requires (omega arith) (omega arith) (c.change_group.ensures _)).1.0

pub returns-in-14-clause-commanded_by : goal.returns-in-14-clause-commanded_by
returns-in-14-clause-commanded_by c = (list-command _ _ _ (group_is _ c.shape_of.ensures) c.requires c.in-14.is (c.new_with_list.ensures _)).0

pub returns-in-14-clause-ready : goal.returns-in-14-clause-ready
returns-in-14-clause-ready c = (list-command {l = layout_of c.args.layout.now} _ _ (lists c.args.words.now c.args.frames.now c.args.bytes.now c.args.places.now) (group_is _ c.shape_of.ensures) c.requires c.in-14.is (c.new_with_list.ensures _)).1.0

pub returns-in_default-clause-commanded_by : goal.returns-in_default-clause-commanded_by
returns-in_default-clause-commanded_by c = (lent-command _ _ _ (group_is _ c.shape_of.ensures) (omega arith) c.requires (c.lent_call.ensures.by_index _, (c.lent_call.ensures.marks_unchanged, c.lent_call.ensures.order_unchanged))).0

pub returns-in_default-clause-ready : goal.returns-in_default-clause-ready
returns-in_default-clause-ready c = (lent-command {l = layout_of c.args.layout.now} _ _ (lists c.args.words.now c.args.frames.now c.args.bytes.now c.args.places.now) (group_is _ c.shape_of.ensures) (omega arith) c.requires (c.lent_call.ensures.by_index _, (c.lent_call.ensures.marks_unchanged, c.lent_call.ensures.order_unchanged))).1.0
