use Rattle.std.proofs.Common.{◌≡◌, rules}
use Rattle.layout.specs.declared.Command.TheVariants.{Begins}
use Rattle.layout.proofs.Writing.{writing_start, writing_end, writing_count, writing_other, writing_room, writing_begun}
use Rattle.layout.proofs.write_starts.Goals as goal

pub loop-command-init : goal.loop-command-init
loop-command-init c = writing_start c.args.bytes.now c.args.table.now c.args.kind c.base-base.result c.requires.layout

pub bounds-table-base : goal.bounds-table-base
bounds-table-base c =
    let e : c.in-Some.command ≡ Begins c.args.kind = search rules in
    writing_room c.loop-command.invariant c.in-Some.after.now (rw e at c.in-Some.ensures) (rw c.base-base.ensures c.requires.room)

pub loop-command-preserved-then-eq : goal.loop-command-preserved-then-eq
loop-command-preserved-then-eq c =
    let e : c.in-Some.command ≡ Begins c.args.kind = search rules in
    writing_begun c.loop-command.invariant c.in-Some.after.now (rw e at c.in-Some.ensures)

pub loop-command-preserved : goal.loop-command-preserved
loop-command-preserved c = writing_other c.loop-command.invariant c.in-Some.command c.in-Some.after.now c.in-Some.ensures (λ e. search rules)

pub returns-clause-value : goal.returns-clause-value
returns-clause-value c = writing_count c.loop-command.invariant c.in_default.ensures

pub returns-clause-table_after : goal.returns-clause-table_after
returns-clause-table_after c = rw (← c.base-base.ensures) (writing_end c.loop-command.invariant c.in_default.ensures)
