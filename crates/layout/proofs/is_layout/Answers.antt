use Rattle.std.proofs.Common.{arith, ◌≡◌, ◌∙◌, sym, Some, rules, ap}
use Rattle.layout.specs.declared.Section.TheVariants as Kind
use Rattle.layout.specs.declared.Command.TheVariants.{Begins}
use Rattle.layout.proofs.Checking.{begun, begun_same, checking_start, checking_unread, checking_end, checking_struct, checking_structs, checking_function, checking_functions, checking_listed, checking_foreign, checking_untaken}
use Rattle.layout.proofs.is_layout.Goals as goal

pub loop-command-init : goal.loop-command-init
loop-command-init c = checking_start c.args.bytes.now

pub returns : goal.returns
returns c = checking_unread c.loop-command.invariant c.in_default.ensures

pub returns-in-End : goal.returns-in-End
returns-in-End c =
    let e = checking_end c.loop-command.invariant c.in-Some.after.now (rw c.in-End.is at c.in-Some.ensures) in
    search rules

pub loop-command-preserved-in-Begins-Struct : goal.loop-command-preserved-in-Begins-Struct
loop-command-preserved-in-Begins-Struct c =
    let e : c.in-Some.command ≡ Begins Kind.Struct = search rules in
    checking_struct c.loop-command.invariant c.in-Some.after.now (rw e at c.in-Some.ensures) (omega arith)

pub returns-in_default-command : goal.returns-in_default-command
returns-in_default-command c =
    let e : c.in-Some.command ≡ Begins Kind.Struct = search rules in
    checking_structs c.loop-command.invariant c.in-Some.after.now (rw e at c.in-Some.ensures) (omega arith)

pub loop-command-preserved-in-Begins-Function : goal.loop-command-preserved-in-Begins-Function
loop-command-preserved-in-Begins-Function c =
    let e : c.in-Some.command ≡ Begins Kind.Function = search rules in
    checking_function c.loop-command.invariant c.in-Some.after.now (rw e at c.in-Some.ensures) (omega arith)

pub returns-in_default-command-2 : goal.returns-in_default-command-2
returns-in_default-command-2 c =
    let e : c.in-Some.command ≡ Begins Kind.Function = search rules in
    checking_functions c.loop-command.invariant c.in-Some.after.now (rw e at c.in-Some.ensures) (omega arith)

pub loop-command-preserved : goal.loop-command-preserved
loop-command-preserved c =
    let u : c.loop-command.under ≡ Some c.section.result = search rules in
    checking_listed c.loop-command.invariant c.in-Some.after.now c.in-Lists.entry c.in-Lists.number (rw c.in-Lists.is at c.in-Some.ensures) (ap begun u ∙ rw c.section.ensures) (sym c.takes.ensures ∙ c.if-takes.true)

pub returns-in_default-command-3 : goal.returns-in_default-command-3
returns-in_default-command-3 c =
    checking_untaken c.loop-command.invariant c.in-Some.after.now c.in-Lists.entry c.in-Lists.number (rw c.in-Lists.is at c.in-Some.ensures) (sym c.takes.ensures ∙ c.if-takes.false)

pub returns-in_default-command-4 : goal.returns-in_default-command-4
returns-in_default-command-4 c =
    checking_foreign c.loop-command.invariant c.in-Some.after.now c.in-Lists.entry c.in-Lists.number (rw c.in-Lists.is at c.in-Some.ensures)
    (λ e. let u : c.loop-command.under ≡ Some c.section.result = begun_same _ _ e ∙ rw c.section.ensures in search rules)
