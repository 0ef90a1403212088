use mathlib.Core.Path.{refl}
use Rattle.history.proofs.Facts.{eqb_no}
use Rattle.commands.specs.Rows.{choose}
use Rattle.commands.specs.Table.{act_in, read_rows}
use Rattle.commands.proofs.ActLaws.{changed-unknown}
use Rattle.commands.proofs.readings.read_group.Goals as goal

pub returns-in-2 : goal.returns-in-2
unfolding read_rows
returns-in-2 c =
    rw c.in-2.is (λ t. c.word_call.ensures _ t c.args.view.now.good)

pub returns-in-3 : goal.returns-in-3
unfolding read_rows
returns-in-3 c = rw c.in-3.is c.plain_read.ensures

pub returns-in-4 : goal.returns-in-4
unfolding read_rows
returns-in-4 c = rw c.in-4.is c.list_read.ensures

pub returns-in-5 : goal.returns-in-5
unfolding read_rows
returns-in-5 c = rw c.in-5.is c.coroutine_read.ensures

pub returns-in-6 : goal.returns-in-6
unfolding read_rows
returns-in-6 c = rw c.in-6.is c.map_read.ensures

pub returns-in-7 : goal.returns-in-7
unfolding read_rows
returns-in-7 c = rw c.in-7.is c.map_number.ensures

pub returns-in-8 : goal.returns-in-8
unfolding read_rows
returns-in-8 c = rw c.in-8.is c.iterator_read.ensures

pub returns-in-9 : goal.returns-in-9
unfolding read_rows
returns-in-9 c = rw c.in-9.is c.heap_read.ensures

pub returns-in_default : goal.returns-in_default
unfolding read_rows act_in choose
returns-in_default c = rw (eqb_no _ 2 c.in_default.in_default-own.rest.0.0.0.0.0.0.0.1, eqb_no _ 3 c.in_default.in_default-own.rest.0.0.0.0.0.0.1, eqb_no _ 4 c.in_default.in_default-own.rest.0.0.0.0.0.1, eqb_no _ 5 c.in_default.in_default-own.rest.0.0.0.0.1, eqb_no _ 6 c.in_default.in_default-own.rest.0.0.0.1, eqb_no _ 7 c.in_default.in_default-own.rest.0.0.1, eqb_no _ 8 c.in_default.in_default-own.rest.0.1, eqb_no _ 9 c.in_default.in_default-own.rest.1) (λ t. changed-unknown refl)
