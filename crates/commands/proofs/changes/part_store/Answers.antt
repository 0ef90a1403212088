use mathlib.Core.Path.{refl}
use Rattle.history.proofs.Facts.{eqb_no}
use Rattle.commands.specs.Table.{part_store}
use Rattle.commands.proofs.ActLaws.{changed_known}
use Rattle.commands.proofs.ActLaws.{changed-unknown}
use Rattle.commands.proofs.changes.part_store.Goals as goal

pub returns-in-0 : goal.returns-in-0
unfolding part_store
returns-in-0 c =
    rw c.in-0.is (changed_known c.store_payload.ensures c.answer.ensures refl)

pub returns-in-1 : goal.returns-in-1
unfolding part_store
returns-in-1 c =
    rw c.in-1.is (changed_known c.store_key.ensures c.answer-in-1.ensures refl)

pub returns-in-2 : goal.returns-in-2
unfolding part_store
returns-in-2 c =
    rw c.in-2.is (changed_known c.store_result.ensures c.answer-in-2.ensures refl)

pub returns-in-3 : goal.returns-in-3
unfolding part_store
returns-in-3 c =
    rw c.in-3.is (changed_known c.store_signal.ensures c.answer-in-3.ensures refl)

pub returns-in_default : goal.returns-in_default
unfolding part_store
returns-in_default c = changed-unknown (rw (eqb_no _ 0 c.in_default.in_default-own.rest.0.0.0.1, eqb_no _ 1 c.in_default.in_default-own.rest.0.0.1, eqb_no _ 2 c.in_default.in_default-own.rest.0.1, eqb_no _ 3 c.in_default.in_default-own.rest.1))
