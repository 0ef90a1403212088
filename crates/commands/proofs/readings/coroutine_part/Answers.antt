use mathlib.Core.Path.{refl}
use Rattle.history.proofs.Facts.{eqb_no}
use Rattle.commands.specs.Table.{coroutine_part}
use Rattle.commands.proofs.ActLaws.{read_known}
use Rattle.commands.proofs.ActLaws.{changed-unknown}
use Rattle.commands.proofs.readings.coroutine_part.Goals as goal

pub returns-in-0 : goal.returns-in-0
unfolding coroutine_part
returns-in-0 c = rw c.in-0.is (read_known c.read_payload.ensures c.answer.ensures refl)

pub returns-in-1 : goal.returns-in-1
unfolding coroutine_part
returns-in-1 c = rw c.in-1.is (read_known c.read_key.ensures c.answer-in-1.ensures refl)

pub returns-in-2 : goal.returns-in-2
unfolding coroutine_part
returns-in-2 c = rw c.in-2.is (read_known c.read_result.ensures c.answer-in-2.ensures refl)

pub returns-in-3 : goal.returns-in-3
unfolding coroutine_part
returns-in-3 c = rw c.in-3.is (read_known c.read_signal.ensures c.answer-in-3.ensures refl)

pub returns-in-4 : goal.returns-in-4
unfolding coroutine_part
returns-in-4 c = rw c.in-4.is (read_known c.coroutine_sequence.ensures c.answer-in-4.ensures refl)

pub returns-in-5 : goal.returns-in-5
unfolding coroutine_part
returns-in-5 c = rw c.in-5.is (read_known c.coroutine_finalized.ensures c.answer-in-5.ensures refl)

pub returns-in-6 : goal.returns-in-6
unfolding coroutine_part
returns-in-6 c = rw c.in-6.is (read_known c.register_count.ensures c.answer-in-6.ensures refl)

pub returns-in-7 : goal.returns-in-7
unfolding coroutine_part
returns-in-7 c = rw c.in-7.is (read_known c.frame_count.ensures c.answer-in-7.ensures refl)

pub returns-in_default : goal.returns-in_default
unfolding coroutine_part
returns-in_default c = changed-unknown (rw (eqb_no _ 0 c.in_default.in_default-own.rest.0.0.0.0.0.0.0.1, eqb_no _ 1 c.in_default.in_default-own.rest.0.0.0.0.0.0.1, eqb_no _ 2 c.in_default.in_default-own.rest.0.0.0.0.0.1, eqb_no _ 3 c.in_default.in_default-own.rest.0.0.0.0.1, eqb_no _ 4 c.in_default.in_default-own.rest.0.0.0.1, eqb_no _ 5 c.in_default.in_default-own.rest.0.0.1, eqb_no _ 6 c.in_default.in_default-own.rest.0.1, eqb_no _ 7 c.in_default.in_default-own.rest.1))
