use Rattle.heap.specs.Answers.{seen_by}
use mathlib.Core.Path.{◌∙◌, ap, refl}
use lib.Ieee.{Float}
use Rattle.words.specs.Word.{word_of_float, word_of_int}
use mir.Facts.{to_z-of_z}
use Rattle.commands.specs.Rows.{choose}
use Rattle.commands.specs.Table.{act_in, word_rows}
use Rattle.commands.proofs.RowLaws.{no_row}
use Rattle.commands.proofs.ActLaws.{changed-unknown}
use Rattle.commands.proofs.ReadLaws.{char_read, float_read, integer_read, read_read, reference_read, same_read, truth_read}
use mir.Syntax.{w64}
use Rattle.commands.proofs.readings.word_call.Goals as goal

pub returns-in-96 : goal.returns-in-96
unfolding act_in choose word_rows seen_by
returns-in-96 c = rw c.in-96.is (λ s t. truth_read _ c.from_bool.ensures c.answer.ensures refl s)

pub returns-in-97 : goal.returns-in-97
unfolding act_in choose word_rows seen_by
returns-in-97 c = rw c.in-97.is (λ s t. char_read _ c.from_char.ensures c.answer-in-97.ensures refl s)

pub returns-in-98 : goal.returns-in-98
unfolding act_in choose word_rows seen_by
returns-in-98 c = rw c.in-98.is (λ s t. float_read _ (c.from_f64.ensures ∙ ap (λ (f : Float). word_of_float f) c.f64_from_bits_with_nan.ensures) c.answer-in-98.ensures refl s)

pub returns-in-99 : goal.returns-in-99
unfolding act_in choose word_rows
returns-in-99 c = rw c.in-99.is (λ s t. integer_read _ (c.inline_int.ensures ∙ ap word_of_int (to_z-of_z {w = w64} (record { sfits = c.signed_of.type_inv }) ∙ c.signed_of.ensures)) c.inline.ensures refl s)

pub returns-in-100 : goal.returns-in-100
unfolding act_in choose word_rows seen_by
returns-in-100 c =
    rw c.in-100.is (λ s t. reference_read _ _ c.from_ref.ensures c.answer-in-100.ensures refl s)

pub returns-in-101 : goal.returns-in-101
unfolding act_in choose word_rows seen_by
returns-in-101 c = rw c.in-101.is (λ s t. read_read _ c.decode.ensures c.answer-in-101.ensures refl s)

pub returns-in-102 : goal.returns-in-102
unfolding act_in choose word_rows seen_by
returns-in-102 c = rw c.in-102.is (λ s t. same_read _ _ c.same.ensures c.answer-in-102.ensures refl s)

pub returns-in_default : goal.returns-in_default
unfolding word_rows
returns-in_default c = λ s t g. changed-unknown (no_row word_rows _ _ t c.in_default.in_default-own.rest)
