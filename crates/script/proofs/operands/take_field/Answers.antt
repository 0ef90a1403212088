use native.Mathlib.Omega.{arith}
use borrow.Author.Tests.{ne_eqb}
use Rattle.commands.specs.Rows.{field_at}
use Rattle.script.specs.Parse.{parse_field}
use Rattle.script.proofs.ParseLaws.{takes_as}
use Rattle.script.proofs.operands.take_field.Goals as goal

pub returns-in-1 : goal.returns-in-1
unfolding field_at parse_field
returns-in-1 c = takes_as c.args.kind (λ p. rw c.in-1.is) (c.take_number.ensures c.args.words.now)

pub returns-in-2 : goal.returns-in-2
unfolding field_at parse_field
returns-in-2 c = takes_as c.args.kind (λ p. rw c.in-2.is) (c.take_number-in-2.ensures c.args.words.now)

pub returns-in-3 : goal.returns-in-3
unfolding field_at parse_field
returns-in-3 c = takes_as c.args.kind (λ p. rw c.in-3.is) (c.take_number-in-3.ensures c.args.words.now)

pub returns-in-4 : goal.returns-in-4
unfolding field_at parse_field
returns-in-4 c = takes_as c.args.kind (λ p. rw c.in-4.is) (c.take_number-in-4.ensures c.args.words.now)

pub returns-in-5 : goal.returns-in-5
unfolding field_at parse_field
returns-in-5 c = takes_as c.args.kind (λ p. rw c.in-5.is) (c.take_number-in-5.ensures c.args.words.now)

pub returns-in-6 : goal.returns-in-6
unfolding field_at parse_field
returns-in-6 c = takes_as c.args.kind (λ p. rw c.in-6.is) (c.take_words.ensures c.args.numbers.now)

pub returns-in-7 : goal.returns-in-7
unfolding field_at parse_field
returns-in-7 c = takes_as c.args.kind (λ p. rw c.in-7.is) (c.take_bytes.ensures c.args.numbers.now c.args.words.now)

pub returns-in_default : goal.returns-in_default
unfolding field_at parse_field
returns-in_default c = takes_as c.args.kind (λ p. rw (ne_eqb c.args.kind 1 (omega arith), ne_eqb c.args.kind 2 (omega arith), ne_eqb c.args.kind 3 (omega arith), ne_eqb c.args.kind 4 (omega arith), ne_eqb c.args.kind 5 (omega arith), ne_eqb c.args.kind 6 (omega arith), ne_eqb c.args.kind 7 (omega arith))) (c.take_frames.ensures c.args.numbers.now)
