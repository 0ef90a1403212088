use mathlib.Core.Path.{ap}
use borrow.Author.Rules.{rules}
use native.Mathlib.Omega.{arith}
use Rattle.script.proofs.ParseLaws.{parsing_start, parsing_unknown, parsing_few, parsing_step, parsing_missing, parsing_end}
use Rattle.script.proofs.operands.take_fields.Goals as goal

pub returns-then-rest-eq15-clause-parses : goal.returns-then-rest-eq15-clause-parses
returns-then-rest-eq15-clause-parses c = parsing_unknown c.args.command c.args.input.now c.args.at c.args.numbers.now c.args.words.now (omega arith) (omega arith) c.requires.by_index _ (ap (λ s. s.fields) c.shape_of-rest.ensures) c.if-rest-eq15.true

pub loop-rest-init : goal.loop-rest-init
loop-rest-init c = (parsing_start c.args.command c.args.input.now c.args.at c.args.numbers.now c.args.words.now (omega arith) (omega arith) c.requires.by_index _ (ap (λ s. s.fields) c.shape_of-rest.ensures) c.if-rest-eq15.false, (search rules, search rules))

pub take_field-requires : goal.take_field-requires
take_field-requires c = record { room = c.loop-rest.invariant.0.room; count_in_bounds = omega (arith, parsing_few c.loop-rest.invariant.0 c.loop-rest-test.true) }

pub returns-in_err-t : goal.returns-in_err-t
returns-in_err-t c = rw c.from_residual.ensures record { room = tt; parses = parsing_missing c.loop-rest.invariant.0 c.loop-rest-test.true c.take_field.ensures c.in_err-t.was }

pub loop-rest-preserved : goal.loop-rest-preserved
loop-rest-preserved c = (parsing_step c.loop-rest.invariant.0 c.loop-rest-test.true c.take_field.ensures _ c.in_ok-t.was, (search rules, search rules))

pub returns : goal.returns
returns c = record { room = (c.loop-rest.invariant.0.room, c.loop-rest.invariant.0.onward); parses = parsing_end c.loop-rest.invariant.0 (omega arith) }
