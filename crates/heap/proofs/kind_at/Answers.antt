use Rattle.heap.proofs.KindLaws.{row-none}
use native.Mathlib.Omega.{arith}
use Rattle.heap.specs.Answers.{kind_number}
use Rattle.heap.proofs.kind_at.Goals as goal

pub returns-in-1 : goal.returns-in-1
unfolding kind_number
returns-in-1 c = omega arith

pub returns-in-2 : goal.returns-in-2
unfolding kind_number
returns-in-2 c = omega arith

pub returns-in-3 : goal.returns-in-3
unfolding kind_number
returns-in-3 c = omega arith

pub returns-in-4 : goal.returns-in-4
unfolding kind_number
returns-in-4 c = omega arith

pub returns-in-5 : goal.returns-in-5
unfolding kind_number
returns-in-5 c = omega arith

pub returns-in-6 : goal.returns-in-6
unfolding kind_number
returns-in-6 c = omega arith

pub returns-in-7 : goal.returns-in-7
unfolding kind_number
returns-in-7 c = omega arith

pub returns-in-8 : goal.returns-in-8
unfolding kind_number
returns-in-8 c = omega arith

pub returns-in-9 : goal.returns-in-9
unfolding kind_number
returns-in-9 c = omega arith

pub returns-in-10 : goal.returns-in-10
unfolding kind_number
returns-in-10 c = omega arith

pub returns-in-11 : goal.returns-in-11
unfolding kind_number
returns-in-11 c = omega arith

pub returns-in-15 : goal.returns-in-15
unfolding kind_number
returns-in-15 c = omega arith

pub returns-in_default : goal.returns-in_default
unfolding kind_number
returns-in_default c = row-none c.args.row c.requires c.in_default.in_default-own.rest.0.0.0.0.0.0.0.0.0.0.0.1 c.in_default.in_default-own.rest.0.0.0.0.0.0.0.0.0.0.1 c.in_default.in_default-own.rest.0.0.0.0.0.0.0.0.0.1 c.in_default.in_default-own.rest.0.0.0.0.0.0.0.0.1 c.in_default.in_default-own.rest.0.0.0.0.0.0.0.1 c.in_default.in_default-own.rest.0.0.0.0.0.0.1 c.in_default.in_default-own.rest.0.0.0.0.0.1 c.in_default.in_default-own.rest.0.0.0.0.1 c.in_default.in_default-own.rest.0.0.0.1 c.in_default.in_default-own.rest.0.0.1 c.in_default.in_default-own.rest.0.1 c.in_default.in_default-own.rest.1
