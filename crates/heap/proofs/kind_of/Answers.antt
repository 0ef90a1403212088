use mathlib.Core.Path.{◌∙◌, sym}
use Rattle.heap.specs.Answers.{kind_number}
use Rattle.heap.proofs.CallLaws.{kind_character, kind_float, kind-integer, kind-nil, kind-object, kind-truth, row-max}
use Rattle.heap.proofs.kind_of.Goals as goal

pub kind_at-requires : goal.kind_at-requires
kind_at-requires c = row-max c.args.view.now.good c.row_at.ensures

pub returns-in-Nil : goal.returns-in-Nil
unfolding kind_number
returns-in-Nil c = kind-nil c.args.view.now.good ((sym c.in-Nil.is) ∙ c.decode.ensures)

pub returns-in-Bool : goal.returns-in-Bool
unfolding kind_number
returns-in-Bool c = kind-truth c.args.view.now.good ((sym c.in-Bool.is) ∙ c.decode.ensures)

pub returns-in-Int : goal.returns-in-Int
unfolding kind_number
returns-in-Int c = kind-integer c.args.view.now.good ((sym c.in-Int.is) ∙ c.decode.ensures)

pub returns-in-Float : goal.returns-in-Float
unfolding kind_number
returns-in-Float c = kind_float c.args.view.now.good ((sym c.in-Float.is) ∙ c.decode.ensures)

pub returns-in-Char : goal.returns-in-Char
unfolding kind_number
returns-in-Char c = kind_character c.args.view.now.good ((sym c.in-Char.is) ∙ c.decode.ensures)

pub returns-in-Ref : goal.returns-in-Ref
returns-in-Ref c = rw c.kind_at.ensures (kind-object c.args.view.now.good ((sym c.in-Ref.is) ∙ c.decode.ensures) c.row_at.ensures)
