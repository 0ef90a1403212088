use mathlib.Core.Path.{refl, sym, ap}
use mathlib.Core.Bool.{Bool}
use mathlib.Core.List.{[]}
use Rattle.model.specs.Calls as Calls
use Rattle.model.specs.Calls.{effect}
use Rattle.model.specs.Terms.{terms, uncharged}
use Rattle.model.specs.Replies.{truth}
use Rattle.capi.proofs.Laws.{plain, word-told}
use Rattle.capi.proofs.mch_same_words.Goals as goal

pub returns : goal.returns
unfolding terms effect
returns c = λ m. word-told m (Calls.same_words _ _) (truth _) refl (ap (λ (x : Bool). uncharged [] (truth x)) (sym c.same.ensures)) (plain _ c.show.ensures) c.write_answer.ensures
