use mathlib.Core.Path.{refl, sym, ap}
use Prim.Native.Nat.{ℕ}
use mathlib.Core.List.{[]}
use Rattle.model.specs.Calls as Calls
use Rattle.model.specs.Calls.{effect}
use Rattle.model.specs.Terms.{terms, uncharged}
use Rattle.model.specs.Replies.{number}
use Rattle.capi.proofs.Laws.{plain, word-told}
use Rattle.capi.proofs.mch_truth_word.Goals as goal

pub returns : goal.returns
unfolding terms effect
returns c = λ m. word-told m (Calls.truth_word _) (number _) refl (ap (λ (x : ℕ). uncharged [] (number x)) (sym c.from_bool.ensures)) (plain _ c.show.ensures) c.write_answer.ensures
