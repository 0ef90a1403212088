use mathlib.Core.Path.{refl, sym, ap}
use Rattle.words.specs.declared.Raw.{Raw}
use mathlib.Core.List.{[]}
use Rattle.model.specs.Calls as Calls
use Rattle.model.specs.Calls.{effect}
use Rattle.model.specs.Terms.{terms, uncharged}
use Rattle.model.specs.Replies.{raw}
use Rattle.capi.proofs.Laws.{plain, word-told}
use Rattle.capi.proofs.mch_read_word.Goals as goal

pub returns : goal.returns
unfolding terms effect
returns c = λ m. word-told m (Calls.read_word _) (raw _) refl (ap (λ (x : Raw). uncharged [] (raw x)) (sym c.decode.ensures)) (plain _ c.show.ensures) c.write_answer.ensures
