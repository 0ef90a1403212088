use mathlib.Core.Path.{refl, sym, ap}
use Prim.Native.Nat.{ℕ}
use Rattle.std.specs.Prelude.{Option}
use mir.Facts.{to_z-of_z}
use mathlib.Core.List.{[]}
use Rattle.model.specs.Calls as Calls
use Rattle.model.specs.Calls.{effect}
use Rattle.model.specs.Terms.{terms, uncharged}
use Rattle.model.specs.Replies.{inline}
use Rattle.capi.proofs.Laws.{word-told}
use Rattle.capi.proofs.mch_integer_word.Goals as goal

pub returns : goal.returns
unfolding terms effect
returns c = λ m. word-told m (Calls.integer_word _) (inline _) refl (ap (λ (x : Option ℕ). uncharged [] (inline x)) (sym (rw (to_z-of_z c.ranges.z) at c.inline_int.ensures))) c.inline.ensures c.write_answer.ensures
