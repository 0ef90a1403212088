-- The row of a reading of one object: the refusals, the answer. Assumes nothing.
use Rattle.std.proofs.Common.{Result, Err}
use Prim.Native.Nat.{ℕ}
use mathlib.Core.Path.{◌≡◌}
use mathlib.Core.Bool.{Bool}
use mathlib.Core.List.{[], ◌∷◌}
use Rattle.layout.specs.Layout.{Layout}
use Rattle.model.specs.Content.{Content}
use Rattle.model.specs.Calls.{Call, effect, same}
use Rattle.model.specs.Replies.{Reply}
use Rattle.model.specs.Model.{view_of}
use Rattle.model.specs.Refusals.{target}
use Rattle.model.specs.Terms.{terms, uncharged}
use Rattle.heap.specs.declared.Refusal.{Refusal}
use Rattle.heap.specs.Answers.{answered, refused}
use Rattle.heap.specs.Locating.{Locates}
use Rattle.heap.specs.State.{State, model_of}
use Rattle.heap.specs.Good.{Good}
use Rattle.heap.specs.Promise.{Reads}
use Rattle.heap.proofs.KindLaws.{Says}
use Rattle.heap.proofs.ReachLaws.{Target}
use Rattle.heap.proofs.ReadLaws.{object-answered, object-refused}

-- refused by 1, 11 or 2 alone, without charge and lent memory
pub record Row (t : State) (k : Call) (is : Content → Bool) (w : ℕ) : Type 0 where
  pub effect_is : (l : Layout) → effect (view_of (model_of l t)) k ≡ same
  pub terms_are : (l : Layout) → terms (model_of l t) k ≡ uncharged (target (view_of (model_of l t)) is w ∷ []) (terms (model_of l t) k).answer

module _ {t : State} {k : Call} {is : Content → Bool} {w kind : ℕ} (g : Good t) (row : Row t k is w) (s : Says is kind) where
  pub row-refused : {r : Result ℕ Refusal} {q : Refusal} → Locates t.slots t.heap.fresh w kind r → r ≡ Err q → Reads k t (refused q)
  unfolding uncharged
  row-refused d e l = object-refused l g k {rest = []} d e s (rw (row.terms_are l)) (rw (row.terms_are l))

  pub row-answered : {i : ℕ} {a : Reply} → Target t w i kind → ((l : Layout) → (terms (model_of l t) k).answer ≡ a) → Reads k t (answered a)
  unfolding uncharged
  row-answered o a l = object-answered l g k o s (rw (row.terms_are l)) (row.effect_is l) (rw (row.terms_are l)) (rw (row.terms_are l)) (a l)
