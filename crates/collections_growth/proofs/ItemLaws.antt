-- Items seen through a box. Assumes nothing.
use Prim.Native.Nat.{ℕ}
use mathlib.Core.Path.{◌≡◌, refl, ap, sym, ◌∙◌}
use Rattle.history.proofs.Facts.{eqb_no, eqb_yes}
use Rattle.history.proofs.Lift.{Seen}
use Rattle.layout.specs.Layout.{Layout}
use Rattle.model.specs.Calls as Calls
use Rattle.model.specs.Calls.{effect}
use Rattle.model.specs.View as View
use Rattle.model.specs.Model.{view_of}
use Rattle.model.specs.Replies.{Answer, number, reply}
use Rattle.model.specs.Rules.{item}
use Rattle.model.specs.Terms.{terms, uncharged}
use Rattle.heap.specs.Answers.{answered}
use Rattle.heap.specs.State.{State, model_of}
use Rattle.heap.specs.Good.{Good}
use Rattle.heap.specs.Promise.{Reads}
use Rattle.heap.proofs.DoesLaws.{does-answered, first_none}
use Rattle.collections_growth.specs.Words.{ItemIs}

same_number : {m n : ℕ} → answered (number m) ≡ answered (number n) → m ≡ n
same_number e = let a : ◌≡◌ {A = Answer} (reply (number _)) (reply (number _)) = ap (λ (s : Seen). s.answer) e in cc

module _ {t : State} {w r : ℕ} (g : Good t) (d : Reads (Calls.deref_word w) t (answered (number r))) where
  deref-is : (l : Layout) → View.deref (view_of (model_of l t)) w ≡ r
  unfolding terms effect uncharged
  deref-is l = same_number ((does-answered l g (Calls.deref_word w) refl refl refl first_none refl).shows ∙ sym (d l).shows)

  pub item_dynamic : {type : ℕ} → type ≡ 2 → ItemIs t type w r
  unfolding item
  item_dynamic {type} e = record { is = λ l. rw (eqb_yes type 2 e) (deref-is l) }

pub item_plain : {t : State} {type w : ℕ} → (type ≡ 2 → ⊥) → ItemIs t type w w
unfolding item
item_plain {type = type} h = record { is = λ l. rw (eqb_no type 2 h) }
