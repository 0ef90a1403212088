-- What a call has to show for its promise, by its refusal or its effect. Assumes nothing.
use Prim.Native.Nat.{ℕ, ◌+◌, ◌≤◌, ◌<◌}
use mathlib.Core.Path.{◌≡◌, refl}
use mathlib.Core.Logic.{◌≢◌}
use mathlib.Core.Bool.{false}
use mathlib.Core.List.{List, [], ◌∷◌}
use mathlib.Core.Option.{Option, none, some}
use native.Mathlib.Omega.{arith}
use lib.ListN.{length}
use Rattle.account.specs.Account.{fits}
use Rattle.history.proofs.Facts.{eqb_no, ltb_no, ltb_yes}
use Rattle.history.proofs.Judging.{cells_enough, cells-short, fits_not, no-cells-added, says_5, says_6, says_7, says_none, says_own}
use Rattle.history.proofs.Lift.{seen, step_reads, step-refused}
use Rattle.layout.specs.Layout.{Layout}
use Rattle.model.specs.Calls.{Call, Effect, effect, same}
use Rattle.model.specs.Replies.{Lent, Reply, nothing, reply}
use Rattle.model.specs.Model.{view_of}
use Rattle.model.specs.Refusals.{added, budget, cell_less, first, inside, slotless, unless}
use Rattle.model.specs.Terms.{terms}
use Rattle.model.specs.Step.{refusal_of}
use Rattle.heap.specs.declared.Refusal.{Refusal}
use Rattle.heap.specs.declared.Refusal.TheVariants as No
use Rattle.heap.specs.Answers.{number_of}
use Rattle.heap.specs.State.{State, model_of}
use Rattle.heap.specs.Good.{Good}
use Rattle.heap.specs.Promise.{Does}
use Rattle.heap.proofs.SlotLaws.{cells-used}

-- ---- refusals in order

pub number_not_0 : (q : Refusal) → number_of q ≢ 0
unfolding number_of
number_not_0 No.NilTarget e = omega arith
number_not_0 No.DeadReference e = omega arith
number_not_0 No.OtherKind e = omega arith
number_not_0 No.Outside e = omega arith
number_not_0 No.BadType e = omega arith
number_not_0 No.OverBudget e = omega arith
number_not_0 No.NoSlot e = omega arith
number_not_0 No.NoCells e = omega arith
number_not_0 No.TooShort e = omega arith
number_not_0 No.Spent e = omega arith
number_not_0 No.BadOpening e = omega arith

-- the test in front refuses, or passes
pub first_refuses : {n : ℕ} (ns : List ℕ) (q : Refusal) → n ≡ number_of q → first (n ∷ ns) ≡ number_of q
unfolding first
first_refuses ns q e = rw (e, eqb_no (number_of q) 0 (number_not_0 q))

pub first_passes : {n : ℕ} (ns : List ℕ) → n ≡ 0 → first (n ∷ ns) ≡ first ns
unfolding first
first_passes ns e = rw e

pub first_none : first [] ≡ 0
unfolding first
first_none = refl

pub inside_so : (p n : ℕ) → p < n → inside p n ≡ 0
unfolding unless
inside_so p n h = rw (ltb_yes p n h)

pub inside_not : (p n : ℕ) → n ≤ p → inside p n ≡ number_of No.Outside
unfolding unless number_of
inside_not p n h = rw (ltb_no p n h)

-- ---- a refused call

module _ (l : Layout) {t : State} (g : Good t) (k : Call) where
  pub does-refused : (q : Refusal) {x : Lent} → (terms (model_of l t) k).lent_before ≡ x → refusal_of (model_of l t) (terms (model_of l t) k) (effect (view_of (model_of l t)) k) ≡ number_of q →
      Does l k t record { refusal = number_of q; answer = reply nothing; lent = x } t
  unfolding seen
  does-refused q e h =
      let s = step-refused (model_of l t) k (number_of q) h (number_not_0 q) in
      record { shows = rw (s, e); next = rw s; good = g; kept = λ z. refl }

  -- by a test of its own
  pub does-own : (q : Refusal) {x : Lent} → (terms (model_of l t) k).lent_before ≡ x → first (terms (model_of l t) k).refusals ≡ number_of q →
      Does l k t record { refusal = number_of q; answer = reply nothing; lent = x } t
  does-own q e h = does-refused q e (says_own (model_of l t) (terms (model_of l t) k) (effect (view_of (model_of l t)) k) (number_of q) h (number_not_0 q))

  -- a reading
  pub does-answered : {a : Reply} {x : Lent} → (terms (model_of l t) k).lent_after ≡ x → effect (view_of (model_of l t)) k ≡ same → (terms (model_of l t) k).charge ≡ none → first (terms (model_of l t) k).refusals ≡ 0 →
      (terms (model_of l t) k).answer ≡ a → Does l k t record { refusal = 0; answer = reply a; lent = x } t
  unfolding seen budget slotless added
  does-answered e f c h b =
      let m = model_of l t in
      let s = step_reads m k (says_none m (terms m k) (effect (view_of m) k) h (rw c) (rw f) (rw f (no-cells-added m 0 refl))) f c in
      record { shows = rw (s, e, b); next = rw s; good = g; kept = λ z. refl }

  -- 5: the charge exceeds the budget
  pub does_5 : {n : ℕ} {x : Lent} → first (terms (model_of l t) k).refusals ≡ 0 → (terms (model_of l t) k).charge ≡ some n → fits t.heap.account n ≡ false → (terms (model_of l t) k).lent_before ≡ x →
      Does l k t record { refusal = number_of No.OverBudget; answer = reply nothing; lent = x } t
  unfolding model_of number_of
  does_5 {n} h c f b =
      does-refused No.OverBudget b (says_5 (model_of l t) (terms (model_of l t) k) (effect (view_of (model_of l t)) k) h (rw c (fits_not t.heap.account n f)))

  -- 6: no slot
  pub does_6 : {ch : Option ℕ} {e : Effect} {x : Lent} → first (terms (model_of l t) k).refusals ≡ 0 → (terms (model_of l t) k).charge ≡ ch → budget t.heap.account ch ≡ 0 →
      effect (view_of (model_of l t)) k ≡ e → slotless (model_of l t).table e ≡ 6 → (terms (model_of l t) k).lent_before ≡ x →
      Does l k t record { refusal = number_of No.NoSlot; answer = reply nothing; lent = x } t
  unfolding model_of number_of
  does_6 h c f e s b =
      does-refused No.NoSlot b (says_6 (model_of l t) (terms (model_of l t) k) (effect (view_of (model_of l t)) k) h (rw c f) (rw e s))

  -- 7: "cells are refused exactly if the cells of present objects plus those added exceed the total"
  pub does_7 : {ch : Option ℕ} {e : Effect} (n : ℕ) {x : Lent} → first (terms (model_of l t) k).refusals ≡ 0 → (terms (model_of l t) k).charge ≡ ch → budget t.heap.account ch ≡ 0 →
      effect (view_of (model_of l t)) k ≡ e → slotless (model_of l t).table e ≡ 0 → added (model_of l t) e ≡ n → 0 < n → length t.cells < t.heap.taken + n → (terms (model_of l t) k).lent_before ≡ x →
      Does l k t record { refusal = number_of No.NoCells; answer = reply nothing; lent = x } t
  unfolding model_of number_of
  does_7 n h c f e s a z o b =
      let m = model_of l t in
      does-refused No.NoCells b (says_7 m (terms m k) (effect (view_of m) k) h (rw c f) (rw e s) (rw (e, a) (cells-short m n z (omega (arith, cells-used l t g)))))

-- cells enough
pub cells_left : (l : Layout) {t : State} → Good t → (n : ℕ) → t.heap.taken + n ≤ length t.cells → cell_less (model_of l t) n ≡ 0
unfolding model_of
cells_left l {t} g n h = cells_enough (model_of l t) n (omega (arith, cells-used l t g))
