-- A refused command leaves the heap, every buffer and every lent list as they were (document 01: "heap and lent memory unchanged").
-- Assumes nothing.
use Rattle.std.proofs.Common.{Some}
use Prim.Native.Nat.{ℕ}
use mathlib.Core.Path.{◌≡◌, refl, ap, sym, ◌∙◌}
use mathlib.Core.Logic.{◌≢◌}
use mathlib.Core.List.{List}
use Rattle.layout.specs.Layout.{Layout}
use Rattle.model.specs.Calls.{Call}
use Rattle.model.specs.Step.{Outcome, step}
use Rattle.model.specs.Terms.{terms}
use Rattle.history.proofs.Lift.{refused-unchanged, seen}
use Rattle.heap.specs.State.{State, model_of}
use Rattle.commands.specs.declared.Operands.{Operands}
use Rattle.answers.specs.declared.Shown.{Shown}
use Rattle.answers.specs.Promise.{ShowsCall}
use Rattle.answers.proofs.ShownLaws.{shown-refusal}
use Rattle.commands.specs.Rows.{Act, Lists, make}
use Rattle.commands.specs.Table.{act_of, memory_of}
use Rattle.commands.specs.Promise.{CommandedBy, both_command, bytes_after, known_command, left_in, places_after}
use Rattle.commands.proofs.RowLaws.{Lending, lending}
use Rattle.commands.specs.declared.Memory.{Memory}
use Rattle.commands.specs.declared.Memory.TheVariants.{Own, Buffer, Places, Roots}

-- a refused call's lent list, as it was before
lent_same : {l : Layout} {k : Call} {b a : State} {s : Shown} → ShowsCall l k b s a → s.refusal ≢ 0 → (step (model_of l b) k).lent ≡ (terms (model_of l b) k).lent_before
unfolding seen
lent_same {l} {k} {b} h n =
    let z : (step (model_of l b) k).refusal ≢ 0 = λ e. n (ap (λ (x : Shown). x.refusal) h.shown ∙ shown-refusal (seen (step (model_of l b) k)) ∙ e) in
    ap (λ (r : Outcome). r.lent) (refused-unchanged (model_of l b) k z)

make-is : {k j : Call} → make k ≡ make j → k ≡ j
make-is e = cc

module _ {l : Layout} {k : Call} {b a : State} {s : Shown} (h : ShowsCall l k b s a) (n : s.refusal ≢ 0) (o : Operands) (t : Lists) where
  lent-list : {j : Call} → make k ≡ make j → (step (model_of l b) k).lent ≡ (terms (model_of l b) j).lent_before
  lent-list e = lent_same h n ∙ ap (λ (x : Call). (terms (model_of l b) x).lent_before) (make-is e)

  bytes_same : (e : Memory) → Lending e (make k) o t → t.bytes ≡ bytes_after e (step (model_of l b) k).lent t.bytes
  unfolding Lending bytes_after left_in terms
  bytes_same Own z = refl
  bytes_same Buffer z = rw (lent-list z)
  bytes_same Places z = refl
  bytes_same Roots z = refl

  places_same : (e : Memory) → Lending e (make k) o t → t.places ≡ places_after e (step (model_of l b) k).lent t.places
  unfolding Lending places_after left_in terms
  places_same Own z = refl
  places_same Buffer z = refl
  places_same Places z = rw (lent-list z)
  places_same Roots z = rw (lent-list z)

module _ {l : Layout} {b : State} (o : Operands) (t : Lists) where
  same_by : {e : Memory} {x : Act} {s : Shown} {a : State} {bs ps : List ℕ} → Lending e x o t → CommandedBy l e b t.bytes t.places x (Some s) a bs ps → s.refusal ≢ 0 → (a ≡ b) × ((bs ≡ t.bytes) × (ps ≡ t.places))
  same_by {e = e} z (known_command h f g) n = (h.kept n, (f ∙ sym (bytes_same h n o t e z), g ∙ sym (places_same h n o t e z)))
  same_by z (both_command h i) n = (refl, (refl, refl))

  pub refused-same : {s : Shown} {a : State} {bs ps : List ℕ} (c : ℕ) → CommandedBy l (memory_of c) b t.bytes t.places (act_of c o t) (Some s) a bs ps → s.refusal ≢ 0 → (a ≡ b) × ((bs ≡ t.bytes) × (ps ≡ t.places))
  refused-same c = same_by (lending c o t)
