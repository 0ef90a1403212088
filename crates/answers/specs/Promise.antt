-- What a call promises whose answer is shown as words.
use Rattle.std.specs.Prelude.{◌≡◌, ◌≢◌}
use Rattle.layout.specs.Layout.{Layout}
use Rattle.model.specs.Calls.{Call}
use Rattle.model.specs.Step.{step}
use Rattle.history.proofs.Lift.{seen}
use Rattle.heap.specs.State.{State, model_of}
use Rattle.heap.specs.Good.{Good}
use Rattle.answers.specs.declared.Shown.{Shown}
use Rattle.answers.specs.Shows.{shown_of}

-- the call k, made on the state b, left the state a, and s is shown of it; a refusal leaves the record and every buffer as they were
pub record ShowsCall (l : Layout) (k : Call) (b : State) (s : Shown) (a : State) : Type 0 where
  pub shown : s ≡ shown_of (seen (step (model_of l b) k))
  pub next : model_of l a ≡ (step (model_of l b) k).next
  pub good : Good a
  pub kept : s.refusal ≢ 0 → a ≡ b
