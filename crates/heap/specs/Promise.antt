-- What a call promises: its answer, the model afterwards, the invariant; a refusal leaves the record and every buffer as they were.
use Rattle.std.specs.Prelude.{◌≡◌, ◌≢◌}
use Rattle.layout.specs.Layout.{Layout}
use Rattle.model.specs.Calls.{Call}
use Rattle.model.specs.Step.{step}
use Rattle.history.proofs.Lift.{Seen, seen}
use Rattle.heap.specs.State.{State, model_of}
use Rattle.heap.specs.Good.{Good}

-- the call k, made on the state b, left the state a and showed o
pub record Does (l : Layout) (k : Call) (b : State) (o : Seen) (a : State) : Type 0 where
  pub shows : o ≡ seen (step (model_of l b) k)
  pub next : model_of l a ≡ (step (model_of l b) k).next
  pub good : Good a
  pub kept : o.refusal ≢ 0 → a ≡ b

-- whatever the layout is
abbrev pub Performs : Call → State → Seen → State → Type 0
Performs k b o a = (l : Layout) → Does l k b o a

-- a reading leaves the record and every buffer as they were
abbrev pub Reads : Call → State → Seen → Type 0
Reads k t o = Performs k t o t
