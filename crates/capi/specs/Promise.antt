-- What the functions promise of the words they are lent and return.
use Rattle.std.specs.Prelude.{◌≡◌, List, ℕ}
use Rattle.layout.specs.Layout.{Layout}
use Rattle.model.specs.Calls.{Call}
use Rattle.model.specs.Model.{Model}
use Rattle.model.specs.Replies.{list}
use Rattle.model.specs.Step.{step}
use Rattle.history.proofs.Lift.{seen}
use Rattle.heap.specs.State.{State, model_of, state}
use Rattle.answers.specs.declared.Shown.{Shown}
use Rattle.answers.specs.Promise.{ShowsCall}
use Rattle.answers.specs.Shows.{shown_of}
use Rattle.heap_record.specs.Record.{loaded}
use Rattle.capi.specs.Record.{shown_in}

-- the state of a heap whose record is kept as words
abbrev pub holds : List ℕ → List ℕ → List ℕ → List ℕ → List ℕ → List ℕ → State
holds h s x f d c = state (loaded h) s x f d c

-- the call k on the state b left the state a, returned r and answered these words, whatever the layout is
abbrev pub Delivers : Call → State → ℕ → List ℕ → State → Type 0
Delivers k b r answer a = (l : Layout) → ShowsCall l k b (shown_in r answer) a

-- a reading leaves the record and every buffer as they were
abbrev pub DeliversSame : Call → State → ℕ → List ℕ → Type 0
DeliversSame k t r answer = Delivers k t r answer t

-- a call on words alone shows the same on every heap
abbrev pub Words : Call → ℕ → List ℕ → Type 0
Words k r answer = (m : Model) → shown_in r answer ≡ shown_of (seen (step m k))

-- a call that is lent a list, and leaves it as ws
pub record ShowsList (l : Layout) (k : Call) (b : State) (s : Shown) (ws : List ℕ) (a : State) : Type 0 where
  pub call : ShowsCall l k b s a
  pub lent : list ws ≡ (step (model_of l b) k).lent
