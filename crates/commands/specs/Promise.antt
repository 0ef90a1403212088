-- What a function promises that performs commands: the calls of the command's act, what is shown of them, the state and the lists afterwards.
use Rattle.std.specs.Prelude.{Option, Some, None}
use Rattle.std.specs.Prelude.{ℕ, ◌≡◌, List, [], ◌∷◌}
use Rattle.layout.specs.Layout.{Layout}
use Rattle.model.specs.Calls.{Call}
use Rattle.model.specs.Replies.{Lent, no_memory, list, cursor_at}
use Rattle.model.specs.Model.{Model}
use Rattle.model.specs.Step.{step}
use Rattle.model.specs.Demand3.{seen}
use Rattle.heap.specs.State.{State, model_of}
use Rattle.answers.specs.declared.Shown.{Shown}
use Rattle.answers.specs.Promise.{ShowsCall}
use Rattle.answers.specs.Shows.{shown_of, shows, with_second}
use Rattle.commands.specs.Rows.{Act, Lists, add_root, make, make_both, no_act, opens_with}
use Rattle.commands.specs.declared.Memory.{Memory}
use Rattle.commands.specs.declared.Memory.TheVariants.{Own, Buffer, Places, Roots}

abbrev pub lists : List ℕ → List ℕ → List ℕ → List ℕ → Lists
lists words frames bytes places = record { words = words; frames = frames; bytes = bytes; places = places }

-- ---- an act on the heap m

unfoldable pub calls_in : Act → List Call
calls_in no_act = []
calls_in (opens_with o) = []
calls_in (add_root w) = []
calls_in (make k) = k ∷ []
calls_in (make_both k j) = k ∷ j ∷ []

-- what is shown of it: of two calls, the second's word beside the first's answer
unfoldable pub shown_by : Model → Act → Shown
shown_by m no_act = shows 0 0 0 0 0 0
shown_by m (opens_with o) = shows 0 0 0 0 0 0
shown_by m (add_root w) = shows 0 0 0 0 0 0
shown_by m (make k) = shown_of (seen (step m k))
shown_by m (make_both k j) = with_second (shown_of (seen (step (step m k).next j))).word (shown_of (seen (step m k)))

-- the memory lent to it, afterwards
unfoldable pub lent_by : Model → Act → Lent
lent_by m no_act = no_memory
lent_by m (opens_with o) = no_memory
lent_by m (add_root w) = no_memory
lent_by m (make k) = (step m k).lent
lent_by m (make_both k j) = no_memory

-- a lent list, as the call left it
unfoldable pub left_in : Lent → List ℕ → List ℕ
left_in no_memory old = old
left_in (list ws) old = ws
left_in (cursor_at c) old = old

unfoldable pub bytes_after : Memory → Lent → List ℕ → List ℕ
bytes_after Own m bytes = bytes
bytes_after Buffer m bytes = left_in m bytes
bytes_after Places m bytes = bytes
bytes_after Roots m bytes = bytes

unfoldable pub places_after : Memory → Lent → List ℕ → List ℕ
places_after Own m places = places
places_after Buffer m places = places
places_after Places m places = left_in m places
places_after Roots m places = left_in m places

-- ---- promises

-- the act's calls were made on the state b and left the state a; one that makes no call changes nothing
pub data ChangedBy (b : State) : Act → Option Shown → State → Type 0 where
  unknown_change : {x : Act} → calls_in x ≡ [] → ChangedBy b x None b
  known_change : {k : Call} {s : Shown} {a : State} → ((l : Layout) → ShowsCall l k b s a) → ChangedBy b (make k) (Some s) a
  both_change : {k j : Call} {s u : Shown} → ((l : Layout) → ShowsCall l k b s b) → ((l : Layout) → ShowsCall l j b u b) → ChangedBy b (make_both k j) (Some (with_second u.word s)) b

-- readings leave the record and every buffer as they were
abbrev pub ReadBy : State → Act → Option Shown → Type 0
ReadBy t x r = ChangedBy t x r t

-- the same for a command with this memory lent to it: bytes and places
pub data CommandedBy (l : Layout) (e : Memory) (b : State) (bytes places : List ℕ) : Act → Option Shown → State → List ℕ → List ℕ → Type 0 where
  unknown_command : {x : Act} → calls_in x ≡ [] → CommandedBy l e b bytes places x None b bytes places
  known_command : {k : Call} {s : Shown} {a : State} {bytes' places' : List ℕ} → ShowsCall l k b s a → bytes' ≡ bytes_after e (step (model_of l b) k).lent bytes → places' ≡ places_after e (step (model_of l b) k).lent places →
      CommandedBy l e b bytes places (make k) (Some s) a bytes' places'
  both_command : {k j : Call} {s u : Shown} → ShowsCall l k b s b → ShowsCall l j b u b → CommandedBy l e b bytes places (make_both k j) (Some (with_second u.word s)) b bytes places
