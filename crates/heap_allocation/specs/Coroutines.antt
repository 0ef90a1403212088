-- A new coroutine (document 01, "Slot and object"): placed with its scalars and registers, then its frames are copied in.
use Rattle.std.specs.Prelude.{ℕ, ◌+◌, ◌*◌, ◌≤◌, ◌<◌, ◌≡◌, ◌⊎◌, List, length, get_or, drop, Result, Ok, Err}
use Rattle.heap_slots.specs.Kinds.{COROUTINE}
use Rattle.heap_slots.specs.Limits.{CELLS_MAX}
use Rattle.heap_slots.specs.Scalars.{scalars_of_coroutine}
use Rattle.heap_slots.specs.declared.Header.{Header}
use Rattle.heap_slots.specs.declared.Scalars.{Scalars}
use Rattle.heap_cells.specs.Moves.{Copied}
use Rattle.model.specs.Calls as Calls
use Rattle.model.specs.Calls.{Call}
use Rattle.model.specs.declared.Frame.{Frame}
use Rattle.heap.specs.declared.Refusal.{Refusal}
use Rattle.heap.specs.Answers.{made_is}
use Rattle.heap.specs.Kinds.{frames_in}
use Rattle.heap.specs.State.{State, with_cells}
use Rattle.heap.specs.Good.{Good}
use Rattle.heap.specs.Promise.{Performs}
use Rattle.heap.specs.Placing.{new_word}
use Rattle.heap_allocation.specs.declared.Begun.{Begun}
use Rattle.heap_allocation.specs.declared.Coroutine.{Coroutine}
use Rattle.heap_allocation.specs.Making.{headerOf, placed, with_next}

abbrev pub call_of : Coroutine → List ℕ → List Frame → Call
call_of k ws fs = Calls.new_coroutine k.state k.sequence k.payload k.key k.result k.signal ws fs

-- "it starts unfinalized"
abbrev pub scalars_for : Coroutine → ℕ → Scalars
scalars_for k n = scalars_of_coroutine record { finalized = 0; payload = k.payload; key = k.key; result = k.result; signal = k.signal; frames = n }

abbrev pub coroutine_header : Coroutine → ℕ → ℕ → Header
coroutine_header k words size = headerOf COROUTINE k.sequence k.state words size

-- the registers ws at the top, and the coroutine placed
pub record Seated (m : State) (k : Coroutine) (ws : List ℕ) (n size bytes : ℕ) (r : Result ℕ Refusal) (a : State) : Type 0 where
  pub registers : Copied ws m.cells a.cells m.heap.top
  pub after : a ≡ placed (with_cells (with_next m (scalars_for k n)) a.cells) (coroutine_header k (length ws) size) bytes
  pub answer : r ≡ Ok (new_word m COROUTINE)
  pub good : Good a

-- the frames fs in the cells from `at` on, four to a frame; the other cells as they were
pub record FramesPut (fs : List Frame) (c c' : List ℕ) (at : ℕ) : Type 0 where
  pub len : length c' ≡ length c
  pub inside : frames_in (drop at c') 0 (length fs) ≡ fs
  pub outside : (q : ℕ) → (q < at) ⊎ (at + 4 * length fs ≤ q) → get_or c' q 0 ≡ get_or c q 0

-- a coroutine of n frames is made once they are put where b says, whatever they are
pub record BegunAs (t : State) (k : Coroutine) (ws : List ℕ) (n : ℕ) (b : Begun) (a : State) : Type 0 where
  pub room : b.at + 4 * n ≤ length a.cells
  pub cells_max : length a.cells ≤ CELLS_MAX
  pub once : (fs : List Frame) (c' : List ℕ) → length fs ≡ n → FramesPut fs a.cells c' b.at → Performs (call_of k ws fs) t (made_is (Ok b.word)) (with_cells a c')

-- or it is refused, whatever they are
pub record Begins (t : State) (k : Coroutine) (ws : List ℕ) (n : ℕ) (r : Result Begun Refusal) (a : State) : Type 0 where
  pub begun : (b : Begun) → r ≡ Ok b → BegunAs t k ws n b a
  pub refused : (q : Refusal) → r ≡ Err q → (fs : List Frame) → length fs ≡ n → Performs (call_of k ws fs) t (made_is (Err q)) a
