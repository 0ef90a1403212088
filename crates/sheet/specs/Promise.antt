-- What the functions promise, from the sheet before to the sheet after.
use Rattle.std.specs.Prelude.{ℕ, ◌+◌, ◌*◌, ◌≤◌, ◌<◌, min, ◌≡◌, cond, List, [], ◌∷◌, ◌++◌, leb, length, get_or, take, drop, Option, Some, None, Result}
use Rattle.layout.specs.Sections.{layout_of}
use Rattle.history.proofs.Lift.{Seen, seen}
use Rattle.text.specs.Writes.{Writes}
use Rattle.text.specs.declared.Writer.{Writer}
use Rattle.model.specs.Calls.{Call}
use Rattle.model.specs.Model.{Model}
use Rattle.model.specs.Step.{step}
use Rattle.model.specs.Callsheet as Callsheet
use Rattle.model.specs.Callsheet.{answer_word, commanded, sheet_opening, sheet_text}
use Rattle.heap.specs.declared.Refusal.{Refusal}
use Rattle.heap.specs.Answers.{reading_is}
use Rattle.heap.specs.State.{State, model_of}
use Rattle.heap.specs.declared.Heap.{Heap}
use Rattle.heap.specs.Opens.{Opens, beside, new_heap, opening_of}
use Rattle.sheet.specs.declared.state.Buffers.{Buffers}
use Rattle.sheet.specs.declared.state.Sheet.{Sheet}
use Rattle.sheet.specs.declared.SheetLine.{SheetLine}
use Rattle.sheet.specs.Turns.{turn_of}
use Rattle.sheet.specs.Whole.{held_in}

-- the heap's state, the model that it holds, and the roots given so far
abbrev pub state_in : Sheet → State
state_in s = held_in s.heap s.buffers

abbrev pub model_in : Sheet → Model
model_in s = model_of (layout_of s.layout.bytes.now) (state_in s)

abbrev pub roots_in : Sheet → List ℕ
roots_in s = take s.count s.roots

abbrev pub sheet_of : Sheet → Callsheet.Sheet
sheet_of s = record { heap = model_in s; roots = roots_in s }

-- the program's heap opened over the buffers b, which became a, with the table of the layout's sections beside them
pub record OpensHeap (layout : List ℕ) (b : Buffers) (table : List ℕ) (r : Result Heap Refusal) (a : Buffers) (table' : List ℕ) : Type 0 where
  pub opens : Opens (opening_of 256 (length b.cells) 1048576 sheet_opening.weights layout) (held_in (new_heap 256 1048576 sheet_opening.weights) b) (beside table b.marks b.order) r (beside table' a.marks a.order)
  pub kept : (h : Heap) → held_in h a ≡ held_in h b

-- what a line shows of a call
abbrev pub shown_of : Seen → SheetLine
shown_of o = record { word = answer_word o.answer; refusal = o.refusal }

-- the call k was made on the sheet b, left the sheet a, and r is shown of it; the roots stay
pub record Shows (k : Call) (b : Sheet) (r : Result ℕ Refusal) (a : Sheet) : Type 0 where
  pub shown : shown_of (reading_is r) ≡ shown_of (seen (step (model_in b) k))
  pub next : sheet_of a ≡ record { heap = (step (model_in b) k).next; roots = roots_in b }

-- "0B root (word; a 65th gives 4)"
pub record Roots (b : Sheet) (w r : ℕ) (a : Sheet) : Type 0 where
  pub refusal : r ≡ cond (leb 64 b.count) 4 0
  pub roots : roots_in a ≡ cond (leb 64 b.count) (roots_in b) (roots_in b ++ (w ∷ []))
  pub same : model_in a ≡ model_in b

-- the command c with the bytes behind it: its line is written, and a is the sheet afterwards
pub record Commands (s : Callsheet.Sheet) (c : ℕ) (bs : List ℕ) (w : Writer) (a : Callsheet.Sheet) (w' : Writer) : Type 0 where
  pub text : Writes (commanded s c bs).text w w'
  pub next : (commanded s c bs).next ≡ a

-- the command at a place, or what stands for it: its line is written, the next command stands at at', and a is the sheet afterwards
pub record Turns (s : Callsheet.Sheet) (input : List ℕ) (at : ℕ) (w : Writer) (a : Callsheet.Sheet) (at' : ℕ) (w' : Writer) : Type 0 where
  pub text : Writes (turn_of s (get_or input at 0) (drop (at + 1) input)).text w w'
  pub next : (turn_of s (get_or input at 0) (drop (at + 1) input)).next ≡ a
  pub rest : (turn_of s (get_or input at 0) (drop (at + 1) input)).rest ≡ drop at' input
  pub onward : at < at'
  pub within : at' ≤ length input

-- the text of all commands is put into out, up to r: what stands behind it stays
pub record Prints (t out out' : List ℕ) (r : ℕ) : Type 0 where
  pub text : take r out' ≡ t
  pub ends : r ≡ length (take r out')
  pub within : r ≤ length out'
  pub rest : drop r out' ≡ drop r out

-- what the program answers: document 01's number, how many bytes of text, and the text, in the first places of the buffer
pub record Printout : Type 0 where
  pub refusal : ℕ
  pub size : ℕ
  pub text : List ℕ

-- 8: a lent buffer that is too short
unfoldable pub printout_is : Option ℕ → List ℕ → Printout
printout_is (Some n) out = record { refusal = 0; size = n; text = take n out }
printout_is None out = record { refusal = 8; size = 0; text = [] }

-- 62 bytes for each byte of input that counts: a line takes at most 62 bytes, a command at least one
abbrev pub sheet_room : List ℕ → ℕ
sheet_room input = min (length input) 65536 * 62

-- the text for this input in a buffer of so many bytes
unfoldable pub printout_of : List ℕ → ℕ → Printout
printout_of input n = cond (leb (sheet_room input) n) (record { refusal = 0; size = length (sheet_text input); text = sheet_text input }) (record { refusal = 8; size = 0; text = [] })

-- what is answered and stands in the buffer is the program's text; what stands behind the text, of a refusal the whole buffer, stays
pub record Answers (input out : List ℕ) (r : Option ℕ) (out' : List ℕ) : Type 0 where
  pub printout : printout_is r out' ≡ printout_of input (length out)
  pub rest : drop (printout_is r out').size out' ≡ drop (printout_is r out').size out
