-- What the functions promise of one command and of many: from a session and the lent buffers before to those after.
use Rattle.std.specs.Prelude.{ℕ, ◌+◌, ◌-◌, ◌*◌, ◌≤◌, ◌<◌, ◌≡◌, Bool, true, false, cond, ◌&&◌, List, [], ◌∷◌, ◌++◌, leb, length, get_or, take, drop, Result, Ok, Err}
use Rattle.std.proofs.Math.Option.{Option, none, some}
use Rattle.layout.specs.Sections.{layout_of}
use Rattle.model.specs.Callsheet.{digits, printed, sheet_opening}
use Rattle.model.specs.Model.{Model}
use Rattle.model.specs.Terms.{is_some}
use Rattle.model.specs.Opening.{Opening, open_heap}
use Rattle.heap.specs.declared.Heap.{Heap}
use Rattle.heap.specs.State.{State, model_of, state}
use Rattle.heap.specs.Good.{Ready}
use Rattle.heap.specs.Opens.{new_heap, opening_of}
use Rattle.text.specs.Puts.{Puts}
use Rattle.commands.specs.Rows.{Lists}
use Rattle.commands.specs.Promise.{lists}
use Rattle.script.specs.declared.Command.{Command}
use Rattle.script.specs.declared.Lent.{Lent}
use Rattle.script.specs.declared.Session.{Session}
use Rattle.script.specs.declared.NotStarted.{NotStarted}
use Rattle.script.specs.declared.NotStarted.TheVariants as Not
use Rattle.script.specs.Replay.{Play, ScriptHolds, Turned, play_after, text_from, turn_of}

-- ---- the lent buffers

pub record Buffers : Type 0 where
  pub slots : List ℕ
  pub scalars : List ℕ
  pub list : List ℕ
  pub directory : List ℕ
  pub cells : List ℕ
  pub marks : List ℕ
  pub order : List ℕ
  pub table : List ℕ
  pub roots : List ℕ
  pub words : List ℕ
  pub bytes : List ℕ
  pub places : List ℕ
  pub out : List ℕ

-- what the lent buffers hold: in a requires, and in an ensures before and after the call
abbrev pub lend : List ℕ → List ℕ → List ℕ → List ℕ → List ℕ → List ℕ → List ℕ → List ℕ → List ℕ → List ℕ → List ℕ → List ℕ → List ℕ → Buffers
lend slots scalars list directory cells marks order table roots words bytes places out = record {
  slots = slots;
  scalars = scalars;
  list = list;
  directory = directory;
  cells = cells;
  marks = marks;
  order = order;
  table = table;
  roots = roots;
  words = words;
  bytes = bytes;
  places = places;
  out = out;
}

-- the same of a struct that lends them
abbrev pub lent_in : Lent → Buffers
lent_in l = lend l.slots.now l.scalars.now l.list.now l.directory.now l.cells.now l.marks.now l.order.now l.table.now l.roots.now l.words.now l.bytes.now l.places.now l.out.now

-- l and m lend the same memory, so that its owner gets back what m holds
pub record SameLists (l m : Lent) : Type 0 where
  pub slots : m.slots.ghost_name ≡ l.slots.ghost_name
  pub scalars : m.scalars.ghost_name ≡ l.scalars.ghost_name
  pub list : m.list.ghost_name ≡ l.list.ghost_name
  pub directory : m.directory.ghost_name ≡ l.directory.ghost_name
  pub cells : m.cells.ghost_name ≡ l.cells.ghost_name
  pub marks : m.marks.ghost_name ≡ l.marks.ghost_name
  pub order : m.order.ghost_name ≡ l.order.ghost_name
  pub table : m.table.ghost_name ≡ l.table.ghost_name
  pub roots : m.roots.ghost_name ≡ l.roots.ghost_name
  pub words : m.words.ghost_name ≡ l.words.ghost_name
  pub bytes : m.bytes.ghost_name ≡ l.bytes.ghost_name
  pub places : m.places.ghost_name ≡ l.places.ghost_name
  pub out : m.out.ghost_name ≡ l.out.ghost_name

-- the lists keep their lengths
pub record Kept (u v : Buffers) : Type 0 where
  pub slots : length v.slots ≡ length u.slots
  pub scalars : length v.scalars ≡ length u.scalars
  pub list : length v.list ≡ length u.list
  pub directory : length v.directory ≡ length u.directory
  pub cells : length v.cells ≡ length u.cells
  pub marks : length v.marks ≡ length u.marks
  pub order : length v.order ≡ length u.order
  pub table : length v.table ≡ length u.table
  pub roots : length v.roots ≡ length u.roots
  pub words : length v.words ≡ length u.words
  pub bytes : length v.bytes ≡ length u.bytes
  pub places : length v.places ≡ length u.places
  pub out : length v.out ≡ length u.out

-- the buffers with another table, marks, order and text
abbrev pub opens_on : Buffers → List ℕ → List ℕ → List ℕ → List ℕ → Buffers
opens_on u table marks order out = record {
  slots = u.slots;
  scalars = u.scalars;
  list = u.list;
  directory = u.directory;
  cells = u.cells;
  marks = marks;
  order = order;
  table = table;
  roots = u.roots;
  words = u.words;
  bytes = u.bytes;
  places = u.places;
  out = out;
}

-- room for 1,024 slots, 65,536 cells, 64 roots, lists of 65,536 places, buffers of 524,288 bytes, the longest line; and for the words and bytes of the input
pub record Roomy (input : List ℕ) (u : Buffers) : Type 0 where
  pub slots : 8192 ≤ length u.slots
  pub scalars : 8192 ≤ length u.scalars
  pub list : 1024 ≤ length u.list
  pub directory : 2048 ≤ length u.directory
  pub cells : 65536 ≤ length u.cells
  pub marks : 1024 ≤ length u.marks
  pub order : 2048 ≤ length u.order
  pub table : 514 ≤ length u.table
  pub roots : 64 ≤ length u.roots
  pub words : (64 ≤ length u.words) × (length input ≤ 8 * length u.words)
  pub bytes : (524288 ≤ length u.bytes) × (length input ≤ length u.bytes)
  pub places : 65536 ≤ length u.places
  pub out : 1114279 ≤ length u.out

-- the same, of lengths
unfoldable pub heap_room : ℕ → ℕ → ℕ → ℕ → ℕ → ℕ → ℕ → ℕ → Bool
heap_room slots scalars list directory cells marks order table =
    leb 8192 slots && (leb 8192 scalars && (leb 1024 list && (leb 2048 directory && (leb 65536 cells && (leb 1024 marks && (leb 2048 order && leb 514 table))))))

unfoldable pub script_room : ℕ → ℕ → ℕ → ℕ → ℕ → ℕ → Bool
script_room input roots words bytes places out =
    leb 64 roots && (leb 64 words && (leb input (8 * words) && (leb 524288 bytes && (leb input bytes && (leb 65536 places && leb 1114279 out)))))

unfoldable pub roomy : List ℕ → Buffers → Bool
roomy input u =
    heap_room (length u.slots) (length u.scalars) (length u.list) (length u.directory) (length u.cells) (length u.marks) (length u.order) (length u.table) &&
    script_room (length input) (length u.roots) (length u.words) (length u.bytes) (length u.places) (length u.out)

-- ---- between commands

-- the heap over the lent buffers, of the cells the first alone
abbrev pub heap_in : Heap → ℕ → Buffers → State
heap_in h room u = state h u.slots u.scalars u.list u.directory (take room u.cells)

abbrev pub seated_in : Buffers → Session → State
seated_in u p = heap_in p.heap p.room u

abbrev pub layout_in : List ℕ → Session → List ℕ
layout_in input p = take (p.to - p.from) (drop p.from input)

pub record SessionReady (input : List ℕ) (u : Buffers) (p : Session) : Type 0 where
  pub roomy : Roomy input u
  pub ready : Ready (seated_in u p) u.marks u.order (layout_in input p) u.table
  pub seated : p.heap.size ≤ 1024
  pub room : p.room ≤ length u.cells
  pub layout : p.from ≤ p.to
  pub within : p.to ≤ length input
  pub few : p.count ≤ 64
  pub inside : p.at ≤ length input
  pub end : p.end ≤ length u.out

abbrev pub play_of : List ℕ → Buffers → Session → Play
play_of input u p = record { heap = model_of (layout_of (layout_in input p)) (seated_in u p); roots = take p.count u.roots }

-- ---- one command

abbrev pub turn_at : List ℕ → Buffers → Session → Turned
turn_at input u p = turn_of (play_of input u p) (get_or input p.at 0) (drop (p.at + 1) input)

-- what came of a command is t: its line is put behind the text, and the session goes on where t says
pub record Goes (input : List ℕ) (t : Turned) (u : Buffers) (p : Session) (v : Buffers) (r : Session) : Type 0 where
  pub ready : SessionReady input v r
  pub text : Puts t.text u.out p.end v.out r.end
  pub next : play_of input v r ≡ t.next
  pub rest : drop r.at input ≡ t.rest
  pub onward : p.at < r.at

abbrev pub Turns : List ℕ → Buffers → Session → Buffers → Session → Type 0
Turns input u p v r = Goes input (turn_at input u p) u p v r

-- the session with so many roots, the next command and the end of the text
abbrev pub moved_to : Session → ℕ → ℕ → ℕ → Session
moved_to p count at end = record { heap = p.heap; count = count; room = p.room; from = p.from; to = p.to; at = at; end = end }

-- the script ends: a missing operand, an unknown command, or no room
pub record EndLine (p : Session) (len : ℕ) (out out' : List ℕ) (r : Session) : Type 0 where
  pub same : r ≡ moved_to p p.count len r.end
  pub text : Puts (printed (63 ∷ 63 ∷ []) 4 0 p.heap.account.used) out p.end out' r.end

-- an opening for which there is no room: 10 where document 01 refuses it, else the script ends
pub data LargeLine (p : Session) (o : Option Model) (next len : ℕ) (out out' : List ℕ) (r : Session) : Type 0 where
  refused_opening : o ≡ none → r ≡ moved_to p p.count next r.end → Puts (printed (digits 16 2 0) 10 0 p.heap.account.used) out p.end out' r.end → LargeLine p o next len out out' r
  large_opening : (m : Model) → o ≡ some m → EndLine p len out out' r → LargeLine p o next len out out' r

-- "0B root (word; a 65th gives 4)"
pub record RootLine (p : Session) (w next : ℕ) (before out after out' : List ℕ) (r : Session) : Type 0 where
  pub same : r ≡ moved_to p r.count next r.end
  pub few : r.count ≤ 64
  pub size : length after ≡ length before
  pub roots : take r.count after ≡ cond (leb 64 p.count) (take p.count before) (take p.count before ++ (w ∷ []))
  pub text : Puts (printed (digits 16 2 0x0B) (cond (leb 64 p.count) 4 0) 0 p.heap.account.used) out p.end out' r.end

-- where a command's bytes lie
abbrev pub own_bytes : List ℕ → Command → List ℕ
own_bytes input k = take (k.to - k.from) (drop k.from input)

-- the lists in the fronts of the lent buffers: words up to w, those of frames up to e, bytes up to b, places up to n
abbrev pub lists_in : Buffers → ℕ → ℕ → ℕ → ℕ → Lists
lists_in u w e b n = lists (take w u.words) (take (e - w) (drop w u.words)) (take b u.bytes) (take n u.places)

-- so many words, and up to where those of frames, stand in the front of the buffer
pub record LendsWords (ws fs old : List ℕ) (w e : ℕ) (new : List ℕ) : Type 0 where
  pub size : length new ≡ length old
  pub order : w ≤ e
  pub inside : e ≤ length new
  pub words : take w new ≡ ws
  pub frames : take (e - w) (drop w new) ≡ fs

-- the front of the buffer, up to n, holds ws
pub record Fronts (ws old : List ℕ) (n : ℕ) (new : List ℕ) : Type 0 where
  pub size : length new ≡ length old
  pub inside : n ≤ length new
  pub front : take n new ≡ ws

-- ---- many commands

-- commands from the session's place on: their lines stand in the buffer, and with the text of those left they are the script's; the last play is the same
pub record Plays (input : List ℕ) (u : Buffers) (p : Session) (v : Buffers) (r : Session) : Type 0 where
  pub ready : SessionReady input v r
  pub text : text_from (play_of input u p) (drop p.at input) ≡ take r.end v.out ++ text_from (play_of input v r) (drop r.at input)
  pub last : play_after (play_of input u p) (drop p.at input) ≡ play_after (play_of input v r) (drop r.at input)
  pub holds : ScriptHolds (play_of input u p) (drop p.at input)
  pub onward : p.at < length input → p.at < r.at
  pub behind : drop r.end v.out ≡ drop r.end u.out

-- ---- the first heap

-- "It opens 256 slots, 2,048 cells, limit 1,048,576, weights 64, 40, 80, 160, 32"; the layout is the first byte of the input
abbrev pub first_opening : List ℕ → Opening
first_opening input = opening_of 256 2048 1048576 sheet_opening.weights (take 1 input)

-- without roots; the first command stands behind the layout
abbrev pub first_session : Session
first_session = record { heap = new_heap 256 1048576 sheet_opening.weights; count = 0; room = 2048; from = 0; to = 1; at = 1; end = 0 }

-- document 01's number, and the session if the heap is open
pub record StartAnswer : Type 0 where
  pub refusal : ℕ
  pub session : Option Session

unfoldable pub started_is : Result Session NotStarted → StartAnswer
started_is (Ok p) = record { refusal = 0; session = some p }
started_is (Err Not.Refused) = record { refusal = 10; session = none }
started_is (Err Not.Short) = record { refusal = 8; session = none }

-- 8: a lent buffer is too short; 10: the first byte is no layout
unfoldable pub started_by : Bool → Bool → StartAnswer
started_by false opens = record { refusal = 8; session = none }
started_by true false = record { refusal = 10; session = none }
started_by true true = record { refusal = 0; session = some first_session }

unfoldable pub opens_first : List ℕ → Bool
opens_first input = is_some (open_heap (first_opening input))

-- u and v: the buffers before and after; a refusal leaves them
pub record Starts (input : List ℕ) (u : Buffers) (r : Result Session NotStarted) (v : Buffers) : Type 0 where
  pub answer : started_is r ≡ started_by (roomy input u) (opens_first input)
  pub accepted : roomy input u ≡ true → opens_first input ≡ true → SessionReady input v first_session × (open_heap (first_opening input) ≡ some (play_of input v first_session).heap)
  pub refused : (started_is r).session ≡ none → v ≡ u
