-- What opening promises (document 01, refusal 10): the number of cells is the length of the lent cells, the number of slots an argument; a lent
-- buffer too short for them is 10 too, and nothing is written then. Buffers may hold anything before.
use Rattle.std.specs.Prelude.{ℕ, ◌*◌, ◌≡◌, Bool, true, false, cond, ◌&&◌, List, ◌++◌, leb, drop, length, replicate, Result, Ok, Err}
use Rattle.std.proofs.Math.Option.{some}
use Rattle.heap_slots.specs.Limits.{SLOT_WORDS}
use Rattle.layout.specs.Sections.{Tabled, layout_of, table_of}
use Rattle.model.specs.Opening.{Opening, between, open_heap}
use Rattle.model.specs.Terms.{is_some}
use Rattle.model.specs.declared.Weights.{Weights}
use Rattle.heap.specs.declared.Heap.{Heap}
use Rattle.heap.specs.declared.Refusal.{Refusal}
use Rattle.heap.specs.declared.Refusal.TheVariants.{BadOpening}
use Rattle.heap.specs.Answers.{number_of}
use Rattle.heap.specs.State.{State, model_of}
pub use Rattle.heap.specs.Record.{new_heap}
use Rattle.heap.specs.Good.{Good, Rested}

-- document 01's number of each case
unfoldable pub opened_number : Result Heap Refusal → ℕ
opened_number (Ok h) = 0
opened_number (Err q) = number_of q

unfoldable pub opened_by : Bool → Heap → Result Heap Refusal
opened_by true h = Ok h
opened_by false h = Err BadOpening

-- "weights are given at opening, 1 to 4,096"
abbrev pub weights_fit : Weights → Bool
weights_fit w = between 1 w.slot 4096 && (between 1 w.entry 4096 && (between 1 w.iterator 4096 && (between 1 w.coroutine 4096 && between 1 w.frame 4096)))

-- eight words to a slot in slots and scalars, one in the free list, two in the directory; a mark and two places in the order
unfoldable pub room_for : ℕ → ℕ → ℕ → ℕ → ℕ → ℕ → ℕ → Bool
room_for size slots scalars list directory marks order =
    leb (size * SLOT_WORDS) slots && (leb (size * SLOT_WORDS) scalars && (leb size list && (leb (size * 2) directory && (leb size marks && leb (size * 2) order))))

-- the first n places are 0, the others as they were
abbrev pub cleared : List ℕ → ℕ → List ℕ
cleared l n = replicate n 0 ++ drop n l

-- what is lent beside the heap's own buffers: the table of the layout's sections, marks and order for collections
pub record Beside : Type 0 where
  pub table : List ℕ
  pub marks : List ℕ
  pub order : List ℕ

abbrev pub beside : List ℕ → List ℕ → List ℕ → Beside
beside table marks order = record { table = table; marks = marks; order = order }

unfoldable pub accepts : Opening → State → Beside → Bool
accepts o t x =
    is_some (open_heap o) && (leb 514 (length x.table) &&
    room_for o.slots (length t.slots) (length t.scalars) (length t.list) (length t.directory) (length x.marks) (length x.order))

-- an accepted opening: t the heap opened, y what x was left as
pub record Accepts (o : Opening) (t : State) (x y : Beside) : Type 0 where
  pub model : open_heap o ≡ some (model_of (layout_of o.layout) t)
  pub good : Good t
  pub tabled : Tabled o.layout y.table
  pub rested : Rested o.slots y.marks y.order
  pub table : y.table ≡ table_of o.layout x.table
  pub marks : y.marks ≡ cleared x.marks o.slots
  pub order : y.order ≡ cleared x.order (o.slots * 2)

-- t: the new record over the buffers
pub record Opens (o : Opening) (t : State) (x : Beside) (r : Result Heap Refusal) (y : Beside) : Type 0 where
  pub answer : r ≡ opened_by (accepts o t x) t.heap
  pub number : opened_number r ≡ cond (accepts o t x) 0 10
  pub accepted : accepts o t x ≡ true → Accepts o t x y
  pub refused : accepts o t x ≡ false → y ≡ x

abbrev pub opening_of : ℕ → ℕ → ℕ → Weights → List ℕ → Opening
opening_of slots cells limit weights layout = record { slots = slots; cells = cells; limit = limit; weights = weights; layout = layout }
