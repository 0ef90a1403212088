-- A new object (document 01, "Slot and object"): refused as judged, or placed.
use Rattle.std.specs.Prelude.{ℕ, ◌+◌, ◌*◌, ◌≤◌, ◌<◌, ◌≡◌, cond, List, eqb, length, Result, Ok, Err}
use Rattle.heap_slots.specs.Scalars.{set_scalars}
pub use Rattle.heap_slots.specs.Header.{fresh_header as headerOf}
use Rattle.heap_slots.specs.declared.Header.{Header}
use Rattle.heap_slots.specs.declared.Scalars.{Scalars}
use Rattle.layout.specs.Layout.{Layout}
use Rattle.heap.specs.declared.Refusal.{Refusal}
use Rattle.heap.specs.Answers.{accepted}
use Rattle.heap.specs.State.{State, model_of, with_scalars}
use Rattle.heap.specs.Good.{Good}
use Rattle.heap.specs.Placing.{Object, Places, judged_new, new_word, next_region, next_slot, placed_plain, placed_region}

-- an object of a kind that has no scalars, whatever lies in the slot's
abbrev pub Scalarless : Header → List ℕ → Type 0
Scalarless h region = (x : Scalars) → Object h region x

-- 5, 6, 7 in this order, or accepted
abbrev pub judged_in : State → ℕ → ℕ → Result Unit Refusal
judged_in t bytes size = judged_new t.heap (length t.cells) bytes size

-- the reference made, or the refusal
unfoldable pub answer_by : Result Unit Refusal → ℕ → Result ℕ Refusal
answer_by (Ok u) w = Ok w
answer_by (Err q) w = Err q

-- a refusal changes nothing
unfoldable pub state_by : Result Unit Refusal → State → State → State
state_by (Ok u) t a = a
state_by (Err q) t a = t

-- the scalars of the slot that the next object takes
abbrev pub with_next : State → Scalars → State
with_next t x = with_scalars t (set_scalars t.scalars (next_slot t) x)

-- from the state t, an object without cells is placed in the state m
pub record MadePlain (t m : State) (h : Header) (bytes : ℕ) (r : Result ℕ Refusal) (a : State) : Type 0 where
  pub answer : r ≡ answer_by (judged_in t bytes 0) (new_word m h.kind)
  pub after : a ≡ state_by (judged_in t bytes 0) t (placed_plain m h bytes)
  pub good : Good a

-- a new object of these bytes is accepted, and its region fits in at the top
pub record Placeable (m : State) (bytes size : ℕ) : Type 0 where
  pub good : Good m
  pub judged : judged_in m bytes size ≡ accepted
  pub region : m.heap.top + size ≤ length m.cells
  pub entry : (size ≡ 0 → ⊥) → m.heap.entries < m.heap.size * 2

-- from t to m no object has changed
pub record RoomMade (t m : State) (bytes size : ℕ) : Type 0 where
  pub placeable : Placeable m bytes size
  pub model : (l : Layout) → model_of l m ≡ model_of l t

-- without cells, or with the next region at the top
abbrev pub placed : State → Header → ℕ → State
placed m h bytes = cond (eqb h.size 0) (placed_plain m h bytes) (placed_region m h bytes)

abbrev pub Finishes : State → Header → ℕ → Result ℕ Refusal → State → Type 0
Finishes m h bytes r a = Places (placed m h bytes) (new_word m h.kind) r a

-- 5, 6, 7 judged, and room made
pub record Prepared (t : State) (bytes size : ℕ) (d : Result Unit Refusal) (m : State) : Type 0 where
  pub judged : d ≡ judged_in t bytes size
  pub refused : (q : Refusal) → d ≡ Err q → m ≡ t
  pub accepted : d ≡ accepted → RoomMade t m bytes size
  pub good : Good m

-- an object of the cells ws: refused, and nothing changed; or placed in a state m that has them at the top
pub data MadeWords (t : State) (h : Header) (bytes : ℕ) (ws : List ℕ) (r : Result ℕ Refusal) (a : State) : Type 0 where
  refused_as : (q : Refusal) → judged_in t bytes h.size ≡ Err q → r ≡ Err q → a ≡ t → MadeWords t h bytes ws r a
  made_in : (m : State) → RoomMade t m bytes h.size → next_region m h.size ≡ ws → r ≡ Ok (new_word m h.kind) → a ≡ placed m h bytes → MadeWords t h bytes ws r a
