-- An answer, a coroutine's words and a cursor, as words.
use Rattle.std.specs.Prelude.{ℕ, ◌%◌, Bool, cond, not, List, [], ◌∷◌, eqb, get_or}
use Rattle.std.proofs.Math.Option.{none, some}
use Rattle.heap_allocation.specs.declared.Coroutine.{Coroutine}
use Rattle.answers.specs.declared.Shown.{Shown}
use Rattle.map_store.specs.Store.{Cursor}

-- the number returned and the six words of the answer
abbrev pub shown_in : ℕ → List ℕ → Shown
shown_in r ws = record { refusal = r; word = get_or ws 0 0; x = get_or ws 1 0; y = get_or ws 2 0; z = get_or ws 3 0; u = get_or ws 4 0; v = get_or ws 5 0 }

-- a number as yes or no
abbrev pub yes : ℕ → Bool
yes n = not (eqb n 0)

abbrev pub coroutine_in : List ℕ → Coroutine
coroutine_in ws = record { state = get_or ws 0 0; sequence = get_or ws 1 0; payload = get_or ws 2 0; key = get_or ws 3 0; result = get_or ws 4 0; signal = get_or ws 5 0 }

-- a lent cursor: yielded yet, last sequence number, position, epoch (its low 32 bits)
unfoldable pub cursor_in : List ℕ → Cursor
cursor_in ws = record { last = cond (eqb (get_or ws 0 0) 0) none (some (get_or ws 1 0)); pos = get_or ws 2 0; epoch = get_or ws 3 0 % 4294967296 }

-- the lent cursor as a call left it: a refusal leaves its words as they were
unfoldable pub cursor_out : Shown → List ℕ → List ℕ
cursor_out s ws = cond (eqb s.refusal 0) (s.y ∷ s.z ∷ s.u ∷ s.v ∷ []) ws
