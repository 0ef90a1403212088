-- The slot that a word reaches, and the traced words of a slot, read off the lent buffers.
use Rattle.std.specs.Prelude.{ℕ, ◌+◌, ◌*◌, Bool, ◌&&◌, List, ◌∷◌, ◌++◌, map, Result, Ok, Err}
use Rattle.heap_slots.specs.Header.{header_at, scalars_at}
use Rattle.heap_slots.specs.Limits.{SPAN}
use Rattle.heap_slots.specs.Lookup.{hit_first}
use Rattle.heap_slots.specs.declared.Miss.{Miss}
use Rattle.heap_cells.specs.Regions.{raw_at}
use Rattle.layout.specs.Layout.{Layout, registers_of}
use Rattle.map_store.specs.Store.{Entry}
use Rattle.model.specs.Content.{word_if, words_at, traced}
use Rattle.model.specs.declared.Frame.{Frame}
use Rattle.heap.specs.Kinds.{content_of}

abbrev pub slot_in : ℕ → Result ℕ Miss → ℕ
slot_in n (Ok i) = i
slot_in n (Err m) = n

-- "`get` needs equal tag and a present object"; n where the word reaches none of the first n slots
unfoldable pub hit : List ℕ → ℕ → ℕ → ℕ
hit s n w = slot_in n (hit_first s n w)

-- the words of slot i's object that are traced, in the table's order
unfoldable pub children : Layout → List ℕ → List ℕ → List ℕ → ℕ → List ℕ
children l s x c i = traced l (content_of (raw_at s c i) (scalars_at x i))

-- the reference of slot i's object: its upper half is the slot's first word
abbrev pub word_at : List ℕ → ℕ → ℕ
word_at s i = (header_at s i).half * SPAN + i

-- one entry of a map: "key, then value of each live entry, each if traced type"
abbrev pub live_words : Bool → Bool → Entry → List ℕ
live_words k v e = word_if (e.live && k) e.key ++ word_if (e.live && v) e.value

-- one frame of a coroutine: "closure and listed registers (base + number)"
abbrev pub one_frame : Layout → List ℕ → Frame → List ℕ
one_frame l rs f = f.closure ∷ words_at (map (λ n. f.base + n) (registers_of l f.function)) rs
