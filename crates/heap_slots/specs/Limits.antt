-- Numbers that stand in several places: bounds of a heap, words of a slot, parts of a reference.
use Rattle.std.specs.Prelude.{ℕ, ◌+◌, ◌*◌, ◌≤◌, ◌<◌, List, length}

abbrev pub SLOTS_MAX : ℕ
SLOTS_MAX = 65536

abbrev pub CELLS_MAX : ℕ
CELLS_MAX = 1048576

-- two places to a slot
abbrev pub DIRECTORY_MAX : ℕ
DIRECTORY_MAX = 131072

-- words of a slot's header, and of its scalars
abbrev pub SLOT_WORDS : ℕ
SLOT_WORDS = 8

-- a reference is half * SPAN + slot, with half = HALF + tag
abbrev pub SPAN : ℕ
SPAN = 4294967296

abbrev pub HALF : ℕ
HALF = 65536

-- the tag is a generation below GENERATIONS, with BOX-FLAG more for a box
abbrev pub GENERATIONS : ℕ
GENERATIONS = 32768

abbrev pub LAST_GENERATION : ℕ
LAST_GENERATION = 32767

abbrev pub BOX_FLAG : ℕ
BOX_FLAG = 32768

-- halves of references end here; those of boxes start at BOX-HALF
abbrev pub BOX_HALF : ℕ
BOX_HALF = 98304

abbrev pub HALF_END : ℕ
HALF_END = 131072

-- words for slot i, and for the first n slots
abbrev pub HasSlot : List ℕ → ℕ → Type 0
HasSlot s i = (i < SLOTS_MAX) × (i * SLOT_WORDS + SLOT_WORDS ≤ length s)

abbrev pub HasSlots : List ℕ → ℕ → Type 0
HasSlots s n = (n ≤ SLOTS_MAX) × (n * SLOT_WORDS ≤ length s)
