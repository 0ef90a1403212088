-- The rows of document 01's table of kinds; NONE is a slot without an object.
use Rattle.std.specs.Prelude.{ℕ}

abbrev pub NONE : ℕ
NONE = 0

abbrev pub STRING : ℕ
STRING = 1

abbrev pub INTEGER : ℕ
INTEGER = 2

abbrev pub CELL : ℕ
CELL = 3

abbrev pub ERROR : ℕ
ERROR = 4

abbrev pub BOX : ℕ
BOX = 5

abbrev pub ARRAY : ℕ
ARRAY = 6

abbrev pub MAP : ℕ
MAP = 7

abbrev pub STRUCT : ℕ
STRUCT = 8

abbrev pub FUNCTION : ℕ
FUNCTION = 9

abbrev pub ITERATOR : ℕ
ITERATOR = 10

abbrev pub COROUTINE : ℕ
COROUTINE = 11

-- in a row's place: a dead reference (document 02, (i))
abbrev pub DEAD : ℕ
DEAD = 15
