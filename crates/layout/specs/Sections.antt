-- Where a layout's sections stand in its bytes (document 01, "Layout"): the table of their starts, and what a section lists from a position on.
-- Assumes nothing.
use Rattle.std.specs.Prelude.{◌≡◌, ℕ, zero, suc, ◌+◌, ◌≤◌, ◌<◌, Bool, true, false, cond, ◌&&◌, ◌||◌, List, [], ◌∷◌, eqb, leb, length, get_or, set, drop, Option, Some, None, Result, Ok, Err, IsOk, IsErr}
use Rattle.std.proofs.Math.Option as Parse
use Rattle.std.proofs.lemmas.List.Edits.{sets}
use Rattle.layout.specs.Layout.{Layout, u16, parse, fields_of, registers_of, captures_of}
use Rattle.layout.specs.declared.BadLayout.{BadLayout}
use Rattle.layout.specs.declared.Section.{Section}
use Rattle.layout.specs.declared.Section.TheVariants as Kind
use Rattle.layout.specs.declared.Entry.{Entry}
use Rattle.layout.specs.declared.Entry.TheVariants.{Field, Register, Capture}
use Rattle.layout.specs.declared.Listed.{Listed}

-- ---- the layout that bytes give

abbrev pub is_given : Parse.Option Layout → Bool
is_given Parse.none = false
is_given (Parse.some l) = true

abbrev pub or_empty : Parse.Option Layout → Layout
or_empty Parse.none = record { structs = []; functions = [] }
or_empty (Parse.some l) = l

unfoldable pub is_layout : List ℕ → Bool
is_layout bs = is_given (parse bs)

-- the layout parsed, or the empty one
unfoldable pub layout_of : List ℕ → Layout
layout_of bs = or_empty (parse bs)

-- ---- sections: what follows an 01 or 03, up to the first command that is not its own

-- how many operand bytes a command has
unfoldable pub operand_bytes : ℕ → ℕ
operand_bytes b = cond (eqb b 2) 2 (cond (eqb b 4) 2 (cond (eqb b 5) 1 0))

abbrev pub cons_if : {A : Type 0} → Bool → A → List A → List A
cons_if true x xs = x ∷ xs
cons_if false x xs = xs

-- the positions after each command c (1 or 3), in the bytes from `at` on; `skip`: operand bytes to pass over first
unfoldable pub starts_from : ℕ → ℕ → ℕ → List ℕ → List ℕ
starts_from c skip at [] = []
starts_from c (suc skip) at (b ∷ bs) = starts_from c skip (suc at) bs
starts_from c zero at (b ∷ bs) = cons_if (eqb b c) (suc at) (starts_from c (operand_bytes b) (suc at) bs)

-- where the struct types' sections begin (c = 1), and the functions' (c = 3), in their order
abbrev pub starts : ℕ → List ℕ → List ℕ
starts c bs = starts_from c 0 0 bs

-- of the type or function n; past the last one the end of the bytes, where nothing is listed
abbrev pub section_at : ℕ → List ℕ → ℕ → ℕ
section_at c bs n = get_or (starts c bs) n (length bs)

-- the commands that stand in a section beside c: 02 alone, 04 and 05 together
unfoldable pub belongs : ℕ → ℕ → Bool
belongs c b = cond (eqb c 2) (eqb b 2) (eqb b 4 || eqb b 5)

unfoldable pub operand : ℕ → List ℕ → ℕ
operand b bs = cond (eqb b 5) (get_or bs 0 0) (u16 bs)

-- what the commands c of a section list, in their order and with duplicates
unfoldable pub listed : ℕ → ℕ → List ℕ → List ℕ
listed c skip [] = []
listed c (suc skip) (b ∷ bs) = listed c skip bs
listed c zero (b ∷ bs) = cond (belongs c b && leb (operand_bytes b) (length bs)) (cons_if (eqb b c) (operand b bs) (listed c (operand_bytes b) bs)) []

abbrev pub listed_from : ℕ → List ℕ → ℕ → List ℕ
listed_from c bs at = listed c 0 (drop at bs)

abbrev pub fields_from : List ℕ → ℕ → List ℕ
fields_from = listed_from 2

abbrev pub registers_from : List ℕ → ℕ → List ℕ
registers_from = listed_from 4

abbrev pub captures_from : List ℕ → ℕ → List ℕ
captures_from = listed_from 5

-- ---- one step through a section: c is the command whose numbers are asked for

pub record OneMore (c : ℕ) (bs : List ℕ) (at n next : ℕ) : Type 0 where
  pub lists : listed_from c bs at ≡ n ∷ listed_from c bs next
  pub onward : at < next
  pub within : next ≤ length bs
  pub small : n < 65536

abbrev pub Continues : ℕ → List ℕ → ℕ → Option Listed → Type 0
Continues c bs at (Some l) = OneMore c bs at l.number l.next
Continues c bs at None = listed_from c bs at ≡ []

-- the command whose numbers an entry is
abbrev pub lister_of : Entry → ℕ
lister_of Field = 2
lister_of Register = 4
lister_of Capture = 5

-- ---- the kinds of sections

-- the command that begins one
abbrev pub begin_of : Section → ℕ
begin_of Kind.Struct = 1
begin_of Kind.Function = 3

-- the word of the table from which on their starts stand, and the word of their number
abbrev pub base_of : Section → ℕ
base_of Kind.Struct = 0
base_of Kind.Function = 256

abbrev pub count_of : Section → ℕ
count_of Kind.Struct = 512
count_of Kind.Function = 513

-- the kind of section that lists an entry
abbrev pub section_of : Entry → Section
section_of Field = Kind.Struct
section_of Register = Kind.Function
section_of Capture = Kind.Function

-- ---- the table of the layout that the bytes give: words 0 to 255 the starts of struct types, 256 to 511 of functions, 512 and 513 how many there are of each

-- from the word `base` on where the sections begin that the command c begins, and at the word `place` how many there are
pub record SectionStarts (bs t : List ℕ) (c base place : ℕ) : Type 0 where
  pub count : get_or t place 0 ≡ length (starts c bs)
  pub at : (n : ℕ) → n < length (starts c bs) → get_or t (base + n) 0 ≡ get_or (starts c bs) n 0

pub record Tabled (bs t : List ℕ) : Type 0 where
  pub parsed : parse bs ≡ Parse.some (layout_of bs)
  pub room : 514 ≤ length t
  pub structs : SectionStarts bs t 1 0 512
  pub functions : SectionStarts bs t 3 256 513

-- a table with the starts written into it; its other words stay
unfoldable pub table_of : List ℕ → List ℕ → List ℕ
table_of bs t = set (set (sets (sets t 0 (starts 1 bs)) 256 (starts 3 bs)) 512 (length (starts 1 bs))) 513 (length (starts 3 bs))

-- ---- reading a layout into a table

-- bytes that are no layout, or a table too short for it, are refused
abbrev pub readable : List ℕ → List ℕ → Bool
readable bs t = is_layout bs && leb 514 (length t)

-- document 01's number of each case ("Who can be turned back")
abbrev pub opening_number : Result Unit BadLayout → ℕ
opening_number (Ok u) = 0
opening_number (Err e) = 10

unfoldable pub table_after : List ℕ → List ℕ → List ℕ
table_after bs t = cond (readable bs t) (table_of bs t) t

pub record LayoutRead (bs t t' : List ℕ) (r : Result Unit BadLayout) : Type 0 where
  pub number : opening_number r ≡ cond (readable bs t) 0 10
  pub table : t' ≡ table_after bs t
  pub tabled : IsOk r → Tabled bs t'
  pub refused : IsErr r → 514 ≤ length t → parse bs ≡ Parse.none
  pub len : length t' ≡ length t
  pub past : (i : ℕ) → 514 ≤ i → get_or t' i 0 ≡ get_or t i 0

-- ---- the section of a struct type or of a function

pub record StructSection (bs : List ℕ) (n at : ℕ) : Type 0 where
  pub place : at ≡ section_at 1 bs n
  pub within : at ≤ length bs
  pub fields : fields_from bs at ≡ fields_of (layout_of bs) n

pub record FunctionSection (bs : List ℕ) (n at : ℕ) : Type 0 where
  pub place : at ≡ section_at 3 bs n
  pub within : at ≤ length bs
  pub registers : registers_from bs at ≡ registers_of (layout_of bs) n
  pub captures : captures_from bs at ≡ captures_of (layout_of bs) n

abbrev pub SectionAt : Section → List ℕ → ℕ → ℕ → Type 0
SectionAt Kind.Struct bs n at = StructSection bs n at
SectionAt Kind.Function bs n at = FunctionSection bs n at
