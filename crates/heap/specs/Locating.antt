-- The object that a call is made on (document 01, refusals 1 and 2; document 02, (i), 11).
use Rattle.std.specs.Prelude.{ℕ, ◌≤◌, ◌≡◌, Bool, true, false, cond, ◌⊎◌, List, eqb, Result, Ok, Err}
use Rattle.heap_slots.specs.Header.{header_at}
use Rattle.heap_slots.specs.Kinds.{DEAD, NONE}
use Rattle.heap_slots.specs.Lookup.{hit_first}
use Rattle.heap_slots.specs.declared.Miss.{Miss}
use Rattle.heap_slots.specs.declared.Miss.TheVariants as F
use Rattle.heap.specs.declared.Refusal.{Refusal}
use Rattle.heap.specs.declared.Refusal.TheVariants.{OtherKind}
use Rattle.heap.specs.Answers.{missing, number_of}
use Rattle.heap.specs.Kinds.{LAST_ROW}

-- by what the word reaches: an object of the kind, or the refusal
unfoldable pub located_by : List ℕ → ℕ → Result ℕ Miss → Result ℕ Refusal
located_by s kind (Ok i) = cond (eqb (header_at s i).kind kind) (Ok i) (Err OtherKind)
located_by s kind (Err m) = Err (missing m)

unfoldable pub located_in : List ℕ → ℕ → ℕ → ℕ → Result ℕ Refusal
located_in s n w kind = located_by s kind (hit_first s n w)

-- the number of each case
unfoldable pub located_number : Result ℕ Refusal → ℕ
located_number (Ok i) = 0
located_number (Err q) = number_of q

-- "1 .. nil", "11, dead reference", "2 another kind, or a word neither nil nor reference"
unfoldable pub target_number : List ℕ → ℕ → Result ℕ Miss → ℕ
target_number s kind (Ok i) = cond (eqb (header_at s i).kind kind) 0 2
target_number s kind (Err F.Nil) = 1
target_number s kind (Err F.Dead) = 11
target_number s kind (Err F.Wrong) = 2

pub record Locates (s : List ℕ) (n w kind : ℕ) (r : Result ℕ Refusal) : Type 0 where
  pub is : r ≡ located_in s n w kind
  pub number : located_number r ≡ target_number s kind (hit_first s n w)

-- the row of the object that a word reaches; DEAD for a dead reference, else NONE
unfoldable pub row_by : List ℕ → Result ℕ Miss → ℕ
row_by s (Ok i) = (header_at s i).kind
row_by s (Err F.Nil) = NONE
row_by s (Err F.Dead) = DEAD
row_by s (Err F.Wrong) = NONE

-- what may stand there
abbrev pub RowOrDead : ℕ → Type 0
RowOrDead r = (r ≤ LAST_ROW) ⊎ (r ≡ DEAD)

pub record Ranks (s : List ℕ) (n w r : ℕ) : Type 0 where
  pub is : r ≡ row_by s (hit_first s n w)
