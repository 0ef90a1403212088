-- What the answers of the calls mean: the number of each refusal, and the answer of the model.
use Rattle.std.specs.Prelude.{ℕ, ℤ, Bool, Result, Ok, Err}
use Rattle.heap_slots.specs.Kinds.{ARRAY, BOX, CELL, COROUTINE, DEAD, ERROR, FUNCTION, INTEGER, ITERATOR, MAP, NONE, STRING, STRUCT}
use Rattle.heap_slots.specs.declared.Miss.{Miss}
use Rattle.heap_slots.specs.declared.Miss.TheVariants as F
use Rattle.model.specs.Replies.{Answer, Reply, nothing, number, signed, truth, reference_made, reply, no_memory}
use Rattle.history.proofs.Lift.{Seen}
use Rattle.heap.specs.declared.Refusal.{Refusal}
use Rattle.heap.specs.declared.Refusal.TheVariants as No
use Rattle.heap.specs.declared.Kind.{Kind}
use Rattle.heap.specs.declared.Kind.TheVariants as K

-- document 01, "Who can be turned back"; document 02, (i)
unfoldable pub number_of : Refusal → ℕ
number_of No.NilTarget = 1
number_of No.OtherKind = 2
number_of No.Outside = 3
number_of No.BadType = 4
number_of No.OverBudget = 5
number_of No.NoSlot = 6
number_of No.NoCells = 7
number_of No.TooShort = 8
number_of No.Spent = 9
number_of No.BadOpening = 10
number_of No.DeadReference = 11

-- "returned: the number, no word"
abbrev pub refused : Refusal → Seen
refused q = record { refusal = number_of q; answer = reply nothing; lent = no_memory }

abbrev pub answered : Reply → Seen
answered a = record { refusal = 0; answer = reply a; lent = no_memory }

-- what a call answered, f saying what the value is; or its refusal
unfoldable pub seen_by : {A : Type 0} → (A → Answer) → Result A Refusal → Seen
seen_by f (Ok a) = record { refusal = 0; answer = f a; lent = no_memory }
seen_by f (Err q) = refused q

-- a word or a number read
abbrev pub reading_is : Result ℕ Refusal → Seen
reading_is = seen_by (λ n. reply (number n))

-- an integer object's number
abbrev pub signed_is : Result ℤ Refusal → Seen
signed_is = seen_by (λ z. reply (signed z))

-- yes or no
abbrev pub test_is : Result Bool Refusal → Seen
test_is = seen_by (λ b. reply (truth b))

-- a call that answers no word
abbrev pub done_is : Result Unit Refusal → Seen
done_is = seen_by (λ u. reply nothing)

-- an allocation: the reference made
abbrev pub made_is : Result ℕ Refusal → Seen
made_is = seen_by reference_made

abbrev pub accepted : Result Unit Refusal
accepted = Ok tt

-- "1 .. nil", "11, dead reference", "2 .. a word neither nil nor reference"
unfoldable pub missing : Miss → Refusal
missing F.Nil = No.NilTarget
missing F.Dead = No.DeadReference
missing F.Wrong = No.OtherKind

-- `kind` of heap.rs: nil is 0, an object's kind its row, 12 truth, 13 float, 14 character; document 02, (i): 15 dead reference
unfoldable pub kind_number : Kind → ℕ
kind_number K.Nil = NONE
kind_number K.String = STRING
kind_number K.Integer = INTEGER
kind_number K.Cell = CELL
kind_number K.Error = ERROR
kind_number K.Box = BOX
kind_number K.Array = ARRAY
kind_number K.Map = MAP
kind_number K.Struct = STRUCT
kind_number K.Function = FUNCTION
kind_number K.Iterator = ITERATOR
kind_number K.Coroutine = COROUTINE
kind_number K.Truth = 12
kind_number K.Float = 13
kind_number K.Character = 14
kind_number K.Dead = DEAD
