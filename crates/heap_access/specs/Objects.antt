-- What comes of a call on one object: at the slot of the object that the word reaches, or the refusal (document 01, refusals 1 and 2).
use Rattle.std.specs.Prelude.{ℕ, ◌+◌, ◌*◌, ◌≤◌, ◌<◌, ◌≡◌, cond, List, ltb, get_or, length, set, Result, Ok, Err}
use Rattle.heap_slots.specs.Header.{header_at}
use Rattle.heap_slots.specs.Limits.{CELLS_MAX, SLOT_WORDS, SLOTS_MAX}
use Rattle.heap_slots.specs.Kinds.{COROUTINE}
use Rattle.heap_slots.specs.declared.Header.{Header}
use Rattle.model.specs.declared.Frame.{Frame}
use Rattle.heap.specs.Answers.{accepted}
use Rattle.heap.specs.Locating.{located_in}
use Rattle.heap.specs.declared.Refusal.{Refusal}
use Rattle.heap.specs.declared.Refusal.TheVariants.{Outside}

unfoldable pub at_object : {A : Type 0} → (Refusal → A) → (ℕ → A) → Result ℕ Refusal → A
at_object none here (Ok i) = here i
at_object none here (Err q) = none q

-- the object of this kind that w reaches, among the first n slots
pub record OnObject {A : Type 0} (s : List ℕ) (n w kind : ℕ) (none : Refusal → A) (here : ℕ → A) (r : A) : Type 0 where
  pub is : r ≡ at_object none here (located_in s n w kind)

-- ---- readings

-- its header
abbrev pub ReadsHeader : List ℕ → ℕ → ℕ → ℕ → Result Header Refusal → Type 0
ReadsHeader s n w kind r = OnObject s n w kind Err (λ i. Ok (header_at s i)) r

-- word k of a coroutine's scalars
abbrev pub ReadsScalar : List ℕ → List ℕ → ℕ → ℕ → ℕ → Result ℕ Refusal → Type 0
ReadsScalar s x n w k r = OnObject s n w COROUTINE Err (λ i. Ok (get_or x (i * SLOT_WORDS + k) 0)) r

-- the words of the objects of this kind lie in the cells
pub record WordsFit (s c : List ℕ) (n kind : ℕ) : Type 0 where
  pub slots_max : n ≤ SLOTS_MAX
  pub slots_fit : n * SLOT_WORDS ≤ length s
  pub cells_max : length c ≤ CELLS_MAX
  pub inside : (i : ℕ) → i < n → (header_at s i).kind ≡ kind → (header_at s i).start + (header_at s i).len ≤ length c

-- word k of the object's own: an item, a field, a capture, a register
unfoldable pub word_at : Header → List ℕ → ℕ → Result ℕ Refusal
word_at h c k = cond (ltb k h.len) (Ok (get_or c (h.start + k) 0)) (Err Outside)

abbrev pub ReadsWord : List ℕ → List ℕ → ℕ → ℕ → ℕ → ℕ → Result ℕ Refusal → Type 0
ReadsWord s c n w kind k r = OnObject s n w kind Err (λ i. word_at (header_at s i) c k) r

-- the frame in the four cells from p on
abbrev pub frame_of : List ℕ → ℕ → Frame
frame_of c p = record { function = get_or c p 0; counter = get_or c (p + 1) 0; base = get_or c (p + 2) 0; closure = get_or c (p + 3) 0 }

-- ---- stores

-- the answer, and the buffer afterwards
pub record Write : Type 0 where
  pub done : Result Unit Refusal
  pub words : List ℕ

abbrev pub write : Result Unit Refusal → List ℕ → Write
write r ws = record { done = r; words = ws }

-- word k of the header
abbrev pub StoresHeader : List ℕ → ℕ → ℕ → ℕ → ℕ → ℕ → Result Unit Refusal → List ℕ → Type 0
StoresHeader s n w kind k v r s' = OnObject s n w kind (λ q. write (Err q) s) (λ i. write accepted (set s (i * SLOT_WORDS + k) v)) (write r s')

-- word k of a coroutine's scalars
abbrev pub StoresScalar : List ℕ → List ℕ → ℕ → ℕ → ℕ → ℕ → Result Unit Refusal → List ℕ → Type 0
StoresScalar s x n w k v r x' = OnObject s n w COROUTINE (λ q. write (Err q) x) (λ i. write accepted (set x (i * SLOT_WORDS + k) v)) (write r x')

-- word k of the object's own
unfoldable pub write_word : Header → List ℕ → ℕ → ℕ → Write
write_word h c k v = cond (ltb k h.len) (write accepted (set c (h.start + k) v)) (write (Err Outside) c)

abbrev pub StoresWord : List ℕ → List ℕ → ℕ → ℕ → ℕ → ℕ → ℕ → Result Unit Refusal → List ℕ → Type 0
StoresWord s c n w kind k v r c' = OnObject s n w kind (λ q. write (Err q) c) (λ i. write_word (header_at s i) c k v) (write r c')
