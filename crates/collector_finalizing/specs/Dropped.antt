-- F, as the slots and the marks have it (document 01, "Kept set": "the yielded or awaiting, unfinalized coroutines outside R").
use Rattle.std.specs.Prelude.{◌≡◌, Bool, cond, ◌&&◌, ◌||◌, List, [], ◌∷◌, ℕ, zero, suc, ◌*◌, ◌%◌, ◌≤◌, ◌<◌, eqb, ltb, length, get_or, set, take, drop, replicate, Result, Ok, Err}
use Rattle.heap_slots.specs.Header.{header_at}
use Rattle.heap_slots.specs.Limits.{HALF_END, SLOT_WORDS, SLOTS_MAX, SPAN}
use Rattle.heap_slots.specs.Kinds.{COROUTINE}
use Rattle.heap_slots.specs.Scalars.{coroutine_part, scalars_at}
use Rattle.layout.specs.Layout.{Layout}
use Rattle.model.specs.Replies.{written}
use Rattle.collector_marking.specs.Reach.{phase}
use Rattle.collector_marking.specs.Children.{hit, children, word_at}
use Rattle.collector_marking.specs.Marks.{Scanned}
use Rattle.heap.specs.Answers.{number_of}
use Rattle.heap.specs.declared.Refusal.{Refusal}
use Rattle.collector_finalizing.specs.declared.Kept.{Kept}
use Rattle.collector_finalizing.specs.Order.{seq_of, sort_words}

-- slot i holds a coroutine of state 2 or 3 that is not finalized
unfoldable pub waits : List ℕ → List ℕ → ℕ → Bool
waits s x i = eqb (header_at s i).kind COROUTINE && ((eqb (header_at s i).mode 2 || eqb (header_at s i).mode 3) && eqb (coroutine_part (scalars_at x i)).finalized 0)

-- and is not marked
unfoldable pub is_dropped : List ℕ → List ℕ → List ℕ → ℕ → Bool
is_dropped s x m i = eqb (get_or m i 0) 0 && waits s x i

-- the references of the slots for which P holds, from slot i on, f slots
unfoldable pub sieve : (ℕ → Bool) → (ℕ → ℕ) → ℕ → ℕ → List ℕ
sieve P word zero i = []
sieve P word (suc f) i = let rest = sieve P word f (suc i) in cond (P i) (word i ∷ rest) rest

-- those of the first n slots, from low to high
abbrev pub dropped_slots : List ℕ → List ℕ → List ℕ → ℕ → List ℕ
dropped_slots s x m n = sieve (is_dropped s x m) (word_at s) n 0

-- the marks of R, F by (sequence, word), and the marks of all that is kept
abbrev pub marks_of : Layout → List ℕ → List ℕ → List ℕ → ℕ → List ℕ → List ℕ → List ℕ
marks_of l s x c n ws m = phase n (hit s n) (children l s x c) ws m

abbrev pub marks_reached : Layout → List ℕ → List ℕ → List ℕ → ℕ → List ℕ → List ℕ
marks_reached l s x c n roots = marks_of l s x c n roots (replicate n 0)

unfoldable pub dropped_words : Layout → List ℕ → List ℕ → List ℕ → ℕ → List ℕ → List ℕ
dropped_words l s x c n roots = sort_words (seq_of s) (dropped_slots s x (marks_reached l s x c n roots) n)

unfoldable pub marks_kept : Layout → List ℕ → List ℕ → List ℕ → ℕ → List ℕ → List ℕ
marks_kept l s x c n roots = marks_of l s x c n (dropped_words l s x c n roots) (marks_reached l s x c n roots)

-- "F becomes finalized": the scalar a of each named slot is 1
unfoldable pub finalized_in : List ℕ → List ℕ → List ℕ
finalized_in [] x = x
finalized_in (w ∷ ws) x = finalized_in ws (set x (w % SPAN * SLOT_WORDS) 1)

-- the first n slots, with their marks
pub record Listable (s x m : List ℕ) (n : ℕ) : Type 0 where
  pub few : n ≤ SLOTS_MAX
  pub slots_fit : n * SLOT_WORDS ≤ length s
  pub scalars_fit : n * SLOT_WORDS ≤ length x
  pub len : length m ≡ n
  pub halves : (i : ℕ) → i < n → (header_at s i).half < HALF_END

-- the words fill the list's first places
pub record Fills (ws l l' : List ℕ) : Type 0 where
  pub is : l' ≡ written ws l

-- as many zeros as there are words, from place k of the order on
abbrev pub Blank : List ℕ → ℕ → ℕ → Type 0
Blank o k f = take f (drop k o) ≡ replicate f 0

-- at rest: no slot is marked, and the order's places, two for each slot, hold 0
pub record Blanks (n : ℕ) (m o : List ℕ) : Type 0 where
  pub marks : m ≡ replicate n 0
  pub room : n * 2 ≤ length o
  pub order : (i : ℕ) → i < n * 2 → get_or o i 0 ≡ 0

-- the lent list is too short: nothing has changed
pub record TooFew (f : List ℕ) (m o p m' o' p' : List ℕ) : Type 0 where
  pub short : length p < length f
  pub marks : m' ≡ m
  pub order : o' ≡ o
  pub places : p' ≡ p

-- F is listed, and all that is kept is marked
pub record AllKept (s : List ℕ) (n : ℕ) (f kept o p m' o' p' : List ℕ) (listed marked : ℕ) : Type 0 where
  pub count : listed ≡ length f
  pub fits : length f ≤ length p
  pub marks : m' ≡ kept
  pub places : p' ≡ written f p
  pub scanned : Scanned s n o 0 m' o' marked

-- document 01's number, and how many coroutines are listed
pub record ListAnswer : Type 0 where
  pub refusal : ℕ
  pub listed : ℕ

abbrev pub kept_is : Result Kept Refusal → ListAnswer
kept_is (Ok k) = record { refusal = 0; listed = k.listed }
kept_is (Err q) = record { refusal = number_of q; listed = 0 }

-- "8 lent list shorter than F": f is F, p the lent list
abbrev pub list_answer : List ℕ → List ℕ → ListAnswer
list_answer f p = record { refusal = cond (ltb (length p) (length f)) 8 0; listed = cond (ltb (length p) (length f)) 0 (length f) }

abbrev pub KeptBy : Result Kept Refusal → List ℕ → ℕ → List ℕ → List ℕ → List ℕ → List ℕ → List ℕ → List ℕ → List ℕ → List ℕ → Type 0
KeptBy (Ok k) s n f kept m o p m' o' p' = AllKept s n f kept o p m' o' p' k.listed k.marked
KeptBy (Err q) s n f kept m o p m' o' p' = TooFew f m o p m' o' p'

pub record Keeps (r : Result Kept Refusal) (s : List ℕ) (n : ℕ) (f kept m o p m' o' p' : List ℕ) : Type 0 where
  pub answer : kept_is r ≡ list_answer f p
  pub leaves : KeptBy r s n f kept m o p m' o' p'
