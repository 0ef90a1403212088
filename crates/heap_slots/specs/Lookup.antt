-- Which slot a word reaches (document 01, `get`: "needs equal tag and a present object"; refusals 1 and 2; document 02, (i), 11).
use Rattle.std.specs.Prelude.{ℕ, ◌+◌, ◌*◌, ◌/◌, ◌%◌, ◌≤◌, ◌<◌, ◌≡◌, Bool, cond, not, ◌&&◌, ◌||◌, List, get_or, eqb, ltb, leb, Result, Ok, Err}
use Rattle.heap_slots.specs.Header.{header_at}
use Rattle.heap_slots.specs.Kinds.{NONE}
use Rattle.heap_slots.specs.Limits.{HALF, HALF_END, SLOT_WORDS, SPAN}
use Rattle.heap_slots.specs.declared.Miss.{Miss}
use Rattle.heap_slots.specs.declared.Miss.TheVariants.{Dead, Nil, Wrong}
use Rattle.words.specs.Word.{by_kind, decode_word}

-- what a word that reaches no object is, by its upper half
unfoldable pub missed : ℕ → Miss
missed u = cond (leb HALF_END u) Wrong (cond (leb HALF u) Dead (cond (eqb u 1) Wrong (cond (eqb u 2) Wrong Nil)))

-- the code's order: the hit first
unfoldable pub hit_first : List ℕ → ℕ → ℕ → Result ℕ Miss
hit_first s n w =
    cond (ltb (w % SPAN) n)
    (cond (eqb (get_or s (w % SPAN * SLOT_WORDS) 0) (w / SPAN))
    (cond (eqb (get_or s (w % SPAN * SLOT_WORDS + 1) 0) NONE) (Err (missed (w / SPAN))) (Ok (w % SPAN)))
    (Err (missed (w / SPAN))))
    (Err (missed (w / SPAN)))

-- the number of each case: "1 .. nil", "11, dead reference", "2 .. a word neither nil nor reference"
unfoldable pub found_number : Result ℕ Miss → ℕ
found_number (Ok i) = 0
found_number (Err Nil) = 1
found_number (Err Dead) = 11
found_number (Err Wrong) = 2

-- one of the first n slots has an object and the word's upper half
unfoldable pub hits : List ℕ → ℕ → ℕ → Bool
hits s n w = ltb (w % SPAN) n && (eqb (get_or s (w % SPAN * SLOT_WORDS) 0) (w / SPAN) && not (eqb (get_or s (w % SPAN * SLOT_WORDS + 1) 0) NONE))

-- where nothing is hit, by the word's upper half: 11 for references, 1 for nil
unfoldable pub miss_number : ℕ → ℕ
miss_number u = cond (leb HALF_END u) 2 (cond (leb HALF u) 11 (cond (eqb u 1 || eqb u 2) 2 1))

pub record Finds (s : List ℕ) (n w : ℕ) (f : Result ℕ Miss) : Type 0 where
  pub is : f ≡ hit_first s n w
  pub number : found_number f ≡ cond (hits s n w) 0 (miss_number (w / SPAN))

-- a reference to a slot with this tag: the object there, if there is one and the tag is its own
unfoldable pub reached_in : List ℕ → ℕ → ℕ → ℕ → Result ℕ Miss
reached_in s n slot tag = cond (ltb slot n) (cond (eqb (header_at s slot).half (HALF + tag)) (cond (eqb (header_at s slot).kind NONE) (Err Dead) (Ok slot)) (Err Dead)) (Err Dead)

-- document 01's order: by what the word reads as
unfoldable pub found_by : List ℕ → ℕ → ℕ → Result ℕ Miss
found_by s n w = by_kind (Err Nil) (λ b. Err Wrong) (λ z. Err Wrong) (λ x. Err Wrong) (λ k. Err Wrong) (λ slot tag. reached_in s n slot tag) (decode_word w)

-- the first word of a present object's slot is the upper half of a reference
pub record Halves (s : List ℕ) (n : ℕ) : Type 0 where
  pub low : (i : ℕ) → i < n → ((header_at s i).kind ≡ NONE → ⊥) → HALF ≤ (header_at s i).half
  pub high : (i : ℕ) → i < n → ((header_at s i).kind ≡ NONE → ⊥) → (header_at s i).half < HALF_END
