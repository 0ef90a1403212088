-- What the readers of operands promise. None: an operand is missing.
use Rattle.std.specs.Prelude.{ℕ, ◌+◌, ◌-◌, ◌*◌, ◌≤◌, ◌<◌, ◌≡◌, cond, ◌&&◌, List, ◌++◌, leb, length, get_or, take, drop, Option, None, Some, IfSome}
use Rattle.std.proofs.Math.Option as maybe
use Rattle.std.proofs.Math.Option.{none, some}
use Rattle.model.specs.Callsheet.{little_endian}
use Rattle.script.specs.declared.Command.{Command}
use Rattle.script.specs.declared.Reader.{Reader}
use Rattle.script.specs.Parse.{Called, Parsed, called_by}

-- all places lie inside the input and the lent words; the words left suffice for the bytes left
pub record Room (input words : List ℕ) (t : Reader) : Type 0 where
  pub inside : t.at ≤ length input
  pub room : t.words * 8 + (length input - t.at) ≤ 8 * length words
  pub framed : t.framed ≤ t.words
  pub bytes : t.from ≤ t.to
  pub within : t.to ≤ length input

-- what is read so far stands in the buffers
pub record Holds (input ns ws : List ℕ) (t : Reader) (p : Parsed) : Type 0 where
  pub numbers : (i : ℕ) → get_or ns i 0 ≡ get_or p.numbers i 0
  pub count : t.count ≡ length p.numbers
  pub words : take t.words ws ≡ p.words
  pub framed : t.framed ≡ p.framed
  pub bytes : take (t.to - t.from) (drop t.from input) ≡ p.bytes
  pub rest : drop t.at input ≡ p.rest

abbrev pub Parses : List ℕ → List ℕ → List ℕ → Option Reader → maybe.Option Parsed → Type 0
Parses input numbers words r none = r ≡ None
Parses input numbers words r (some p) = (t : Reader) × (r ≡ Some t) × Holds input numbers words t p

-- from t to r: what lay inside does, at most one number is more, and no place is before
pub record Steps (input words : List ℕ) (t : Reader) (words' : List ℕ) (r : Reader) : Type 0 where
  pub room : Room input words t → Room input words' r
  pub few : r.count ≤ t.count + 1
  pub onward : t.at ≤ r.at

-- a step from t that reads what the definition reads
pub record Takes (reads : Parsed → maybe.Option Parsed) (input numbers words : List ℕ) (t : Reader) (numbers' words' : List ℕ) (r : Option Reader) : Type 0 where
  pub steps : IfSome r (λ s. Steps input words t words' s)
  pub parses : (p : Parsed) → Holds input numbers words t p → Parses input numbers' words' r (reads p)

-- a count, if so many items of so many bytes stand behind it
unfoldable pub counted : ℕ → List ℕ → Option ℕ
counted size bs = let n = little_endian (take 8 bs) in cond (leb 8 (length bs) && leb (size * n) (length (drop 8 bs))) (Some n) None

-- n words from a place of the input, put behind those that stand in the buffer
pub record Fills (more ws : List ℕ) (filled n : ℕ) (ws' : List ℕ) (r : ℕ) : Type 0 where
  pub size : length ws' ≡ length ws
  pub ends : r ≡ filled + n
  pub words : take r ws' ≡ take filled ws ++ more

-- the call that stands in the buffers
abbrev pub called_as : List ℕ → List ℕ → Command → Called
called_as input words r = record { operands = r.operands; words = take r.words words; frames = take r.frames (drop r.words words); bytes = take (r.to - r.from) (drop r.from input); rest = drop r.next input }

unfoldable pub called_is : List ℕ → List ℕ → Option Command → maybe.Option Called
called_is input words None = none
called_is input words (Some r) = some (called_as input words r)

-- a command that was read at a place lies inside the input and the words
pub record Placed (input : List ℕ) (at room : ℕ) (k : Command) : Type 0 where
  pub onward : at < k.next
  pub within : k.next ≤ length input
  pub words : k.words + k.frames ≤ room
  pub bytes : k.from ≤ k.to
  pub inside : k.to ≤ length input

pub record Reads (input : List ℕ) (at : ℕ) (ws : List ℕ) (r : Option Command) : Type 0 where
  pub is : called_is input ws r ≡ called_by (get_or input at 0) (drop (at + 1) input)
  pub placed : IfSome r (λ k. Placed input at (length ws) k)
