-- The operands of a command, read from the bytes behind it. None: an operand is missing.
use Rattle.std.specs.Prelude.{ℕ, zero, suc, ◌+◌, ◌-◌, ◌*◌, cond, List, [], ◌∷◌, ◌++◌, leb, length, get_or, take, drop}
use Rattle.std.proofs.Math.Option.{Option, none, some}
use Rattle.model.specs.Callsheet.{little_endian}
use Rattle.commands.specs.declared.Operands.{Operands}
use Rattle.commands.specs.Rows.{Field, b, h, q, c, d, W, S, F}
use Rattle.commands.specs.Table.{fields_of}

-- what is read so far: the numbers; the words of W and F, and how many of them, the last, are of F; the bytes of S; and the bytes left
pub record Parsed : Type 0 where
  pub numbers : List ℕ
  pub words : List ℕ
  pub framed : ℕ
  pub bytes : List ℕ
  pub rest : List ℕ

unfoldable pub unread : List ℕ → Parsed
unread bs = record { numbers = []; words = []; framed = 0; bytes = []; rest = bs }

-- the first n words of the bytes
unfoldable pub words_in : ℕ → List ℕ → List ℕ
words_in zero bs = []
words_in (suc n) bs = little_endian (take 8 bs) ∷ words_in n (drop 8 bs)

unfoldable pub with_number : ℕ → List ℕ → Parsed → Parsed
with_number x bs p = record { numbers = p.numbers ++ (x ∷ []); words = p.words; framed = p.framed; bytes = p.bytes; rest = bs }

unfoldable pub with_words : ℕ → List ℕ → Parsed → Parsed
with_words n bs p = record { numbers = p.numbers; words = p.words ++ words_in n bs; framed = p.framed; bytes = p.bytes; rest = drop (8 * n) bs }

unfoldable pub with_frames : ℕ → List ℕ → Parsed → Parsed
with_frames n bs p = record { numbers = p.numbers; words = p.words ++ words_in (4 * n) bs; framed = p.framed + 4 * n; bytes = p.bytes; rest = drop (32 * n) bs }

unfoldable pub with_bytes : ℕ → List ℕ → Parsed → Parsed
with_bytes n bs p = record { numbers = p.numbers; words = p.words; framed = p.framed; bytes = take n bs; rest = drop n bs }

-- a number of so many bytes, at most so large
unfoldable pub take_number : ℕ → ℕ → Parsed → Option Parsed
take_number size most p =
    let x = little_endian (take size p.rest) in
    cond (leb size (length p.rest)) (cond (leb x most) (some (with_number x (drop size p.rest) p)) none) none

-- a count, and so many items of so many bytes
unfoldable pub take_list : ℕ → (ℕ → List ℕ → Parsed → Parsed) → Parsed → Option Parsed
take_list size more p =
    let n = little_endian (take 8 p.rest) in
    let bs = drop 8 p.rest in
    cond (leb 8 (length p.rest)) (cond (leb (size * n) (length bs)) (some (more n bs p)) none) none

unfoldable pub parse_field : Field → Parsed → Option Parsed
parse_field b p = take_number 1 255 p
parse_field h p = take_number 2 65535 p
parse_field q p = take_number 8 18446744073709551615 p
parse_field c p = take_number 1 7 p
parse_field d p = take_number 1 3 p
parse_field W p = take_list 8 with_words p
parse_field S p = take_list 1 with_bytes p
parse_field F p = take_list 32 with_frames p

unfoldable pub and_then : Option Parsed → (Parsed → Option Parsed) → Option Parsed
and_then none k = none
and_then (some p) k = k p

unfoldable pub parse : List Field → Parsed → Option Parsed
parse [] p = some p
parse (f ∷ fs) p = and_then (parse_field f p) (λ r. parse fs r)

unfoldable pub parse_by : Option (List Field) → List ℕ → Option Parsed
parse_by none bs = none
parse_by (some fs) bs = parse fs (unread bs)

-- the command n with the bytes behind it
unfoldable pub parse_call : ℕ → List ℕ → Option Parsed
parse_call n bs = parse_by (fields_of n) bs

-- ---- a command as its call takes it

-- the numbers in order; what a command does not have is 0
unfoldable pub operands_of : List ℕ → Operands
operands_of ns = record { a = get_or ns 0 0; b = get_or ns 1 0; c = get_or ns 2 0; d = get_or ns 3 0; e = get_or ns 4 0; f = get_or ns 5 0; g = get_or ns 6 0; h = get_or ns 7 0 }

pub record Called : Type 0 where
  pub operands : Operands
  pub words : List ℕ
  pub frames : List ℕ
  pub bytes : List ℕ
  pub rest : List ℕ

unfoldable pub called_of : Parsed → Called
called_of p =
    let n = length p.words - p.framed in
    record { operands = operands_of p.numbers; words = take n p.words; frames = drop n p.words; bytes = p.bytes; rest = p.rest }

unfoldable pub as_called : Option Parsed → Option Called
as_called none = none
as_called (some p) = some (called_of p)

-- none: an unknown command, or a missing operand
unfoldable pub called_by : ℕ → List ℕ → Option Called
called_by n bs = as_called (parse_call n bs)
