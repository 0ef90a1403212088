-- What reading one command of a layout's bytes gives. Assumes nothing.
use Rattle.std.specs.Prelude.{◌≡◌, ℕ, ◌/◌, ◌%◌, ◌<◌, ◌≤◌, Bool, true, leb, List, [], ◌∷◌, ◌++◌, length, get_or, Option, Some, None}
use Rattle.std.specs.Borrow.{Bor}
use Rattle.layout.specs.Sections.{operand_bytes, begin_of}
use Rattle.layout.specs.declared.Entry.{Entry}
use Rattle.layout.specs.declared.Entry.TheVariants.{Field, Register, Capture}
use Rattle.layout.specs.declared.Command.{Command}
use Rattle.layout.specs.declared.Command.TheVariants.{End, Begins, Lists}

-- the lower byte first
abbrev pub u16_bytes : ℕ → List ℕ
u16_bytes n = n % 256 ∷ n / 256 ∷ []

-- a command as bytes
abbrev pub bytes_of : Command → List ℕ
bytes_of End = 0 ∷ []
bytes_of (Begins k) = begin_of k ∷ []
bytes_of (Lists Field n) = 2 ∷ u16_bytes n
bytes_of (Lists Register n) = 4 ∷ u16_bytes n
bytes_of (Lists Capture n) = 5 ∷ n ∷ []

-- no command: the first byte is none, or its operand is cut short
abbrev pub Unread : List ℕ → Type 0
Unread bs = 0 < length bs → get_or bs 0 0 < 6 → length bs ≤ operand_bytes (get_or bs 0 0)

-- the first command, and what stands after it
abbrev pub Reads : List ℕ → Option (Command × Bor (List ℕ)) → Type 0
Reads bs None = Unread bs
Reads bs (Some read) = bs ≡ bytes_of read.0 ++ read.1.now

-- whether the number may be listed as such an entry
abbrev pub takes : Entry → ℕ → Bool
takes Field n = true
takes Register n = true
takes Capture n = leb n 2
