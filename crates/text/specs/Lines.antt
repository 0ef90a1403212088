-- The parts of a line (document 01, the program `callsheet`: "A line holds command, refusal or 0, the word answered .. as 16 hexadecimal digits, used in decimal").
use Rattle.std.specs.Prelude.{ℕ, List, ◌∷◌, ◌++◌}
use Rattle.model.specs.Callsheet.{decimal, digits}

-- what follows the command
unfoldable pub line_fields : ℕ → ℕ → ℕ → List ℕ
line_fields refusal word used = (32 ∷ decimal refusal) ++ (32 ∷ digits 16 16 word) ++ (32 ∷ decimal used)

-- a line without its line feed, for lines with more fields
unfoldable pub line_head : List ℕ → ℕ → ℕ → ℕ → List ℕ
line_head name refusal word used = name ++ (32 ∷ decimal refusal) ++ (32 ∷ digits 16 16 word) ++ (32 ∷ decimal used)
