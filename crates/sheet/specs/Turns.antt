-- One command of the program `callsheet` (document 01): what it prints, the sheet afterwards, and the input left.
use Rattle.std.specs.Prelude.{ℕ, ◌≤◌, ◌≡◌, List, [], length, drop, Option, Some, None}
use Rattle.std.proofs.Math.Option as Model
use Rattle.model.specs.Callsheet.{Sheet, commanded, operand_bytes, present_operands, sheet_from, unknown}
use Rattle.sheet.specs.declared.Command.{Command}
use Rattle.sheet.specs.declared.Command.TheVariants as Commanded

-- the byte of a command
unfoldable pub code_of : Command → ℕ
code_of Commanded.NewBox = 0x01
code_of Commanded.NewArray = 0x02
code_of Commanded.ReadBox = 0x06
code_of Commanded.Root = 0x0B
code_of Commanded.Collect = 0x0C

-- how many bytes of operands follow a command; none: an unknown command, or a missing operand
unfoldable pub operands_is : Option Command → Model.Option ℕ
operands_is (Some k) = operand_bytes (code_of k)
operands_is None = Model.none

-- the operands of a command that has any stand in the bytes
abbrev pub Supplied : ℕ → List ℕ → Type 0
Supplied c bs = (n : ℕ) → operand_bytes c ≡ Model.some n → n ≤ length bs

pub record Turned : Type 0 where
  pub text : List ℕ
  pub next : Sheet
  pub rest : List ℕ

-- "an unknown command or missing operand prints `?? 4`, zeros, used, and ends": no input is left
unfoldable pub turn_by : Sheet → ℕ → List ℕ → Model.Option ℕ → Turned
turn_by s c bs Model.none = record { text = unknown s; next = s; rest = [] }
turn_by s c bs (Model.some n) = record { text = (commanded s c bs).text; next = (commanded s c bs).next; rest = drop n bs }

-- the command c with the bytes behind it
unfoldable pub turn_of : Sheet → ℕ → List ℕ → Turned
turn_of s c bs = turn_by s c bs (present_operands (length bs) (operand_bytes c))

-- the text of all commands in the bytes
unfoldable pub text_from : Sheet → List ℕ → List ℕ
text_from s bs = sheet_from (length bs) s bs
