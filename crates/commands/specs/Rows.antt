-- A row of the table of commands (docs/SCRIPTS.md): number, operands, how the answer is shown, which memory is lent, and what the command does.
use Rattle.std.specs.Prelude.{ℕ, suc, ◌+◌, ◌*◌, Bool, false, cond, ◌||◌, List, [], ◌∷◌, ◌++◌, eqb}
use Rattle.model.specs.Calls.{Call}
use Rattle.model.specs.Opening.{Opening}
use Rattle.commands.specs.declared.Operands.{Operands}
use Rattle.commands.specs.declared.Form.{Form}
use Rattle.commands.specs.declared.Memory.{Memory}

-- b one byte, h two, q eight; c a byte 0 to 7, d a byte 0 to 3; W a count and so many words, S a count and so many bytes, F a count and so many
-- frames of four words
pub data Field : Type 0 where
  b : Field
  h : Field
  q : Field
  c : Field
  d : Field
  W : Field
  S : Field
  F : Field

-- words are fields, captures, registers or roots; frames have four words each; bytes are a string's, or the buffer it is read into; places are those
-- of the list lent to a collection
pub record Lists : Type 0 where
  pub words : List ℕ
  pub frames : List ℕ
  pub bytes : List ℕ
  pub places : List ℕ

-- what a command does: a call, or two, of which the second's word is shown beside the first's answer
pub data Act : Type 0 where
  no_act : Act
  opens_with : Opening → Act
  add_root : ℕ → Act
  make : Call → Act
  make_both : Call → Call → Act

pub record Row : Type 0 where
  pub number : ℕ
  pub fields : List Field
  pub form : Form
  pub memory : Memory
  pub act : Operands → Lists → Act

abbrev pub row : ℕ → List Field → Form → Memory → (Operands → Lists → Act) → Row
row n fields form memory act = record { number = n; fields = fields; form = form; memory = memory; act = act }

-- ---- rows by their number

-- of the first row with the number n
unfoldable pub choose : {A : Type 0} → (Row → A) → A → List Row → ℕ → A
choose f none [] n = none
choose f none (r ∷ rs) n = cond (eqb n r.number) (f r) (choose f none rs n)

unfoldable pub has : List Row → ℕ → Bool
has [] n = false
has (r ∷ rs) n = eqb n r.number || has rs n

unfoldable pub joined : List (List Row) → List Row
joined [] = []
joined (g ∷ gs) = g ++ joined gs

-- the first of the groups that has the number n, counted from k; 0: none has
unfoldable pub group_in : ℕ → List (List Row) → ℕ → ℕ
group_in k [] n = 0
group_in k (g ∷ gs) n = cond (has g n) k (group_in (suc k) gs n)

-- ---- a row as one number: a hexadecimal digit for each operand, the first lowest; then form, memory, and the group of its command

unfoldable pub field_code : Field → ℕ
field_code b = 1
field_code h = 2
field_code q = 3
field_code c = 4
field_code d = 5
field_code W = 6
field_code S = 7
field_code F = 8

unfoldable pub field_at : ℕ → Field
field_at n = cond (eqb n 1) b (cond (eqb n 2) h (cond (eqb n 3) q (cond (eqb n 4) c (cond (eqb n 5) d (cond (eqb n 6) W (cond (eqb n 7) S F))))))

unfoldable pub coded : List Field → ℕ
coded [] = 0
coded (f ∷ fs) = field_code f + 16 * coded fs
