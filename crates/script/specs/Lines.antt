-- The line of a command (docs/SCRIPTS.md): command, refusal, word, used, what is answered beside the word, and the memory lent, after the call.
use Rattle.std.specs.Prelude.{ℕ, cond, List, [], ◌∷◌, ◌++◌, eqb, take}
use Rattle.model.specs.Callsheet.{decimal, digits}
use Rattle.text.specs.Lines.{line_head}
use Rattle.answers.specs.declared.Shown.{Shown}
use Rattle.commands.specs.declared.Operands.{Operands}
use Rattle.script.specs.declared.lines.FieldForm.{FieldForm}
use Rattle.script.specs.declared.lines.FieldForm.TheVariants.{Absent, Decimal, Hexadecimal}
use Rattle.script.specs.declared.lines.Forms.{Forms}
use Rattle.commands.specs.declared.Form.{Form}
use Rattle.commands.specs.declared.Form.TheVariants.{WordAlone, Second, EntryFields, FrameFields, IteratorCursor, LentCursor}
use Rattle.commands.specs.declared.Memory.{Memory}
use Rattle.commands.specs.declared.Memory.TheVariants.{Own, Buffer, Places, Roots}

-- how x, y, z, u and v are shown
abbrev pub forms : FieldForm → FieldForm → FieldForm → FieldForm → FieldForm → Forms
forms x y z u v = record { x = x; y = y; z = z; u = u; v = v }

unfoldable pub accepted_forms : Form → ℕ → Forms
accepted_forms WordAlone x = forms Absent Absent Absent Absent Absent
accepted_forms Second x = forms Decimal Absent Absent Absent Absent
accepted_forms EntryFields x = forms Hexadecimal Hexadecimal Decimal Decimal Absent
accepted_forms FrameFields x = forms Decimal Decimal Hexadecimal Absent Absent
accepted_forms IteratorCursor x = cond (eqb x 7) (forms Decimal Decimal Decimal Decimal Absent) (forms Decimal Absent Absent Absent Absent)
accepted_forms LentCursor x = forms Decimal Decimal Decimal Decimal Decimal

-- a refused call shows lent memory alone
unfoldable pub refused_forms : Form → Forms
refused_forms WordAlone = forms Absent Absent Absent Absent Absent
refused_forms Second = forms Absent Absent Absent Absent Absent
refused_forms EntryFields = forms Absent Absent Absent Absent Absent
refused_forms FrameFields = forms Absent Absent Absent Absent Absent
refused_forms IteratorCursor = forms Absent Absent Absent Absent Absent
refused_forms LentCursor = forms Decimal Decimal Decimal Decimal Decimal

unfoldable pub forms_of : Form → ℕ → ℕ → Forms
forms_of f refusal x = cond (eqb refusal 0) (accepted_forms f x) (refused_forms f)

-- the cursor's last sequence number as it was lent where nothing was yielded
unfoldable pub with_last : ℕ → Shown → Shown
with_last last s = record { refusal = s.refusal; word = s.word; x = s.x; y = s.y; z = cond (eqb s.y 0) last s.z; u = s.u; v = s.v }

unfoldable pub adjusted : Form → Operands → Shown → Shown
adjusted WordAlone o s = s
adjusted Second o s = s
adjusted EntryFields o s = s
adjusted FrameFields o s = s
adjusted IteratorCursor o s = s
adjusted LentCursor o s = with_last o.c s

unfoldable pub field_text : FieldForm → ℕ → List ℕ
field_text Absent w = []
field_text Decimal w = 32 ∷ decimal w
field_text Hexadecimal w = 32 ∷ digits 16 16 w

unfoldable pub extra_text : Forms → Shown → List ℕ
extra_text f s = field_text f.x s.x ++ (field_text f.y s.y ++ (field_text f.z s.z ++ (field_text f.u s.u ++ field_text f.v s.v)))

-- a lent list
unfoldable pub list_text : List ℕ → List ℕ
list_text [] = []
list_text (w ∷ ws) = (32 ∷ digits 16 16 w) ++ list_text ws

unfoldable pub hex_text : List ℕ → List ℕ
hex_text [] = []
hex_text (n ∷ ns) = digits 16 2 n ++ hex_text ns

-- a lent buffer; `-` if it is empty
unfoldable pub buffer_text : List ℕ → List ℕ
buffer_text [] = 32 ∷ 45 ∷ []
buffer_text (n ∷ ns) = 32 ∷ hex_text (n ∷ ns)

-- the lent buffer, the whole list, or what is listed of the roots' collection
unfoldable pub lent_text : Memory → Shown → List ℕ → List ℕ → List ℕ
lent_text Own s places bytes = []
lent_text Buffer s places bytes = buffer_text bytes
lent_text Places s places bytes = list_text places
lent_text Roots s places bytes = list_text (take s.x places)

-- the line of the command n: used after it, places and bytes the memory lent, after the call
unfoldable pub line_text : ℕ → Form → Memory → Shown → ℕ → List ℕ → List ℕ → List ℕ
line_text n f e s used places bytes = line_head (digits 16 2 n) s.refusal s.word used ++ (extra_text (forms_of f s.refusal s.x) s ++ (lent_text e s places bytes ++ (10 ∷ [])))
