-- The rows of the code, each packed into one number. Assumes nothing.
use Prim.Native.Nat.{ℕ, zero, suc, ◌+◌, ◌*◌, ◌/◌, ◌%◌, ◌≤◌, ◌<◌}
use mathlib.Core.Path.{◌≡◌, refl, sym, ap, ◌∙◌}
use mathlib.Core.Bool.{Bool, true, false}
use mathlib.Core.List.{List, [], ◌∷◌}
use mathlib.Core.Option.{none, some}
use native.Mathlib.Omega.{arith}
use native.Mathlib.Nat.{add-suc, add-zero, le_of_suc-le-suc, not-suc-le-zero, suc-add, zero-add}
use lib.Dec.{T, ltb, ltb→lt}
use lib.ListN.{get_or}
use Rattle.history.proofs.Facts.{eqb_no}
use Rattle.commands.specs.declared.Shape.{Shape}
use Rattle.commands.specs.declared.Form.{Form}
use Rattle.commands.specs.declared.Form.TheVariants.{WordAlone, Second, EntryFields, FrameFields, IteratorCursor, LentCursor}
use Rattle.commands.specs.declared.Memory.{Memory}
use Rattle.commands.specs.declared.Memory.TheVariants.{Own, Buffer, Places, Roots}
use Rattle.commands.specs.Rows.{Row, choose, coded, field_code, group_in, has, joined}
use Rattle.commands.specs.Table.{fields_code, fields_of, form_at, form_of, group_of, memory_at, memory_of, shape_of, table, coroutine_rows, groups, grow_rows, heap_rows, iterator_rows, lent_rows, list_rows, map_change_rows, map_number_rows, map_rows, new_list_rows, new_rows, plain_rows, session_rows, store_rows, word_rows}
use Rattle.commands.proofs.RowLaws.{both, both_left, both_right, choose-none, has-none}

unfoldable pub form_code : Form → ℕ
form_code WordAlone = 0
form_code Second = 1
form_code EntryFields = 2
form_code FrameFields = 3
form_code IteratorCursor = 4
form_code LentCursor = 5

unfoldable pub memory_code : Memory → ℕ
memory_code Own = 0
memory_code Buffer = 1
memory_code Places = 2
memory_code Roots = 3

form_back : (f : Form) → form_at (form_code f) ≡ f
unfolding form_at form_code
form_back WordAlone = refl
form_back Second = refl
form_back EntryFields = refl
form_back FrameFields = refl
form_back IteratorCursor = refl
form_back LentCursor = refl

memory_back : (e : Memory) → memory_at (memory_code e) ≡ e
unfolding memory_at memory_code
memory_back Own = refl
memory_back Buffer = refl
memory_back Places = refl
memory_back Roots = refl

form_range : (f : Form) → form_code f < 16
unfolding form_code
form_range WordAlone = omega arith
form_range Second = omega arith
form_range EntryFields = omega arith
form_range FrameFields = omega arith
form_range IteratorCursor = omega arith
form_range LentCursor = omega arith

memory_range : (e : Memory) → memory_code e < 16
unfolding memory_code
memory_range Own = omega arith
memory_range Buffer = omega arith
memory_range Places = omega arith
memory_range Roots = omega arith

unfoldable pub packed : ℕ → ℕ → ℕ → ℕ → ℕ
packed fields form memory group = fields + (68719476736 * form + (1099511627776 * memory + 17592186044416 * group))

-- the row of the command n
unfoldable pub row_of : ℕ → ℕ
row_of n = packed (fields_code (fields_of n)) (form_code (form_of n)) (memory_code (memory_of n)) (group_of n)

-- the rows of k commands from n on
unfoldable pub rows_from : ℕ → ℕ → List ℕ
rows_from n zero = []
rows_from n (suc k) = row_of n ∷ rows_from (suc n) k

row_at : (n k i : ℕ) → i < k → get_or (rows_from n k) i 0 ≡ row_of (n + i)
unfolding rows_from
row_at n zero i l = absurd (not-suc-le-zero l)
row_at n (suc k) zero l = ap row_of (sym (add-zero n))
row_at n (suc k) (suc i) l = row_at (suc n) k i (le_of_suc-le-suc l) ∙ ap row_of (suc-add n i ∙ sym (add-suc n i))

-- the operands of k commands from n on have nine digits at most
short : ℕ → ℕ → Bool
short n zero = true
short n (suc k) = both (ltb (fields_code (fields_of n)) 68719476736) (short (suc n) k)

short-at : (n k i : ℕ) → T (short n k) → i < k → fields_code (fields_of (n + i)) < 68719476736
unfolding short
short-at n zero i t l = absurd (not-suc-le-zero l)
short-at n (suc k) zero t l = rw (add-zero n) (ltb→lt (fields_code (fields_of n)) 68719476736 (both_left (ltb (fields_code (fields_of n)) 68719476736) (short (suc n) k) t))
short-at n (suc k) (suc i) t l = rw (add-suc n i ∙ sym (suc-add n i)) (short-at (suc n) k i (both_right (ltb (fields_code (fields_of n)) 68719476736) (short (suc n) k) t) (le_of_suc-le-suc l))

all_short : T (short 0 103)
unfolding short fields_of fields_code table joined choose coded field_code groups session_rows word_rows plain_rows list_rows coroutine_rows map_rows map_number_rows iterator_rows heap_rows new_rows store_rows grow_rows map_change_rows new_list_rows lent_rows
all_short = tt

abbrev pub shaped : ℕ → Form → Memory → ℕ → Shape
shaped fields form memory group = record { fields = fields; form = form; memory = memory; group = group }

shape_same : {a a' d d' : ℕ} {b b' : Form} {c c' : Memory} → a ≡ a' → b ≡ b' → c ≡ c' → d ≡ d' → shaped a b c d ≡ shaped a' b' c' d'
shape_same p q r s = rw (p, q, r, s)

unpacked : (x f : ℕ) (a : Form) (e : Memory) (g : ℕ) → f < 68719476736 → x ≡ packed f (form_code a) (memory_code e) g → shaped (x % 68719476736) (form_at (x / 68719476736 % 16)) (memory_at (x / 1099511627776 % 16)) (x / 17592186044416) ≡ shaped f a e g
unfolding packed
unpacked x f a e g i q =
    let j = form_range a in
    let k = memory_range e in
    let p : x / 68719476736 ≡ form_code a + (16 * memory_code e + 256 * g) = omega arith in
    let r : x / 1099511627776 ≡ memory_code e + 16 * g = omega arith in
    let form : x / 68719476736 % 16 ≡ form_code a = rw p (omega arith) in
    let memory : x / 1099511627776 % 16 ≡ memory_code e = rw r (omega arith) in
    shape_same (omega arith) (ap form_at form ∙ form_back a) (ap memory_at memory ∙ memory_back e) (omega arith)

pub shape_row : (n : ℕ) → n < 103 → (x : ℕ) → get_or (rows_from 0 103) n 0 ≡ x → shaped (x % 68719476736) (form_at (x / 68719476736 % 16)) (memory_at (x / 1099511627776 % 16)) (x / 17592186044416) ≡ shape_of n
unfolding shape_of row_of
shape_row n l x e =
    let q : x ≡ row_of n = sym e ∙ row_at 0 103 n l ∙ ap row_of (zero-add n) in
    let f : fields_code (fields_of n) < 68719476736 = rw (zero-add n) at (short-at 0 103 n all_short l) in
    unpacked x (fields_code (fields_of n)) (form_of n) (memory_of n) (group_of n) f q

pub group_is : {s : Shape} (n : ℕ) → s ≡ shape_of n → group_of n ≡ s.group
unfolding shape_of
group_is n e = sym (ap (λ (s : Shape). s.group) e)

-- ---- no command has a number past 102

below : List Row → Bool
below [] = true
below (r ∷ rs) = both (ltb r.number 103) (below rs)

below_all : List (List Row) → Bool
below_all [] = true
below_all (rows ∷ gs) = both (below rows) (below_all gs)

below-has : (n : ℕ) → 103 ≤ n → (rows : List Row) → T (below rows) → has rows n ≡ false
unfolding below has
below-has n l [] t = refl
below-has n l (r ∷ rs) t = rw (eqb_no n r.number (λ e. absurd (omega (arith, e, ltb→lt r.number 103 (both_left (ltb r.number 103) (below rs) t))))) (below-has n l rs (both_right (ltb r.number 103) (below rs) t))

below-joined : (n : ℕ) → 103 ≤ n → (gs : List (List Row)) → T (below_all gs) → has (joined gs) n ≡ false
unfolding below_all joined has
below-joined n l [] t = refl
below-joined n l (rows ∷ gs) t = has-none n rows (joined gs) (below-has n l rows (both_left (below rows) (below_all gs) t)) (below-joined n l gs (both_right (below rows) (below_all gs) t))

below_group : (n : ℕ) → 103 ≤ n → (k : ℕ) (gs : List (List Row)) → T (below_all gs) → group_in k gs n ≡ 0
unfolding below_all group_in
below_group n l k [] t = refl
below_group n l k (rows ∷ gs) t = rw (below-has n l rows (both_left (below rows) (below_all gs) t)) (below_group n l _ gs (both_right (below rows) (below_all gs) t))

all-below : T (below_all groups)
unfolding below below_all groups session_rows word_rows plain_rows list_rows coroutine_rows map_rows map_number_rows iterator_rows heap_rows new_rows store_rows grow_rows map_change_rows new_list_rows lent_rows
all-below = tt

pub shape_end : (n : ℕ) → 102 < n → shaped 15 WordAlone Own 0 ≡ shape_of n
unfolding shape_of fields_of form_of memory_of group_of table fields_code
shape_end n l =
    let e : has (joined groups) n ≡ false = below-joined n (omega arith) groups all-below in
    shape_same (sym (ap fields_code (choose-none (λ (r : Row). some r.fields) none n (joined groups) e))) (sym (choose-none (λ (r : Row). r.form) WordAlone n (joined groups) e)) (sym (choose-none (λ (r : Row). r.memory) Own n (joined groups) e)) (sym (below_group n (omega arith) 1 groups all-below))
