-- The operands of a command as one number. Assumes nothing.
use Prim.Native.Nat.{ℕ, ◌+◌, ◌*◌, ◌/◌, ◌%◌, ◌≤◌}
use mathlib.Core.Path.{◌≡◌, refl, ap, ◌∙◌}
use mathlib.Core.Bool.{Bool, true, false, cond, ◌&&◌}
use mathlib.Core.List.{List, [], ◌∷◌}
use mathlib.Core.Option.{Option, none, some}
use native.Mathlib.Omega.{arith}
use borrow.Author.Tests.{leb-true}
use lib.Dec.{eqb, leb}
use lib.ListN.{length}
use Rattle.commands.specs.Rows as Fields
use Rattle.commands.specs.Rows.{Field, Row, choose, coded, field_at, field_code, joined}
use Rattle.commands.specs.Table.{coroutine_rows, fields_code, fields_of, groups, grow_rows, heap_rows, iterator_rows, lent_rows, list_rows, map_change_rows, map_number_rows, map_rows, new_list_rows, new_rows, plain_rows, session_rows, store_rows, table, word_rows}

pub field_code_lem : (f : Field) → field_at (field_code f) ≡ f
unfolding field_at field_code
field_code_lem Fields.b = refl
field_code_lem Fields.h = refl
field_code_lem Fields.q = refl
field_code_lem Fields.c = refl
field_code_lem Fields.d = refl
field_code_lem Fields.W = refl
field_code_lem Fields.S = refl
field_code_lem Fields.F = refl

code_range : (f : Field) → (1 ≤ field_code f) × (field_code f ≤ 8)
unfolding field_code
code_range Fields.b = (omega arith, omega arith)
code_range Fields.h = (omega arith, omega arith)
code_range Fields.q = (omega arith, omega arith)
code_range Fields.c = (omega arith, omega arith)
code_range Fields.d = (omega arith, omega arith)
code_range Fields.W = (omega arith, omega arith)
code_range Fields.S = (omega arith, omega arith)
code_range Fields.F = (omega arith, omega arith)

-- ---- the digits, one after the other

pub coded_none : (fs : List Field) → coded fs ≡ 0 → fs ≡ []
unfolding coded
coded_none [] e = refl
coded_none (f ∷ fs) e = absurd (omega (arith, code_range f))

pub coded-field : (f : Field) (fs : List Field) → field_at (coded (f ∷ fs) % 16) ≡ f
unfolding coded
coded-field f fs =
    let e : (field_code f + 16 * coded fs) % 16 ≡ field_code f = omega (arith, code_range f) in
    ap field_at e ∙ field_code_lem f

pub coded-rest : (f : Field) (fs : List Field) → coded (f ∷ fs) / 16 ≡ coded fs
unfolding coded
coded-rest f fs = omega (arith, code_range f)

pub shape_none : (o : Option (List Field)) → fields_code o ≡ 15 → o ≡ none
unfolding fields_code coded
shape_none none e = refl
shape_none (some []) e = absurd (omega arith)
shape_none (some (f ∷ fs)) e = absurd (omega (arith, code_range f))

-- ---- few operands

abbrev few : Option (List Field) → Bool
few none = true
few (some fs) = leb (length fs) 9

unfoldable all-few : List Row → Bool
all-few [] = true
all-few (r ∷ rs) = leb (length r.fields) 9 && all-few rs

and_left : (x y : Bool) → x && y ≡ true → x ≡ true
and_left true y e = refl
and_left false y e = e

and_right : (x y : Bool) → x && y ≡ true → y ≡ true
and_right true y e = e
and_right false y e = let z : ◌≡◌ {A = ℕ} 0 1 = cc in absurd (omega arith)

few-cond : (b : Bool) (x y : Option (List Field)) → few x ≡ true → few y ≡ true → few (cond b x y) ≡ true
few-cond true x y p q = p
few-cond false x y p q = q

few-at : (rows : List Row) → all-few rows ≡ true → (n : ℕ) → few (choose (λ r. some r.fields) none rows n) ≡ true
unfolding all-few choose
few-at [] e n = refl
few-at (r ∷ rs) e n = few-cond (eqb n r.number) (some r.fields) (choose (λ (r : Row). some r.fields) none rs n) (and_left (leb (length r.fields) 9) (all-few rs) e) (few-at rs (and_right (leb (length r.fields) 9) (all-few rs) e) n)

table-few : all-few table ≡ true
unfolding all-few table joined groups session_rows word_rows plain_rows list_rows coroutine_rows map_rows map_number_rows iterator_rows heap_rows new_rows store_rows grow_rows map_change_rows new_list_rows lent_rows
table-few = refl

pub fields-few : (n : ℕ) (fs : List Field) → fields_of n ≡ some fs → length fs ≤ 9
unfolding fields_of
fields-few n fs e =
    let t : few (fields_of n) ≡ true = few-at table table-few n in
    leb-true (length fs) 9 (rw e at t)
