-- What a command that makes no call is. Assumes nothing.
use Prim.Native.Nat.{ℕ}
use mathlib.Core.Path.{◌≡◌, refl, ap, ◌∙◌}
use mathlib.Core.Logic.{◌≢◌}
use mathlib.Core.Bool.{Bool, true, false, cond, ◌&&◌}
use mathlib.Core.List.{List, [], ◌∷◌}
use native.Mathlib.Omega.{arith}
use lib.Dec.{eqb}
use lib.ListN.{drop}
use Rattle.history.proofs.Facts.{eqb_no}
use Rattle.commands.specs.declared.Operands.{Operands}
use Rattle.commands.specs.Rows.{Act, Lists, Row, add_root, choose, joined, make, make_both, no_act, opens_with}
use Rattle.commands.specs.Table.{act_in, act_of, coroutine_part, coroutine_rows, groups, grow_rows, heap_rows, iterator_rows, lent_rows, list_rows, map_change_rows, map_number_rows, map_rows, new_list_rows, new_rows, part_store, plain_rows, session_rows, store_rows, table, word_rows}
use Rattle.commands.specs.Promise.{calls_in}

-- neither an opening nor a root
unfoldable plain : Act → Bool
plain no_act = true
plain (opens_with o) = false
plain (add_root w) = false
plain (make k) = true
plain (make_both k j) = true

plain_cond : (b : Bool) (x y : Act) → plain x ≡ true → plain y ≡ true → plain (cond b x y) ≡ true
plain_cond true x y p q = p
plain_cond false x y p q = q

plain_silent : (x : Act) → plain x ≡ true → calls_in x ≡ [] → x ≡ no_act
unfolding plain calls_in
plain_silent no_act p e = refl
plain_silent (opens_with o) p e = let z : ◌≡◌ {A = ℕ} 0 1 = cc in absurd (omega arith)
plain_silent (add_root w) p e = let z : ◌≡◌ {A = ℕ} 0 1 = cc in absurd (omega arith)
plain_silent (make k) p e = let z : ◌≡◌ {A = ℕ} 0 1 = cc in absurd (omega arith)
plain_silent (make_both k j) p e = let z : ◌≡◌ {A = ℕ} 0 1 = cc in absurd (omega arith)

part_plain : (r n : ℕ) → plain (coroutine_part r n) ≡ true
unfolding coroutine_part plain
part_plain r n =
    plain_cond (eqb n 0) _ _ refl (plain_cond (eqb n 1) _ _ refl (plain_cond (eqb n 2) _ _ refl (plain_cond (eqb n 3) _ _ refl
    (plain_cond (eqb n 4) _ _ refl (plain_cond (eqb n 5) _ _ refl (plain_cond (eqb n 6) _ _ refl (plain_cond (eqb n 7) _ _ refl refl)))))))

store_plain : (r n w : ℕ) → plain (part_store r n w) ≡ true
unfolding part_store plain
store_plain r n w = plain_cond (eqb n 0) _ _ refl (plain_cond (eqb n 1) _ _ refl (plain_cond (eqb n 2) _ _ refl (plain_cond (eqb n 3) _ _ refl refl)))

module _ (o : Operands) (t : Lists) where
  unfoldable all_plain : List Row → Bool
  all_plain [] = true
  all_plain (r ∷ rs) = plain (r.act o t) && all_plain rs

  and_left : (x y : Bool) → x && y ≡ true → x ≡ true
  and_left true y e = refl
  and_left false y e = e

  and_right : (x y : Bool) → x && y ≡ true → y ≡ true
  and_right true y e = e
  and_right false y e = let z : ◌≡◌ {A = ℕ} 0 1 = cc in absurd (omega arith)

  plain_at : (n : ℕ) (rows : List Row) → all_plain rows ≡ true → plain (choose (λ r. r.act o t) no_act rows n) ≡ true
  unfolding all_plain choose plain
  plain_at n [] e = refl
  plain_at n (r ∷ rs) e = plain_cond (eqb n r.number) (r.act o t) (choose (λ (r : Row). r.act o t) no_act rs n) (and_left (plain (r.act o t)) (all_plain rs) e) (plain_at n rs (and_right (plain (r.act o t)) (all_plain rs) e))

  rows_plain : all_plain (drop 2 table) ≡ true
  unfolding all_plain plain table joined groups session_rows word_rows plain_rows list_rows coroutine_rows map_rows map_number_rows iterator_rows heap_rows new_rows store_rows grow_rows map_change_rows new_list_rows lent_rows
  rows_plain = rw (part_plain o.a o.b, store_plain o.a o.b o.c)

  later : (n : ℕ) → n ≢ 0x00 → n ≢ 0x0B → act_of n o t ≡ choose (λ r. r.act o t) no_act (drop 2 table) n
  unfolding act_of act_in table joined groups session_rows word_rows plain_rows list_rows coroutine_rows map_rows map_number_rows iterator_rows heap_rows new_rows store_rows grow_rows map_change_rows new_list_rows lent_rows choose
  later n h k = rw (eqb_no n 0x00 h, eqb_no n 0x0B k)

  -- a command that is no opening and no root, and makes no call, does nothing
  pub silent : (n : ℕ) → n ≢ 0x00 → n ≢ 0x0B → calls_in (act_of n o t) ≡ [] → act_of n o t ≡ no_act
  silent n h k e = plain_silent (act_of n o t) (ap plain (later n h k) ∙ plain_at n (drop 2 table) rows_plain) e
