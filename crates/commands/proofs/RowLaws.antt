-- Rows by their number, and groups of rows. Assumes nothing.
use Prim.Native.Nat.{ℕ, suc, ◌+◌, ◌≤◌, ◌<◌}
use mathlib.Core.Path.{◌≡◌, refl, ap, ◌∙◌}
use mathlib.Core.Logic.{◌≢◌, ◌⊎◌, inl, inr, ⊎_elim}
use mathlib.Core.Bool.{Bool, true, false, cond, ◌||◌}
use mathlib.Core.List.{List, [], ◌∷◌, ◌++◌}
use native.Mathlib.Omega.{arith}
use native.Mathlib.Decide.{ℕ_discrete}
use lib.Dec.{T, eqb}
use lib.ListN.{length}
use Rattle.history.proofs.Facts.{eqb_no, eqb_self}
use Rattle.model.specs.Calls.{collect, read_string}
use Rattle.commands.specs.declared.Operands.{Operands}
use Rattle.commands.specs.Rows.{Act, Lists, Row, choose, group_in, has, joined, make, no_act}
use Rattle.commands.specs.Table.{act_in, act_of, change_rows, coroutine_rows, group_of, groups, grow_rows, heap_rows, iterator_rows, lent_rows, list_rows, map_change_rows, map_number_rows, map_rows, memory_of, new_list_rows, new_rows, plain_rows, read_rows, session_rows, store_rows, table, word_rows}
use Rattle.commands.specs.Promise.{calls_in}
use Rattle.commands.specs.declared.Memory.{Memory}
use Rattle.commands.specs.declared.Memory.TheVariants.{Own, Buffer, Places, Roots}

-- ---- a row

-- c is none of the rows' numbers, as the last arm of a match says it
abbrev pub Missed : Type 0 → List Row → ℕ → Type 0
Missed A [] c = A
Missed A (r ∷ rs) c = Missed (A × (c ≡ r.number → ⊥)) rs c

missed_first : (A : Type 0) (rows : List Row) (c : ℕ) → Missed A rows c → A
missed_first A [] c m = m
missed_first A (r ∷ rs) c m = (missed_first (A × (c ≡ r.number → ⊥)) rs c m).0

missed-has : (A : Type 0) (rows : List Row) (c : ℕ) → Missed A rows c → has rows c ≡ false
unfolding has
missed-has A [] c m = refl
missed-has A (r ∷ rs) c m = rw (eqb_no c r.number (missed_first (A × (c ≡ r.number → ⊥)) rs c m).1) (missed-has (A × (c ≡ r.number → ⊥)) rs c m)

or_left : (a b : Bool) → a || b ≡ false → a ≡ false
or_left true b e = e
or_left false b e = refl

or_right : (a b : Bool) → a || b ≡ false → b ≡ false
or_right true b e = let z : ◌≡◌ {A = ℕ} 0 1 = cc in absurd (omega arith)
or_right false b e = e

pub has-none : (n : ℕ) (rows more : List Row) → has rows n ≡ false → has more n ≡ false → has (rows ++ more) n ≡ false
unfolding has
has-none n [] more e f = f
has-none n (r ∷ rs) more e f = rw (or_left (eqb n r.number) (has rs n) e) (has-none n rs more (or_right (eqb n r.number) (has rs n) e) f)

module _ {A : Type 0} (f : Row → A) (none : A) (n : ℕ) where
  pub choose-none : (rows : List Row) → has rows n ≡ false → choose f none rows n ≡ none
  unfolding choose has
  choose-none [] e = refl
  choose-none (r ∷ rs) e = rw (or_left (eqb n r.number) (has rs n) e) (choose-none rs (or_right (eqb n r.number) (has rs n) e))

  choose-left : (rows more : List Row) → has rows n ≡ true → choose f none (rows ++ more) n ≡ choose f none rows n
  unfolding choose has
  choose-left [] more e = let z : ◌≡◌ {A = ℕ} 0 1 = cc in absurd (omega arith)
  choose-left (r ∷ rs) more e = go (eqb n r.number) e (choose-left rs more)
    where
      go : (b : Bool) → b || has rs n ≡ true → (has rs n ≡ true → choose f none (rs ++ more) n ≡ choose f none rs n) → cond b (f r) (choose f none (rs ++ more) n) ≡ cond b (f r) (choose f none rs n)
      go true e h = refl
      go false e h = h e

  choose_right : (rows more : List Row) → has rows n ≡ false → choose f none (rows ++ more) n ≡ choose f none more n
  unfolding choose has
  choose_right [] more e = refl
  choose_right (r ∷ rs) more e = rw (or_left (eqb n r.number) (has rs n) e) (choose_right rs more (or_right (eqb n r.number) (has rs n) e))

pub no_row : (rows : List Row) (c : ℕ) (o : Operands) (t : Lists) → Missed Unit rows c → act_in rows c o t ≡ no_act
unfolding act_in
no_row rows c o t m = choose-none (λ (r : Row). r.act o t) no_act c rows (missed-has Unit rows c m)

abbrev pub both : Bool → Bool → Bool
both true b = b
both false b = false

pub both_left : (a b : Bool) → T (both a b) → T a
both_left true b t = tt
both_left false b t = t

pub both_right : (a b : Bool) → T (both a b) → T b
both_right true b t = t
both_right false b t = absurd t

cond_same : {A : Type 0} (b : Bool) {x y z : A} → x ≡ z → y ≡ z → cond b x y ≡ z
cond_same true p q = p
cond_same false p q = q

calls-cond : (b : Bool) (x y : Act) → calls_in x ≡ [] → calls_in y ≡ [] → calls_in (cond b x y) ≡ []
calls-cond true x y p q = p
calls-cond false x y p q = q

-- ---- the group of a command

-- the group g, counted from k
unfoldable pub the_group : ℕ → List (List Row) → ℕ → List Row
the_group k [] g = []
the_group k (rows ∷ gs) g = cond (eqb g k) rows (the_group (suc k) gs g)

group_place : (k : ℕ) (gs : List (List Row)) (n : ℕ) → (group_in k gs n ≡ 0) ⊎ (k ≤ group_in k gs n)
unfolding group_in
group_place k [] n = inl refl
group_place k (rows ∷ gs) n = go (has rows n) (group_place (suc k) gs n)
  where
    go : (b : Bool) → (group_in (suc k) gs n ≡ 0) ⊎ (suc k ≤ group_in (suc k) gs n) → (cond b k (group_in (suc k) gs n) ≡ 0) ⊎ (k ≤ cond b k (group_in (suc k) gs n))
    go true h = inr (omega arith)
    go false h = ⊎_elim (λ e. inl e) (λ l. inr (omega (arith, l))) h

module _ {A : Type 0} (f : Row → A) (none : A) (n : ℕ) where
  pub in_group : (k : ℕ) (gs : List (List Row)) → 1 ≤ k → choose f none (joined gs) n ≡ choose f none (the_group k gs (group_in k gs n)) n
  unfolding joined group_in the_group choose
  in_group k [] l = refl
  in_group k (rows ∷ gs) l = go (has rows n) refl (in_group (suc k) gs (omega arith))
    where
      other : group_in (suc k) gs n ≢ k
      other e = ⊎_elim (λ z. absurd (omega (arith, e, z))) (λ z. absurd (omega (arith, e, z))) (group_place (suc k) gs n)

      go : (b : Bool) → has rows n ≡ b → choose f none (joined gs) n ≡ choose f none (the_group (suc k) gs (group_in (suc k) gs n)) n →
          choose f none (rows ++ joined gs) n ≡ choose f none (cond (eqb (cond b k (group_in (suc k) gs n)) k) rows (the_group (suc k) gs (cond b k (group_in (suc k) gs n)))) n
      go true e h = rw (eqb_self k) (choose-left f none n rows (joined gs) e)
      go false e h = rw (eqb_no (group_in (suc k) gs n) k other) (choose_right f none n rows (joined gs) e ∙ h)

memory_group : (n : ℕ) → memory_of n ≡ choose (λ (r : Row). r.memory) Own (the_group 1 groups (group_of n)) n
unfolding memory_of table group_of
memory_group n = in_group (λ (r : Row). r.memory) Own n 1 groups (omega arith)

module _ (n : ℕ) (o : Operands) (t : Lists) where
  pub act_group : act_of n o t ≡ act_in (the_group 1 groups (group_of n)) n o t
  unfolding act_of act_in table group_of
  act_group = in_group (λ (r : Row). r.act o t) no_act n 1 groups (omega arith)

  act-at : {g : ℕ} (rows : List Row) → group_of n ≡ g → the_group 1 groups g ≡ rows → act_of n o t ≡ act_in rows n o t
  act-at rows e f = act_group ∙ ap (λ (g : ℕ). act_in (the_group 1 groups g) n o t) e ∙ ap (λ (r : List Row). act_in r n o t) f

  pub read_act : {g : ℕ} → group_of n ≡ g → g < 10 → g ≢ 1 → act_of n o t ≡ act_in (read_rows g) n o t
  unfolding the_group groups read_rows
  read_act {g} e l h = act-at (read_rows g) e (rw (eqb_no g 1 h, eqb_no g 10 (omega arith), eqb_no g 11 (omega arith), eqb_no g 12 (omega arith), eqb_no g 13 (omega arith), eqb_no g 14 (omega arith), eqb_no g 15 (omega arith)))

  pub change-act : {g : ℕ} → group_of n ≡ g → 10 ≤ g → g < 14 → act_of n o t ≡ act_in (change_rows g) n o t
  unfolding the_group groups change_rows
  change-act {g} e k l =
      act-at (change_rows g) e
      (rw (eqb_no g 1 (omega arith), eqb_no g 2 (omega arith), eqb_no g 3 (omega arith), eqb_no g 4 (omega arith), eqb_no g 5 (omega arith), eqb_no g 6 (omega arith), eqb_no g 7 (omega arith), eqb_no g 8 (omega arith), eqb_no g 9 (omega arith), eqb_no g 14 (omega arith), eqb_no g 15 (omega arith)))

  pub list-act : group_of n ≡ 14 → act_of n o t ≡ act_in new_list_rows n o t
  unfolding the_group groups
  list-act e = act-at new_list_rows e refl

  pub lent-act : group_of n ≡ 15 → act_of n o t ≡ act_in lent_rows n o t
  unfolding the_group groups
  lent-act e = act-at lent_rows e refl

  -- a heap opened, a root given: no call
  pub session-calls : group_of n ≡ 1 → calls_in (act_of n o t) ≡ []
  unfolding the_group groups act_in choose session_rows calls_in
  session-calls e = rw (act-at session_rows e refl) (calls-cond (eqb n 0x00) _ _ refl (calls-cond (eqb n 0x0B) _ _ refl refl))

-- no group has a number past 15
group_end : (k : ℕ) (gs : List (List Row)) (n : ℕ) → 1 ≤ k → group_in k gs n < k + length gs
unfolding group_in
group_end k [] n l = omega arith
group_end k (rows ∷ gs) n l = go (has rows n) (group_end (suc k) gs n (omega arith))
  where
    go : (b : Bool) → group_in (suc k) gs n < suc k + length gs → cond b k (group_in (suc k) gs n) < k + length (rows ∷ gs)
    go true h = omega arith
    go false h = omega (arith, h)

pub group_last : (n : ℕ) → 14 < group_of n → group_of n ≡ 15
unfolding group_of groups
group_last n l = omega (arith, group_end 1 groups n (omega arith))

-- ---- the memory lent to a command

is_own : Memory → Bool
is_own Own = true
is_own Buffer = false
is_own Places = false
is_own Roots = false

own_is : (e : Memory) → T (is_own e) → e ≡ Own
unfolding is_own
own_is Own t = refl
own_is Buffer t = absurd t
own_is Places t = absurd t
own_is Roots t = absurd t

own_rows : List Row → Bool
own_rows [] = true
own_rows (r ∷ rs) = both (is_own r.memory) (own_rows rs)

own_groups : List (List Row) → Bool
own_groups [] = true
own_groups (rows ∷ gs) = both (own_rows rows) (own_groups gs)

abbrev memory_in : List Row → ℕ → Memory
memory_in rows n = choose (λ r. r.memory) Own rows n

own_rows_lem : (n : ℕ) (rows : List Row) → T (own_rows rows) → memory_in rows n ≡ Own
unfolding choose own_rows
own_rows_lem n [] t = refl
own_rows_lem n (r ∷ rs) t = cond_same (eqb n r.number) (own_is r.memory (both_left (is_own r.memory) (own_rows rs) t)) (own_rows_lem n rs (both_right (is_own r.memory) (own_rows rs) t))

cond_rows : (b : Bool) (n : ℕ) (xs ys : List Row) → memory_in xs n ≡ Own → memory_in ys n ≡ Own → memory_in (cond b xs ys) n ≡ Own
cond_rows true n xs ys p q = p
cond_rows false n xs ys p q = q

own_group : (n g k : ℕ) (gs : List (List Row)) → T (own_groups gs) → memory_in (the_group k gs g) n ≡ Own
unfolding choose own_groups the_group
own_group n g k [] t = refl
own_group n g k (rows ∷ gs) t =
    cond_rows (eqb g k) n rows (the_group (suc k) gs g) (own_rows_lem n rows (both_left (own_rows rows) (own_groups gs) t)) (own_group n g (suc k) gs (both_right (own_rows rows) (own_groups gs) t))

-- the groups but the last
unfoldable owned_groups : List (List Row)
owned_groups = session_rows ∷ word_rows ∷ plain_rows ∷ list_rows ∷ coroutine_rows ∷ map_rows ∷ map_number_rows ∷ iterator_rows ∷ heap_rows ∷ new_rows ∷ store_rows ∷ grow_rows ∷ map_change_rows ∷ new_list_rows ∷ []

owned_all : T (own_groups owned_groups)
unfolding own_groups owned_groups own_rows is_own session_rows word_rows plain_rows list_rows coroutine_rows map_rows map_number_rows iterator_rows heap_rows new_rows store_rows grow_rows map_change_rows new_list_rows
owned_all = tt

owned_group : (g : ℕ) → g ≢ 15 → the_group 1 groups g ≡ the_group 1 owned_groups g
unfolding the_group groups owned_groups
owned_group g h = rw (eqb_no g 15 h)

pub memory-own : (n : ℕ) → group_of n ≢ 15 → memory_of n ≡ Own
memory-own n h = memory_group n ∙ ap (λ (rows : List Row). memory_in rows n) (owned_group (group_of n) h) ∙ own_group n (group_of n) 1 owned_groups owned_all

pub memory-lent : (n : ℕ) → group_of n ≡ 15 → memory_of n ≡ memory_in lent_rows n
unfolding the_group groups
memory-lent n e = memory_group n ∙ ap (λ (g : ℕ). memory_in (the_group 1 groups g) n) e

pub same_or_not : (a b : ℕ) → (a ≡ b) ⊎ (a ≢ b)
same_or_not a b = go (ℕ_discrete a b)
  where
    go : Dec (a ≡ b) → (a ≡ b) ⊎ (a ≢ b)
    go (yes e) = inl e
    go (no h) = inr h

-- what a command that is lent a list does
unfoldable pub Lending : Memory → Act → Operands → Lists → Type 0
Lending Own x o t = Unit
Lending Buffer x o t = x ≡ make (read_string o.a t.bytes)
Lending Places x o t = x ≡ make (collect t.words t.places)
Lending Roots x o t = x ≡ make (collect t.words t.places)

lending_cond : (b : Bool) (d e : Memory) (x y : Act) (o : Operands) (t : Lists) → Lending d x o t → Lending e y o t → Lending (cond b d e) (cond b x y) o t
lending_cond true d e x y o t p q = p
lending_cond false d e x y o t p q = q

lending_lent : (n : ℕ) (o : Operands) (t : Lists) → Lending (memory_in lent_rows n) (act_in lent_rows n o t) o t
unfolding act_in choose lent_rows Lending
lending_lent n o t = lending_cond (eqb n 0x0C) _ _ _ _ o t refl (lending_cond (eqb n 0x0F) _ _ _ _ o t refl (lending_cond (eqb n 0x26) _ _ _ _ o t refl tt))

pub lending : (n : ℕ) (o : Operands) (t : Lists) → Lending (memory_of n) (act_of n o t) o t
unfolding Lending
lending n o t =
    ⊎_elim (λ e. rw (memory-lent n e, lent-act n o t e) (lending_lent n o t)) (λ h. rw (memory-own n h) tt) (same_or_not (group_of n) 15)

-- ---- the commands that are lent a list

pub memory_0_c : memory_of 0x0C ≡ Roots
unfolding memory_of table joined choose groups session_rows word_rows plain_rows list_rows coroutine_rows map_rows map_number_rows iterator_rows heap_rows new_rows store_rows grow_rows map_change_rows new_list_rows lent_rows
memory_0_c = refl

pub memory_0_f : memory_of 0x0F ≡ Places
unfolding memory_of table joined choose groups session_rows word_rows plain_rows list_rows coroutine_rows map_rows map_number_rows iterator_rows heap_rows new_rows store_rows grow_rows map_change_rows new_list_rows lent_rows
memory_0_f = refl

pub memory_26 : memory_of 0x26 ≡ Buffer
unfolding memory_of table joined choose groups session_rows word_rows plain_rows list_rows coroutine_rows map_rows map_number_rows iterator_rows heap_rows new_rows store_rows grow_rows map_change_rows new_list_rows lent_rows
memory_26 = refl
