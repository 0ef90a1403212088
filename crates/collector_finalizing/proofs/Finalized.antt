-- What finalizing leaves of the scalars, and which slots F names.
use Prim.Native.Nat.{ℕ, zero, suc, ◌+◌, ◌*◌, ◌%◌, ◌≤◌, ◌<◌}
use mathlib.Core.Path.{◌≡◌, refl, sym, ap, subst, ◌∙◌}
use mathlib.Core.Logic.{⊎_elim}
use mathlib.Core.Bool.{Bool, true, false, cond}
use mathlib.Core.List.{List, [], ◌∷◌}
use native.Mathlib.Omega.{arith}
use native.Mathlib.Decide.{ℕ_discrete}
use lib.Dec.{eqb}
use lib.ListN.{length, set, length-set}
use borrow.Author.Tests.{eq-eqb, ne_eqb}
use Rattle.heap_slots.specs.Limits.{SLOT_WORDS, SLOTS_MAX, SPAN}
use Rattle.heap_slots.specs.Header.{scalars_at, with_scalar}
use Rattle.heap_slots.specs.declared.Scalars.{Scalars}
use Rattle.heap_slots.proofs.HeaderLaws.{store_scalar, store_scalar_other}
use Rattle.layout.specs.Layout.{Layout}
use Rattle.model.specs.View.{mem}
use Rattle.model.specs.Slots.{count_in}
use Rattle.collector_marking.specs.Children.{word_at}
use Rattle.collector_finalizing.specs.Order.{Own, Owned, seq_of}
use Rattle.collector_finalizing.specs.Dropped.{is_dropped, sieve, dropped_slots, marks_reached, dropped_words, finalized_in}
use Rattle.collector_finalizing.proofs.OrderLaws.{occ_none, occ_cases, occ_head, occ_tail, sort_occ}

-- ---- the scalars

-- the scalar a is 1
abbrev pub flagged : Bool → Scalars → Scalars
flagged b y = cond b (with_scalar y 0 1) y

-- a word of the list names slot i
unfoldable pub names : ℕ → List ℕ → Bool
names i [] = false
names i (w ∷ ws) = cond (eqb (w % SPAN) i) true (names i ws)

flag_twice : (b : Bool) (y : Scalars) → flagged b (with_scalar y 0 1) ≡ with_scalar y 0 1
flag_twice true y = refl
flag_twice false y = refl

pub finalized-length : (ws x : List ℕ) → length (finalized_in ws x) ≡ length x
unfolding finalized_in
finalized-length [] x = refl
finalized-length (w ∷ ws) x = finalized-length ws (set x (w % SPAN * SLOT_WORDS) 1) ∙ length-set x (w % SPAN * SLOT_WORDS) 1

pub finalized-at : (ws x : List ℕ) (i : ℕ) → i * SLOT_WORDS + SLOT_WORDS ≤ length x → scalars_at (finalized_in ws x) i ≡ flagged (names i ws) (scalars_at x i)
unfolding finalized_in names
finalized-at [] x i f = refl
finalized-at (w ∷ ws) x i f = finalized-at ws (set x (w % SPAN * SLOT_WORDS) 1) i (rw (length-set x (w % SPAN * SLOT_WORDS) 1) f) ∙ go (ℕ_discrete (w % SPAN) i)
  where
    z : w % SPAN * SLOT_WORDS + 0 ≡ w % SPAN * SLOT_WORDS
    z = omega arith

    go : Dec (w % SPAN ≡ i) → flagged (names i ws) (scalars_at (set x (w % SPAN * SLOT_WORDS) 1) i) ≡ flagged (cond (eqb (w % SPAN) i) true (names i ws)) (scalars_at x i)
    go (yes e) =
        let q : i * SLOT_WORDS + 0 ≡ i * SLOT_WORDS = omega arith in
        let s : scalars_at (set x (i * SLOT_WORDS) 1) i ≡ with_scalar (scalars_at x i) 0 1 = ap (λ (k : ℕ). scalars_at (set x k 1) i) (sym q) ∙ store_scalar x i 0 1 (omega arith) f in
        rw (eq-eqb (w % SPAN) i e, e, s) (flag_twice (names i ws) (scalars_at x i))
    go (no e) =
        let s : scalars_at (set x (w % SPAN * SLOT_WORDS) 1) i ≡ scalars_at x i = ap (λ (k : ℕ). scalars_at (set x k 1) i) (sym z) ∙ store_scalar_other x (w % SPAN) i 0 1 (omega arith) (λ q. e (sym q)) in
        rw (ne_eqb (w % SPAN) i e, s)

-- a slot is named exactly if its reference is in the list
pub names_mem : (s ws : List ℕ) (i : ℕ) → i < SLOTS_MAX → Owned s ws → names i ws ≡ mem (word_at s i) ws
unfolding names mem
names_mem s [] i l o = refl
names_mem s (w ∷ ws) i l o = go (ℕ_discrete (w % SPAN) i) (names_mem s ws i l record { each = λ v h. o.each v (occ_tail v w ws h) })
  where
    own : Own s w
    own = o.each w (occ_head w ws)

    go : Dec (w % SPAN ≡ i) → names i ws ≡ mem (word_at s i) ws → cond (eqb (w % SPAN) i) true (names i ws) ≡ cond (eqb (word_at s i) w) true (mem (word_at s i) ws)
    go (yes e) h =
        let q : word_at s i ≡ w = ap (word_at s) (sym e) ∙ sym own.is in
        rw (eq-eqb (w % SPAN) i e, eq-eqb (word_at s i) w q)
    go (no e) h =
        let r : word_at s i % SPAN ≡ i = omega arith in
        rw (ne_eqb (w % SPAN) i e, ne_eqb (word_at s i) w (λ q. e (ap (λ (k : ℕ). k % SPAN) (sym q) ∙ r))) h

-- ---- which words F holds

pub record Member (P : ℕ → Bool) (word : ℕ → ℕ) (n w : ℕ) : Type 0 where
  pub slot : ℕ
  pub low : slot < n
  pub chosen : P slot ≡ true
  pub is : w ≡ word slot

module _ (P : ℕ → Bool) (word : ℕ → ℕ) where
  member_from : (n f i w : ℕ) → i + f ≤ n → 0 < count_in w (sieve P word f i) → Member P word n w
  unfolding sieve
  member_from n zero i w l h = absurd (occ_none w h)
  member_from n (suc f) i w l h = go (P i) refl h (λ p. member_from n f (suc i) w (omega arith) p)
    where
      go : (b : Bool) → P i ≡ b → 0 < count_in w (cond b (word i ∷ sieve P word f (suc i)) (sieve P word f (suc i))) → (0 < count_in w (sieve P word f (suc i)) → Member P word n w) → Member P word n w
      go true e p ih = ⊎_elim (λ q. record { slot = i; low = omega arith; chosen = e; is = q }) ih (occ_cases w (word i) (sieve P word f (suc i)) p)
      go false e p ih = ih p

mem_occ : (w : ℕ) (ws : List ℕ) → mem w ws ≡ true → 0 < count_in w ws
unfolding mem
mem_occ w [] e = let z : ◌≡◌ {A = ℕ} 0 1 = cc in absurd (omega arith)
mem_occ w (x ∷ xs) e = go (ℕ_discrete w x) (λ q. mem_occ w xs q)
  where
    go : Dec (w ≡ x) → (mem w xs ≡ true → 0 < count_in w xs) → 0 < count_in w (x ∷ xs)
    go (yes q) ih = rw q (occ_head x xs)
    go (no q) ih = occ_tail w x xs (ih (rw (ne_eqb w x q) at e))

module _ (l : Layout) (s x c : List ℕ) (n : ℕ) (roots : List ℕ) where
  pub dropped_member : (w : ℕ) → 0 < count_in w (dropped_words l s x c n roots) → Member (is_dropped s x (marks_reached l s x c n roots)) (word_at s) n w
  unfolding dropped_words
  dropped_member w h = member_from (is_dropped s x (marks_reached l s x c n roots)) (word_at s) n n 0 w (omega arith) (subst (λ (k : ℕ). 0 < k) (sort_occ (seq_of s) w (dropped_slots s x (marks_reached l s x c n roots) n)) h)

  pub dropped_owned : n ≤ SLOTS_MAX → n * SLOT_WORDS ≤ length s → Owned s (dropped_words l s x c n roots)
  dropped_owned few fits = record { each = λ w h. own (dropped_member w h) }
    where
      own : {w : ℕ} → Member (is_dropped s x (marks_reached l s x c n roots)) (word_at s) n w → Own s w
      own {w} m =
          let low = m.low in
          let e : w % SPAN ≡ m.slot = ap (λ (k : ℕ). k % SPAN) m.is ∙ (let q : word_at s m.slot % SPAN ≡ m.slot = omega arith in q) in
          record { few = omega arith; fits = omega arith; is = rw e m.is }

  -- a slot whose reference is in F was dropped
  pub dropped-mem : (i : ℕ) → n ≤ SLOTS_MAX → i < n → mem (word_at s i) (dropped_words l s x c n roots) ≡ true → is_dropped s x (marks_reached l s x c n roots) i ≡ true
  dropped-mem i few low e =
      let m = dropped_member (word_at s i) (mem_occ (word_at s i) (dropped_words l s x c n roots) e) in
      let ml = m.low in
      let a : word_at s i % SPAN ≡ i = omega arith in
      let b : word_at s m.slot % SPAN ≡ m.slot = omega arith in
      let q : i ≡ m.slot = sym a ∙ ap (λ (k : ℕ). k % SPAN) m.is ∙ b in
      rw q m.chosen
