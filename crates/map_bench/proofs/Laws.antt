-- The loops' invariants.
use mathlib.Core.Path.{◌≡◌, refl, sym, ap, subst, ◌∙◌}
use mathlib.Core.Bool.{Bool, true, false, cond}
use mathlib.Core.List.{List, [], ◌∷◌}
use mathlib.Core.Option.{Option, none, some}
use Prim.Native.Nat.{ℕ, zero, suc, ◌+◌, ◌-◌, ◌%◌, ◌≤◌, ◌<◌}
use native.Mathlib.Numerals.{add-one}
use native.Mathlib.Omega.{arith}
use lib.Dec.{eqb}
use borrow.Author.Tests.{le-leb, lt-leb, lt-ltb, le-ltb}
use lib.ListN.{length, get_or}
use Rattle.map_store.specs.Store as S
use Rattle.map_store.specs.View.{store_of, room_of, position}
use Rattle.map_store.specs.Map.{Good, Became, Valued}
use Rattle.map_store.specs.declared.MapStore.{MapStore}
use Rattle.map_bench.specs.Loops.{loaded, bare, Ran, Answered, AnsweredBy, refusal_number, put_refusal, put_to, removed_to, one_of, met_to, front, onward, walked}
use Rattle.map_bench.specs.declared.Refusal.{Refusal}
use Rattle.map_bench.specs.declared.Refusal.TheVariants.{NoCells, NumbersSpent}
use Rattle.std.specs.Prelude as Prelude
use Rattle.std.specs.Prelude.{Result, Ok, Err, Some, None, is_some, is_err}

-- put
module _ (hash key value : ℕ) (s : MapStore) (cells : List ℕ) where
  pub put-found : (p : ℕ) (cells' : List ℕ) → some p ≡ S.find false hash key (store_of s cells) → Valued p value s cells cells' → Answered hash key value s cells (Ok tt) s cells'
  unfolding AnsweredBy refusal_number put_refusal S.put_at
  put-found p cells' h X = record { number = rw (← h); leaves = (X.store ∙ rw (← h), X.good) }

  module _ (h : none ≡ S.find false hash key (store_of s cells)) where
    pub put-spent : 4294967296 ≤ s.fresh → Answered hash key value s cells (Err NumbersSpent) s cells
    unfolding AnsweredBy refusal_number put_refusal
    put-spent l = record { number = rw (← h, le-leb 4294967296 s.fresh l); leaves = (refl, refl) }

    module _ (l : s.fresh < 4294967296) {wanted : ℕ} (e : wanted ≡ S.cells_of (S.room_after_insert false key (store_of s cells) (room_of s))) where
      pub put_full : length cells < wanted → Answered hash key value s cells (Err NoCells) s cells
      unfolding AnsweredBy refusal_number put_refusal
      put_full m = record { number = rw (← h, lt-leb 4294967296 s.fresh l, ← e, lt-ltb (length cells) wanted m); leaves = (refl, refl) }

      pub put-new : wanted ≤ length cells → (r : MapStore) (cells' : List ℕ) (R : S.Room) → Became (S.inserted false hash key value) R s cells r cells' → Answered hash key value s cells (Ok tt) r cells'
      unfolding AnsweredBy refusal_number put_refusal S.put_at
      put-new m r cells' R B = record { number = rw (← h, lt-leb 4294967296 s.fresh l, ← e, le-ltb (length cells) wanted m); leaves = (B.store ∙ rw (← h), B.good) }

-- no call of the loops notes a key
fit-noted : (b : Bool) (s : S.Store) → (cond b s (S.become_hashed s)).noted ≡ s.noted
unfolding S.become_hashed
fit-noted true s = refl
fit-noted false s = refl

put-at-noted : (o : Option ℕ) (hash key value : ℕ) (s : S.Store) → (S.put_at o false hash key value s).noted ≡ s.noted
unfolding S.put_at S.inserted S.appended S.with_value
put-at-noted none hash key value s = fit-noted (S.stays_packed false key s) s
put-at-noted (some p) hash key value s = refl

settled-noted : (b : Bool) (s : S.Store) → (cond b (S.compacted s) s).noted ≡ s.noted
unfolding S.compacted
settled-noted true s = refl
settled-noted false s = refl

removed_noted : (b : Bool) (p : ℕ) (s : S.Store) → (cond b (S.settled (S.with_dead p (S.become_hashed s))) (S.become_hashed s)).noted ≡ s.noted
unfolding S.settled S.with_dead S.become_hashed
removed_noted true p s = let t = S.with_dead p (S.become_hashed s) in settled-noted (S.compacts (S.dead t) (S.living t)) t
removed_noted false p s = refl

found-noted : (o : Option ℕ) (s : S.Store) → (S.removed_found o s).noted ≡ s.noted
unfolding S.removed_found S.removed_at
found-noted none s = refl
found-noted (some p) s = removed_noted (S.entry_of s p).live p s

pub put-noted : (hs ks : List ℕ) (n : ℕ) (s : S.Store) → (put_to hs ks n s).noted ≡ s.noted
unfolding put_to
put-noted hs ks zero s = refl
put-noted hs ks (suc n) s = put-at-noted _ _ _ _ _ ∙ put-noted hs ks n s

pub remove-noted : (hs ks : List ℕ) (n : ℕ) (s : S.Store) → (removed_to hs ks n s).noted ≡ s.noted
unfolding removed_to
remove-noted hs ks zero s = refl
remove-noted hs ks (suc n) s = found-noted _ _ ∙ remove-noted hs ks n s

-- the rules' turns
pub put_turn : (hs ks : List ℕ) (i : ℕ) (s : S.Store) → S.put false (get_or hs i 0) (get_or ks i 0) i (put_to hs ks i s) ≡ put_to hs ks (i + 1) s
unfolding put_to
put_turn hs ks i s = sym (ap (λ (n : ℕ). put_to hs ks n s) (add-one i))

pub remove_turn : (hs ks : List ℕ) (i : ℕ) (s : S.Store) → S.removed_key false (get_or hs i 0) (get_or ks i 0) (removed_to hs ks i s) ≡ removed_to hs ks (i + 1) s
unfolding removed_to
remove_turn hs ks i s = sym (ap (λ (n : ℕ). removed_to hs ks n s) (add-one i))

pub met_turn : (answer : ℕ → Option ℕ) (i : ℕ) (o : Option ℕ) → o ≡ answer i → met_to answer i + one_of o ≡ met_to answer (i + 1)
unfolding met_to
met_turn answer i o e = ap (λ (x : Option ℕ). met_to answer i + one_of x) e ∙ sym (ap (met_to answer) (add-one i))

pub put_zero : (hs ks : List ℕ) (s : S.Store) → s ≡ put_to hs ks 0 s
unfolding put_to
put_zero hs ks s = refl

pub remove_zero : (hs ks : List ℕ) (s : S.Store) → s ≡ removed_to hs ks 0 s
unfolding removed_to
remove_zero hs ks s = refl

pub met_zero : (answer : ℕ → Option ℕ) → 0 ≡ met_to answer 0
unfolding met_to
met_zero answer = refl

-- a loop under way, after i keys
pub record Running (rule : ℕ → S.Store → S.Store) (words₀ cells₀ cells : List ℕ) (store : MapStore) (i : ℕ) : Type 0 where
  pub good : Good store cells
  pub so_far : store_of store cells ≡ rule i (store_of (loaded words₀) cells₀)
  pub same-cells : length cells ≡ length cells₀

module _ (rule : ℕ → S.Store → S.Store) (words₀ cells₀ : List ℕ) where
  pub run-start : (store : MapStore) → store ≡ loaded words₀ → ((s : S.Store) → s ≡ rule 0 s) → Good (loaded words₀) cells₀ → Running rule words₀ cells₀ cells₀ store 0
  run-start store e z G = rw e (record { good = G; so_far = z (store_of (loaded words₀) cells₀); same-cells = refl })

  module _ (cells : List ℕ) (store : MapStore) (i : ℕ) (X : Running rule words₀ cells₀ cells store i) where
    pub run_step : (r : MapStore) (cells' : List ℕ) → length cells' ≡ length cells → Good r cells' → store_of r cells' ≡ rule (i + 1) (store_of (loaded words₀) cells₀)
        → Running rule words₀ cells₀ cells' r (i + 1)
    run_step r cells' l G e = record { good = G; so_far = e; same-cells = l ∙ X.same-cells }

    pub run_end : ((s : S.Store) → (rule i s).noted ≡ s.noted) → (words' : List ℕ) → loaded words' ≡ bare store → Ran (rule i) words₀ cells₀ words' cells
    run_end quiet words' e =
        let none-noted : (store_of store cells).noted ≡ none = ap (λ (s : S.Store). s.noted) X.so_far ∙ quiet (store_of (loaded words₀) cells₀) in
        let same : store_of (bare store) cells ≡ store_of store cells =
        ap (λ (o : Option _). record { hashed = store.hashed; noted = o; entries = (store_of store cells).entries; next_seq = store.fresh; epoch = store.epoch }) (sym none-noted) in
        let G = X.good in
        let kept : Good (bare store) cells =
        record { live = G.live; fits = G.fits; room = G.room; small = G.small; numbers = G.numbers; numbered = G.numbered; packed = G.packed; indexed = G.indexed } in
        record { store = ap (λ (m : MapStore). store_of m cells) e ∙ same ∙ X.so_far; good = subst (λ (m : MapStore). Good m cells) (sym e) kept }

-- find and the steps of a cursor
-- an answer more: it is counted where it is a position
module _ (answer : ℕ → Option ℕ) (i r : ℕ) (C : (r ≡ met_to answer i) × (r ≤ i)) where
  pub count_some : {p : ℕ} → some p ≡ answer i → (r + 1 ≡ met_to answer (i + 1)) × (r + 1 ≤ i + 1)
  count_some h = let t = met_turn answer i _ h in (omega (arith, C.0, t), omega (arith, C.1))

  pub count_none : none ≡ answer i → (r ≡ met_to answer (i + 1)) × (r ≤ i + 1)
  count_none h = let t = met_turn answer i _ h in (omega (arith, C.0, t), omega (arith, C.1))

-- a walk of a cursor under way, after i steps
pub record Walking (n i : ℕ) (s : S.Store) (c : S.Cursor) : Type 0 where
  pub within : i ≤ n
  pub left : i + walked (n - i) s c ≡ walked n s front

pub walk_start : (n : ℕ) (s : S.Store) → Walking n 0 s front
walk_start n s = record { within = omega arith; left = (let z = ap (λ (k : ℕ). walked k s front) (let e : n - 0 ≡ n = omega arith in e) in omega (arith, z)) }

module _ (n i : ℕ) (s : S.Store) (c : S.Cursor) (W : Walking n i s c) where
  module _ (h : i < n) (t : S.Step) (e : t ≡ S.next_of s c) where
    turned : walked (n - i) s c ≡ onward t.answer (walked (n - (i + 1)) s t.cursor)
    unfolding walked
    turned =
        ap (λ (k : ℕ). walked k s c) (let z : n - i ≡ suc (n - (i + 1)) = omega arith in z)
        ∙ ap (λ (x : S.Step). onward x.answer (walked (n - (i + 1)) s x.cursor)) (sym e)

    pub walk_ends : t.answer ≡ none → i ≡ walked n s front
    walk_ends a = let z : walked (n - i) s c ≡ 0 = turned ∙ ap (λ (o : Option ℕ). onward o (walked (n - (i + 1)) s t.cursor)) a in omega (arith, W.left, z)

    pub walk_on : (p : ℕ) → t.answer ≡ some p → Walking n (i + 1) s t.cursor
    walk_on p a =
        let z : walked (n - i) s c ≡ suc (walked (n - (i + 1)) s t.cursor) = turned ∙ ap (λ (o : Option ℕ). onward o (walked (n - (i + 1)) s t.cursor)) a in
        record { within = omega arith; left = omega (arith, W.left, z) }

  pub walk_done : n ≤ i → i ≡ walked n s front
  unfolding walked
  walk_done h =
      let z : walked (n - i) s c ≡ 0 = ap (λ (k : ℕ). walked k s c) (let z : n - i ≡ 0 = omega arith in z) in
      omega (arith, W.left, z)

-- the answer of a step, by the test on what was found
pub no_answer : (o : Prelude.Option ℕ) → is_some o ≡ false → position o ≡ none
no_answer None e = refl
no_answer (Some p) e = absurd (let z : ◌≡◌ {A = ℕ} 0 1 = cc in omega arith)

pub some_answer : (o : Prelude.Option ℕ) → is_some o ≡ true → (p : ℕ) × (position o ≡ some p)
some_answer (Some p) e = (p, refl)
some_answer None e = absurd (let z : ◌≡◌ {A = ℕ} 0 1 = cc in omega arith)

-- save
pub saved : (m : MapStore) (h : ℕ) → m.epoch < 4294967296 → eqb h 1 ≡ m.hashed
    → loaded (m.len ∷ m.live ∷ m.fresh ∷ m.capacity ∷ m.index ∷ m.epoch ∷ h ∷ []) ≡ bare m
saved m h l e = let z : m.epoch % 4294967296 ≡ m.epoch = omega arith in rw (e, z)

-- the turns of map_bench_put and map_bench_remove
module _ (hs ks words₀ cells₀ cells : List ℕ) (store : MapStore) (i : ℕ) where
  module _ (X : Running (put_to hs ks) words₀ cells₀ cells store i) (hash key value : ℕ) (r : MapStore) (cells' : List ℕ) where
    pub put-done : hash ≡ get_or hs i 0 → key ≡ get_or ks i 0 → value ≡ i → (out : Result Unit Refusal) → is_err out ≡ false → Answered hash key value store cells out r cells'
        → length cells' ≡ length cells → Running (put_to hs ks) words₀ cells₀ cells' r (i + 1)
    unfolding AnsweredBy
    put-done eh ek ev (Ok u) e A l =
        run_step (put_to hs ks) words₀ cells₀ cells store i X r cells' l A.leaves.1
        (rw (eh, ek, ev) at A.leaves.0 ∙ ap (S.put false (get_or hs i 0) (get_or ks i 0) i) X.so_far ∙ put_turn hs ks i (store_of (loaded words₀) cells₀))
    put-done eh ek ev (Err n) e A l = absurd (let z : ◌≡◌ {A = ℕ} 0 1 = cc in omega arith)

    pub put_stop : (out : Result Unit Refusal) → is_err out ≡ true → Answered hash key value store cells out r cells' → Running (put_to hs ks) words₀ cells₀ cells' r i
    unfolding AnsweredBy
    put_stop (Err n) e A = rw (A.leaves.0, A.leaves.1) X
    put_stop (Ok u) e A = absurd (let z : ◌≡◌ {A = ℕ} 0 1 = cc in omega arith)

  pub remove-done : Running (removed_to hs ks) words₀ cells₀ cells store i → (hash key : ℕ) → hash ≡ get_or hs i 0 → key ≡ get_or ks i 0 → (r : MapStore) (cells' : List ℕ) (R : S.Room)
      → Became (S.removed_key false hash key) R store cells r cells' → length cells' ≡ length cells → Running (removed_to hs ks) words₀ cells₀ cells' r (i + 1)
  remove-done X hash key eh ek r cells' R B l =
      run_step (removed_to hs ks) words₀ cells₀ cells store i X r cells' l B.good
      (rw (eh, ek) at B.store ∙ ap (S.removed_key false (get_or hs i 0) (get_or ks i 0)) X.so_far ∙ remove_turn hs ks i (store_of (loaded words₀) cells₀))
