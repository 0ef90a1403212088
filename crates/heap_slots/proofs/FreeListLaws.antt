-- The free list's top, and the slot that a new object takes. Assumes nothing.
use Prim.Native.Nat.{ℕ, zero, suc, ◌+◌, ◌-◌, ◌≤◌, ◌<◌}
use mathlib.Core.Path.{◌≡◌, refl, ap, sym, ◌∙◌}
use mathlib.Core.List.{List, [], ◌∷◌}
use native.Mathlib.Omega.{arith}
use native.Mathlib.Numerals.{add-one}
use lib.ListN.{length, get_or, set}
use lib.Seq.{get_or-set_same, get_or-set_other}
use borrow.Author.Tests.{eq-eqb, ne_eqb}
use Rattle.heap_slots.specs.declared.TakenSlot.{TakenSlot}
use Rattle.heap_slots.specs.declared.Header.{Header}
use Rattle.heap_slots.specs.Header.{header_at}
use Rattle.heap_slots.specs.FreeList.{free_list, Listed, Takes, taken_slot, taken_half}
use Rattle.heap_slots.proofs.Cases.{by_cases, same_or_not}

pub free-pop : (list : List ℕ) (n : ℕ) → (n ≡ 0 → ⊥) → free_list list n ≡ get_or list (n - 1) 0 ∷ free_list list (n - 1)
unfolding free_list
free-pop list zero ne = absurd (ne refl)
free-pop list (suc n) ne = let e : suc n - 1 ≡ n = omega arith in rw e

pub free-none : (list : List ℕ) (n : ℕ) → n ≡ 0 → free_list list n ≡ []
unfolding free_list
free-none list n e = rw e

-- the same words below n, the same list
pub free_ext : (list list' : List ℕ) (n : ℕ) → ((k : ℕ) → k < n → get_or list' k 0 ≡ get_or list k 0) → free_list list' n ≡ free_list list n
unfolding free_list
free_ext list list' zero h = refl
free_ext list list' (suc n) h = rw (h n (omega arith), free_ext list list' n (λ k l. h k (omega arith)))

-- what is known of the slot taken
pub record TakenFacts (s list : List ℕ) (fresh free flag : ℕ) (t : TakenSlot) : Type 0 where
  pub within : t.slot < t.fresh
  pub grown : t.fresh ≤ fresh + 1
  pub old : (j : ℕ) → j < t.fresh → (j ≡ t.slot → ⊥) → j < fresh
  pub low : 65536 + flag ≤ t.half
  pub high : t.half < 98304 + flag

pub taken_facts : {s list : List ℕ} {fresh free flag : ℕ} {t : TakenSlot} → Listed s list fresh free → Takes s list fresh free flag t → TakenFacts s list fresh free flag t
unfolding taken_slot taken_half
taken_facts {s} {list} {fresh} {free} {flag} {t} g k =
    by_cases (same_or_not free 0)
    (λ z.
    let e = eq-eqb free 0 z in
    let es : t.slot ≡ fresh = rw e at k.slot in
    let eh : t.half ≡ 65536 + flag = rw e at k.half in
    let ef : t.fresh ≡ fresh + 1 = rw e at k.fresh_is in
    record { within = omega arith; grown = omega arith; old = λ j lj ne. omega arith; low = omega arith; high = omega arith })
    (λ nz.
    let e = ne_eqb free 0 nz in
    let es : t.slot ≡ get_or list (free - 1) 0 = rw e at k.slot in
    let eh : t.half ≡ (header_at s (get_or list (free - 1) 0)).half + flag = rw e at k.half in
    let ef : t.fresh ≡ fresh = rw e at k.fresh_is in
    let lt : free - 1 < free = omega arith in
    record {
      within = omega (arith, g.inside (free - 1) lt);
      grown = omega arith;
      old = λ j lj ne. omega arith;
      low = omega (arith, g.low (free - 1) lt);
      high = omega (arith, g.high (free - 1) lt);
    })

pub taken-max : {s list : List ℕ} {fresh free flag : ℕ} {t : TakenSlot} (max : ℕ) → Takes s list fresh free flag t → fresh ≤ max → (free ≡ 0 → fresh < max) → t.fresh ≤ max
taken-max {free = free} max k l f =
    by_cases (same_or_not free 0)
    (λ z. let e = rw (eq-eqb free 0 z) at k.fresh_is in omega (arith, f z))
    (λ nz. let e = rw (ne_eqb free 0 nz) at k.fresh_is in omega arith)

-- ---- the list after a store

-- the listed slots keep their kinds and halves
pub listed_ext : {s list : List ℕ} {fresh free : ℕ} (s' : List ℕ) (fresh' : ℕ) → Listed s list fresh free → fresh ≤ fresh'
    → ((k : ℕ) → k < free → ((header_at s' (get_or list k 0)).kind ≡ (header_at s (get_or list k 0)).kind) × ((header_at s' (get_or list k 0)).half ≡ (header_at s (get_or list k 0)).half)) → Listed s' list fresh' free
listed_ext s' fresh' g l h =
    record {
      inside = λ k lk. omega (arith, g.inside k lk);
      empty = λ k lk. (h k lk).0 ∙ g.empty k lk;
      low = λ k lk. omega (arith, g.low k lk, (h k lk).1);
      high = λ k lk. omega (arith, g.high k lk, (h k lk).1);
      once = g.once;
    }

same_words : (h h' : Header) → h' ≡ h → (h'.kind ≡ h.kind) × (h'.half ≡ h.half)
same_words h h' e = (ap (λ (q : Header). q.kind) e, ap (λ (q : Header). q.half) e)

-- slot i, which has an object, gets another header
pub listed_kept : {s list : List ℕ} {fresh free : ℕ} (s' : List ℕ) (i : ℕ) → Listed s list fresh free → ((header_at s i).kind ≡ 0 → ⊥) → ((j : ℕ) → (j ≡ i → ⊥) → header_at s' j ≡ header_at s j) → Listed s' list fresh free
listed_kept {s} {list} {fresh} s' i g p others =
    listed_ext s' fresh g (omega arith) (λ k lk. same_words _ _ (others (get_or list k 0) (λ e. p (rw (← e) (g.empty k lk)))))

-- the slot taken gets its object's header
pub listed-taken : {s list : List ℕ} {fresh free flag : ℕ} {t : TakenSlot} (s' : List ℕ) → Listed s list fresh free → Takes s list fresh free flag t → ((j : ℕ) → (j ≡ t.slot → ⊥) → header_at s' j ≡ header_at s j) → Listed s' list t.fresh t.free
unfolding taken_slot
listed-taken {s} {list} {fresh} {free} {flag} {t} s' g k others =
    let ef : t.free ≡ free - 1 = k.free_is in
    by_cases (same_or_not free 0)
    (λ z.
    rw ef
    (record {
      inside = λ a la. absurd (omega arith);
      empty = λ a la. absurd (omega arith);
      low = λ a la. absurd (omega arith);
      high = λ a la. absurd (omega arith);
      once = λ a b lab lb. absurd (omega arith);
    }))
    (λ nz.
    let es : t.slot ≡ get_or list (free - 1) 0 = rw (ne_eqb free 0 nz) at k.slot in
    let en : t.fresh ≡ fresh = rw (ne_eqb free 0 nz) at k.fresh_is in
    let less : Listed s list fresh (free - 1) =
    record {
      inside = λ a la. g.inside a (omega arith);
      empty = λ a la. g.empty a (omega arith);
      low = λ a la. g.low a (omega arith);
      high = λ a la. g.high a (omega arith);
      once = λ a b lab lb. g.once a b lab (omega arith);
    } in
    rw (ef, en)
    (listed_ext s' fresh less (omega arith) (λ a la. same_words _ _ (others (get_or list a 0) (λ e. g.once a (free - 1) la (omega arith) (e ∙ es))))))

-- slot i loses its object, and is listed on top
pub listed-push : {s list : List ℕ} {fresh free : ℕ} (s' : List ℕ) (i : ℕ) (h : Header) → Listed s list fresh free → i < fresh → free < length list → ((header_at s i).kind ≡ 0 → ⊥)
    → header_at s' i ≡ h → h.kind ≡ 0 → 65536 ≤ h.half → h.half < 98304 → ((j : ℕ) → (j ≡ i → ⊥) → header_at s' j ≡ header_at s j) → Listed s' (set list free i) fresh (free + 1)
listed-push {s} {list} {fresh} {free} s' i h g li lf p here kz lo hi others =
    let top : get_or (set list free i) free 0 ≡ i = get_or-set_same list free i 0 lf in
    let rest : (k : ℕ) → k < free → get_or (set list free i) k 0 ≡ get_or list k 0 = λ k lk. get_or-set_other list free k i 0 (omega arith) in
    let out : (k : ℕ) → k < free → get_or list k 0 ≡ i → ⊥ = λ k lk e. p (rw (← e) (g.empty k lk)) in
    let g' = listed_kept s' i g p others in
    record {
      inside = λ k lk. by_cases (same_or_not k free) (λ e. rw (e, top) li) (λ ne. rw (rest k (omega arith)) (g'.inside k (omega arith)));
      empty = λ k lk. by_cases (same_or_not k free) (λ e. rw (e, top, here) kz) (λ ne. rw (rest k (omega arith)) (g'.empty k (omega arith)));
      low = λ k lk. by_cases (same_or_not k free) (λ e. rw (e, top, here) lo) (λ ne. rw (rest k (omega arith)) (g'.low k (omega arith)));
      high = λ k lk. by_cases (same_or_not k free) (λ e. rw (e, top, here) hi) (λ ne. rw (rest k (omega arith)) (g'.high k (omega arith)));
      once = λ a b lab lb e.
          by_cases (same_or_not b free)
          (λ eb. out a (omega arith) (sym (rest a (omega arith)) ∙ e ∙ rw eb top))
          (λ nb. g.once a b lab (omega arith) (sym (rest a (omega arith)) ∙ e ∙ rest b (omega arith)));
    }

pub free-push : (list : List ℕ) (free i : ℕ) → free < length list → free_list (set list free i) (free + 1) ≡ i ∷ free_list list free
unfolding free_list
free-push list free i l =
    ap (free_list (set list free i)) (add-one free)
    ∙ rw (get_or-set_same list free i 0 l, free_ext list (set list free i) free (λ k lk. get_or-set_other list free k i 0 (omega arith)))
