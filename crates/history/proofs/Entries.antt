-- The map rules keep two facts: the keys of a packed store are its positions, and, insertion without a search apart, no two live entries
-- agree in hash and key.
use Prim.Native.Nat.{ℕ, zero, suc, ◌+◌, ◌-◌, ◌≤◌, ◌<◌}
use mathlib.Core.Path.{◌≡◌, refl, sym, ap, ◌∙◌}
use mathlib.Core.Bool.{Bool, true, false, cond, ◌&&◌, not}
use mathlib.Core.List.{List, [], ◌∷◌, ◌++◌}
use mathlib.Core.Option.{Option, none, some}
use native.Mathlib.Omega.{arith}
use lib.Dec.{eqb, ltb}
use lib.ListN.{length, get_or, set}
use lib.IntN.{ℤ, pos, negsuc}
use borrow.Author.Tests.{eqb-true}
use Rattle.words.specs.WordLaws.{and_left, and_right}
use Rattle.map_store.specs.Store as Maps
use Rattle.map_store.specs.Store.{Entry, Store, blank}
use Rattle.history.proofs.Facts.{eqb_self, ltb_yes}

-- ---- keys that are positions

place-key : (t : Bool) (k n : ℕ) → Maps.is_place (Maps.int_key t k) n ≡ true → k ≡ n
unfolding Maps.is_place Maps.int_key Maps.signed64
place-key true k n h = let z : ◌≡◌ {A = ℕ} 0 1 = cc in absurd (omega arith)
place-key false k n h = go (ltb k 0x8000000000000000) h
  where
    go : (b : Bool) → Maps.is_place (some (cond b (pos k) (negsuc (0x10000000000000000 - suc k)))) n ≡ true → k ≡ n
    go true e = eqb-true k n e
    go false e = let z : ◌≡◌ {A = ℕ} 0 1 = cc in absurd (omega arith)

place-below : (z : Option ℤ) (i n : ℕ) → Maps.is_place z i ≡ true → i < n → Maps.below z n ≡ some i
unfolding Maps.is_place Maps.below
place-below none i n h l = let z : ◌≡◌ {A = ℕ} 0 1 = cc in absurd (omega arith)
place-below (some (pos k)) i n h l = let e = eqb-true k i h in rw (e, ltb_yes i n l)
place-below (some (negsuc k)) i n h l = let z : ◌≡◌ {A = ℕ} 0 1 = cc in absurd (omega arith)

-- ---- packed entries, the first of them at position i: live, and each key is its position

unfoldable pub Packed : Bool → ℕ → List Entry → Type 0
Packed t i [] = Unit {0}
Packed t i (e ∷ es) = ((e.live ≡ true) × (Maps.is_place (Maps.int_key t e.key) i ≡ true)) × Packed t (suc i) es

packed_snoc : (t : Bool) (i : ℕ) (es : List Entry) (e : Entry) → e.live ≡ true → Maps.is_place (Maps.int_key t e.key) (i + length es) ≡ true → Packed t i es → Packed t i (es ++ (e ∷ []))
unfolding Packed
packed_snoc t i [] e l k h = ((l, ap (Maps.is_place (Maps.int_key t e.key)) (omega arith) ∙ k), tt)
packed_snoc t i (x ∷ xs) e l k h = (h.0, packed_snoc t (suc i) xs e l (ap (Maps.is_place (Maps.int_key t e.key)) (omega arith) ∙ k) h.1)

packed-set : (t : Bool) (i : ℕ) (es : List Entry) (p : ℕ) (e : Entry) → e.live ≡ (get_or es p blank).live → e.key ≡ (get_or es p blank).key → Packed t i es → Packed t i (set es p e)
unfolding Packed
packed-set t i [] p e l k h = tt
packed-set t i (x ∷ xs) zero e l k h = ((l ∙ h.0.0, ap (λ (n : ℕ). Maps.is_place (Maps.int_key t n) i) k ∙ h.0.1), h.1)
packed-set t i (x ∷ xs) (suc p) e l k h = (h.0, packed-set t (suc i) xs p e l k h.1)

pub packed-at : (t : Bool) (i : ℕ) (es : List Entry) (p : ℕ) → Packed t i es → p < length es → ((get_or es p blank).live ≡ true) × ((get_or es p blank).key ≡ i + p)
unfolding Packed
packed-at t i [] p h l = absurd (omega arith)
packed-at t i (x ∷ xs) zero h l = (h.0.0, (let e = place-key t x.key i h.0.1 in omega arith))
packed-at t i (x ∷ xs) (suc p) h l = let r = packed-at t (suc i) xs p h.1 (omega arith) in (r.0, (let e = r.1 in omega arith))

-- ---- how many live entries have this hash and key

unfoldable pub alike : ℕ → ℕ → List Entry → ℕ
alike h k [] = 0
alike h k (e ∷ es) = Maps.one (Maps.matches h k e) + alike h k es

matched_key : (h k : ℕ) (e : Entry) → Maps.matches h k e ≡ true → e.key ≡ k
unfolding Maps.matches
matched_key h k e m = eqb-true e.key k (and_right (e.live && eqb e.hash h) (eqb e.key k) m)

matched_hash : (h k : ℕ) (e : Entry) → Maps.matches h k e ≡ true → e.hash ≡ h
unfolding Maps.matches
matched_hash h k e m = eqb-true e.hash h (and_right e.live (eqb e.hash h) (and_left (e.live && eqb e.hash h) (eqb e.key k) m))

dead_unmatched : (h k : ℕ) (e : Entry) → e.live ≡ false → Maps.matches h k e ≡ false
unfolding Maps.matches
dead_unmatched h k e d = rw d

alike_snoc : (h k : ℕ) (es : List Entry) (e : Entry) → alike h k (es ++ (e ∷ [])) ≡ alike h k es + Maps.one (Maps.matches h k e)
unfolding alike
alike_snoc h k [] e = omega arith
alike_snoc h k (x ∷ xs) e = omega (arith, alike_snoc h k xs e)

alike_set : (h k : ℕ) (es : List Entry) (p : ℕ) (e : Entry) → (Maps.matches h k e ≡ true → Maps.matches h k (get_or es p blank) ≡ true) → alike h k (set es p e) ≤ alike h k es
unfolding alike
alike_set h k [] p e m = omega arith
alike_set h k (x ∷ xs) zero e m = go (Maps.matches h k e) (Maps.matches h k x) m
  where
    go : (a b : Bool) → (a ≡ true → b ≡ true) → Maps.one a + alike h k xs ≤ Maps.one b + alike h k xs
    go false b n = omega arith
    go true true n = omega arith
    go true false n = let x = n refl in let z : ◌≡◌ {A = ℕ} 0 1 = cc in absurd (omega arith)
alike_set h k (x ∷ xs) (suc p) e m = omega (arith, alike_set h k xs p e m)

alike_live : (h k : ℕ) (es : List Entry) → alike h k (Maps.live_only es) ≡ alike h k es
unfolding alike Maps.live_only
alike_live h k [] = refl
alike_live h k (e ∷ es) = go e.live refl (alike_live h k es)
  where
    go : (b : Bool) → e.live ≡ b → alike h k (Maps.live_only es) ≡ alike h k es → alike h k (cond b (e ∷ Maps.live_only es) (Maps.live_only es)) ≡ Maps.one (Maps.matches h k e) + alike h k es
    go true l ih = omega arith
    go false l ih = rw (dead_unmatched h k e l) (omega arith)

-- an absent key has none
absent_hashed : (h k : ℕ) (es : List Entry) (i : ℕ) → Maps.find_from h k es i ≡ none → alike h k es ≡ 0
unfolding alike Maps.first_where
absent_hashed h k [] i e = refl
absent_hashed h k (x ∷ xs) i e = go (Maps.matches h k x) e (λ f. absent_hashed h k xs (suc i) f)
  where
    go : (b : Bool) → cond b (some i) (Maps.find_from h k xs (suc i)) ≡ none → (Maps.find_from h k xs (suc i) ≡ none → alike h k xs ≡ 0) → Maps.one b + alike h k xs ≡ 0
    go true f ih = let z : ◌≡◌ {A = ℕ} 0 1 = cc in absurd (omega arith)
    go false f ih = omega (arith, ih f)

absent_packed : (t : Bool) (h k i n : ℕ) (es : List Entry) → Packed t i es → i + length es ≤ n → Maps.below (Maps.int_key t k) n ≡ none → alike h k es ≡ 0
unfolding alike Packed
absent_packed t h k i n [] p l e = refl
absent_packed t h k i n (x ∷ xs) p l e = go (Maps.matches h k x) refl (absent_packed t h k (suc i) n xs p.1 (omega arith) e)
  where
    go : (b : Bool) → Maps.matches h k x ≡ b → alike h k xs ≡ 0 → Maps.one b + alike h k xs ≡ 0
    go false m ih = omega arith
    go true m ih =
        let f = place-below (Maps.int_key t k) i n (ap (λ (y : ℕ). Maps.is_place (Maps.int_key t y) i) (sym (matched_key h k x m)) ∙ p.0.1) (omega arith) in
        let z : ◌≡◌ {A = ℕ} 0 1 = cc (sym e ∙ f) in absurd (omega arith)

-- ---- the two facts of a store

unfoldable pub PackedStore : Bool → Store → Type 0
PackedStore t s = s.hashed ≡ false → Packed t 0 s.entries

unfoldable pub SingleStore : Store → Type 0
SingleStore s = (h k : ℕ) → alike h k s.entries ≤ 1

-- a store that is hashed
hashed-packed : (t : Bool) (s : Store) → s.hashed ≡ true → PackedStore t s
unfolding PackedStore
hashed-packed t s h e = let z : ◌≡◌ {A = ℕ} 0 1 = cc (sym h ∙ e) in absurd (omega arith)

removed_hashed : (p : ℕ) (s : Store) → (Maps.removed_at p s).hashed ≡ true
unfolding Maps.removed_at Maps.settled Maps.with_dead Maps.become_hashed Maps.compacted
removed_hashed p s = go (Maps.entry_of s p).live (Maps.compacts (Maps.dead (Maps.with_dead p (Maps.become_hashed s))) (Maps.living (Maps.with_dead p (Maps.become_hashed s))))
  where
    go : (a b : Bool) → (cond a (cond b (Maps.compacted (Maps.with_dead p (Maps.become_hashed s))) (Maps.with_dead p (Maps.become_hashed s))) (Maps.become_hashed s)).hashed ≡ true
    go true true = refl
    go true false = refl
    go false b = refl

-- ---- the rules keep the first

pub packed-value : (t : Bool) (p v : ℕ) (s : Store) → PackedStore t s → PackedStore t (Maps.with_value p v s)
unfolding PackedStore Maps.with_value
packed-value t p v s h e = packed-set t 0 s.entries p _ refl refl (h e)

pub packed-noted : (t : Bool) (z : ℤ) (s : Store) → PackedStore t s → PackedStore t (Maps.noted_key_of z s)
unfolding PackedStore Maps.noted_key_of
packed-noted t z s h = h

pub packed-inserted : (t : Bool) (h k v : ℕ) (s : Store) → PackedStore t s → PackedStore t (Maps.inserted t h k v s)
unfolding PackedStore Maps.inserted Maps.appended Maps.become_hashed Maps.stays_packed
packed-inserted t h k v s p = go (Maps.stays_packed t k s) refl
  where
    go : (b : Bool) → (not s.hashed && Maps.is_place (Maps.int_key t k) (Maps.places s)) ≡ b → PackedStore t (Maps.appended h k v (cond b s (Maps.become_hashed s)))
    go true e f = packed_snoc t 0 s.entries _ refl (ap (Maps.is_place (Maps.int_key t k)) (omega arith) ∙ and_right (not s.hashed) _ e) (p f)
    go false e f = let z : ◌≡◌ {A = ℕ} 0 1 = cc in absurd (omega arith)

pub packed-put : (t : Bool) (h k v : ℕ) (s : Store) → PackedStore t s → PackedStore t (Maps.put t h k v s)
unfolding Maps.put_at
packed-put t h k v s p = go (Maps.find t h k s)
  where
    go : (o : Option ℕ) → PackedStore t (Maps.put_at o t h k v s)
    go none = packed-inserted t h k v s p
    go (some q) = packed-value t q v s p

pub packed_removed_at : (t : Bool) (p : ℕ) (s : Store) → PackedStore t (Maps.removed_at p s)
packed_removed_at t p s = hashed-packed t (Maps.removed_at p s) (removed_hashed p s)

pub packed_removed : (t : Bool) (h k : ℕ) (s : Store) → PackedStore t s → PackedStore t (Maps.removed_key t h k s)
unfolding Maps.removed_found
packed_removed t h k s p = go (Maps.find t h k s)
  where
    go : (o : Option ℕ) → PackedStore t (Maps.removed_found o s)
    go none = p
    go (some q) = packed_removed_at t q s

-- ---- and the second

pub single_value : (p v : ℕ) (s : Store) → SingleStore s → SingleStore (Maps.with_value p v s)
unfolding SingleStore Maps.with_value Maps.matches
single_value p v s u h k = let a = alike_set h k s.entries p (Maps.revalued v (Maps.entry_of s p)) (λ m. m) in let b = u h k in omega arith

pub single_noted : (z : ℤ) (s : Store) → SingleStore s → SingleStore (Maps.noted_key_of z s)
unfolding SingleStore Maps.noted_key_of
single_noted z s u = u

single_dead : (p : ℕ) (s : Store) → SingleStore s → SingleStore (Maps.with_dead p s)
unfolding SingleStore Maps.with_dead Maps.matches
single_dead p s u h k = let a = alike_set h k s.entries p (Maps.killed (Maps.entry_of s p)) (λ m. let z : ◌≡◌ {A = ℕ} 0 1 = cc (m, dead_unmatched h k (Maps.killed (Maps.entry_of s p)) refl) in absurd (omega arith)) in let b = u h k in omega arith

single_settled : (s : Store) → SingleStore s → SingleStore (Maps.settled s)
unfolding SingleStore Maps.settled Maps.compacted
single_settled s u h k = go (Maps.compacts (Maps.dead s) (Maps.living s))
  where
    go : (b : Bool) → alike h k (cond b (Maps.compacted s) s).entries ≤ 1
    go true = let a = alike_live h k s.entries in let b = u h k in omega arith
    go false = u h k

pub single_removed_at : (p : ℕ) (s : Store) → SingleStore s → SingleStore (Maps.removed_at p s)
unfolding Maps.removed_at
single_removed_at p s u = go (Maps.entry_of s p).live
  where
    hashed : SingleStore (Maps.become_hashed s)
    hashed = unfold SingleStore in unfold Maps.become_hashed in u

    go : (b : Bool) → SingleStore (cond b (Maps.settled (Maps.with_dead p (Maps.become_hashed s))) (Maps.become_hashed s))
    go true = single_settled (Maps.with_dead p (Maps.become_hashed s)) (single_dead p (Maps.become_hashed s) hashed)
    go false = hashed

pub single_removed : (t : Bool) (h k : ℕ) (s : Store) → SingleStore s → SingleStore (Maps.removed_key t h k s)
unfolding Maps.removed_found
single_removed t h k s u = go (Maps.find t h k s)
  where
    go : (o : Option ℕ) → SingleStore (Maps.removed_found o s)
    go none = u
    go (some q) = single_removed_at q s u

-- a key that find does not find is in no live entry
absent : (t : Bool) (h k : ℕ) (s : Store) → PackedStore t s → Maps.find t h k s ≡ none → alike h k s.entries ≡ 0
unfolding PackedStore Maps.find
absent t h k s p e = go s.hashed refl e
  where
    go : (b : Bool) → s.hashed ≡ b → cond b (Maps.find_from h k s.entries 0) (Maps.below (Maps.int_key t k) (Maps.places s)) ≡ none → alike h k s.entries ≡ 0
    go true q f = absent_hashed h k s.entries 0 f
    go false q f = absent_packed t h k 0 (Maps.places s) s.entries (p q) (omega arith) f

single_inserted : (t : Bool) (h k v : ℕ) (s : Store) → SingleStore s → alike h k s.entries ≡ 0 → SingleStore (Maps.inserted t h k v s)
unfolding SingleStore Maps.inserted Maps.appended Maps.become_hashed
single_inserted t h k v s u z x y = go (Maps.stays_packed t k s)
  where
    new : Entry
    new = record { hash = h; key = k; value = v; seq = s.next_seq; live = true }

    added : (b : Bool) → Maps.matches x y new ≡ b → alike x y s.entries + Maps.one b ≤ 1
    added false m = let a = u x y in omega arith
    added true m = let a : alike x y s.entries ≡ 0 = ap (λ (i : ℕ). alike i y s.entries) (sym (matched_hash x y new m)) ∙ ap (λ (i : ℕ). alike h i s.entries) (sym (matched_key x y new m)) ∙ z in omega arith

    go : (b : Bool) → alike x y (Maps.appended h k v (cond b s (Maps.become_hashed s))).entries ≤ 1
    go true = let a = alike_snoc x y s.entries new in let b = added (Maps.matches x y new) refl in omega arith
    go false = let a = alike_snoc x y s.entries new in let b = added (Maps.matches x y new) refl in omega arith

pub single_put : (t : Bool) (h k v : ℕ) (s : Store) → PackedStore t s → SingleStore s → SingleStore (Maps.put t h k v s)
unfolding Maps.put_at
single_put t h k v s p u = go (Maps.find t h k s) refl
  where
    go : (o : Option ℕ) → Maps.find t h k s ≡ o → SingleStore (Maps.put_at o t h k v s)
    go none e = single_inserted t h k v s u (absent t h k s p e)
    go (some q) e = single_value q v s u

-- ---- positions

pub matches-own : (e : Entry) → e.live ≡ true → Maps.matches e.hash e.key e ≡ true
unfolding Maps.matches
matches-own e l = rw (l, eqb_self e.hash, eqb_self e.key)

alike_at : (h k : ℕ) (es : List Entry) (p : ℕ) → p < length es → Maps.matches h k (get_or es p blank) ≡ true → 1 ≤ alike h k es
unfolding alike
alike_at h k [] p l m = absurd (omega arith)
alike_at h k (x ∷ xs) zero l m = rw m (omega arith)
alike_at h k (x ∷ xs) (suc p) l m = let a = alike_at h k xs p (omega arith) m in omega arith

-- two positions of one hash and key are one
pub alike_once : (h k : ℕ) (es : List Entry) (p q : ℕ) → alike h k es ≤ 1 → p < length es → q < length es → Maps.matches h k (get_or es p blank) ≡ true → Maps.matches h k (get_or es q blank) ≡ true → p ≡ q
unfolding alike
alike_once h k [] p q n a b x y = absurd (omega arith)
alike_once h k (e ∷ es) zero zero n a b x y = refl
alike_once h k (e ∷ es) zero (suc q) n a b x y = let c = alike_at h k es q (omega arith) y in let d : 1 + alike h k es ≤ 1 = rw x at n in absurd (omega arith)
alike_once h k (e ∷ es) (suc p) zero n a b x y = let c = alike_at h k es p (omega arith) x in let d : 1 + alike h k es ≤ 1 = rw y at n in absurd (omega arith)
alike_once h k (e ∷ es) (suc p) (suc q) n a b x y = ap suc (alike_once h k es p q (omega arith) (omega arith) (omega arith) x y)
