-- `phase` marks exactly what is reachable.
use mathlib.Core.Path.{◌≡◌, refl, sym, ◌∙◌, subst}
use mathlib.Core.Logic.{◌⊎◌, inl, inr, ⊎_elim}
use mathlib.Core.List.Memᴰ
use mathlib.Core.List.{List, [], ◌∷◌, ◌++◌, Memᴰ}
use Prim.Native.Nat.{ℕ, zero, suc, ◌+◌, ◌≤◌, ◌<◌}
use native.Mathlib.Omega.{arith}
use native.Mathlib.Decide.{ℕ_discrete}
use lib.ListN.{length, get_or, set, length-set, length-append}
use lib.Seq.{get_or-set_same, get_or-set_other}
use Rattle.collector_marking.specs.Reach.{SlotReach, by_root, by_object, Marked, ones, put, new, after, queued, run, phase, Exact}

pub ones_le : (m : List ℕ) → ones m ≤ length m
unfolding ones
ones_le [] = omega arith
ones_le (x ∷ xs) = let h : ones xs ≤ length xs = ones_le xs in omega arith

pub ones-set : (m : List ℕ) (s : ℕ) → get_or m s 1 ≡ 0 → ones (set m s 1) ≡ ones m + 1
unfolding ones
ones-set [] s e = omega arith
ones-set (x ∷ xs) zero e = omega arith
ones-set (x ∷ xs) (suc s) e = let h : ones (set xs s 1) ≡ ones xs + 1 = ones-set xs s e in omega arith

below : (m : List ℕ) (s : ℕ) → get_or m s 1 ≡ 0 → s < length m
below [] s e = omega arith
below (x ∷ xs) zero e = omega arith
below (x ∷ xs) (suc s) e = let h : s < length xs = below xs s e in omega arith

was_marked : (m : List ℕ) (s b : ℕ) → get_or m s 1 ≡ suc b → s < length m → Marked m s
was_marked [] s b e h = omega arith
was_marked (x ∷ xs) zero b e h = omega arith
was_marked (x ∷ xs) (suc s) b e h = was_marked xs s b e (omega arith)

-- What one marking does
record One (s : ℕ) (m m' t : List ℕ) : Type 0 where
  grow : (x : ℕ) → Marked m x → Marked m' x
  hits : s < length m → Marked m' s
  why : (x : ℕ) → Marked m' x → Marked m x ⊎ Memᴰ x t
  from : (x : ℕ) → Memᴰ x t → (x ≡ s) × (s < length m)
  count : ones m' ≡ ones m + length t
  len : length m' ≡ length m

one : (m : List ℕ) (s b : ℕ) → get_or m s 1 ≡ b → One s m (put b m s) (new b s)
unfolding put new
one m s zero e = record {
  grow = λ x h. elim (ℕ_discrete x s) [ yes q ↦ rw q (rw (get_or-set_same m s 1 0 (below m s e)) (omega arith)) | no q ↦ rw (get_or-set_other m s x 1 0 q) h ];
  hits = λ h. rw (get_or-set_same m s 1 0 h) (omega arith);
  why = λ x h. elim (ℕ_discrete x s) [ yes q ↦ inr (Memᴰ.head q) | no q ↦ inl (rw (get_or-set_other m s x 1 0 q) at h) ];
  from = λ x h. (Memᴰ.eq_of_singleton h, below m s e);
  count = ones-set m s e;
  len = length-set m s 1;
}
one m s (suc b) e = record {
  grow = λ x h. h;
  hits = λ h. was_marked m s b e h;
  why = λ x h. inl h;
  from = λ x h. absurd (Memᴰ.not-nil h);
  count = omega arith;
  len = refl;
}

-- what the marking of a list of words does
pub record Many (hit : ℕ → ℕ) (ws m m' t : List ℕ) : Type 0 where
  pub grow : (x : ℕ) → Marked m x → Marked m' x
  pub hits : (w : ℕ) → Memᴰ w ws → hit w < length m → Marked m' (hit w)
  pub why : (x : ℕ) → Marked m' x → Marked m x ⊎ Memᴰ x t
  pub from : (x : ℕ) → Memᴰ x t → (w : ℕ) × Memᴰ w ws × (hit w ≡ x) × (x < length m)
  pub count : ones m' ≡ ones m + length t
  pub len : length m' ≡ length m

pub many : (hit : ℕ → ℕ) (ws m : List ℕ) → Many hit ws m (after hit ws m) (queued hit ws m)
unfolding after queued
many hit [] m = record {
  grow = λ x h. h;
  hits = λ w h l. absurd (Memᴰ.not-nil h);
  why = λ x h. inl h;
  from = λ x h. absurd (Memᴰ.not-nil h);
  count = omega arith;
  len = refl;
}
many hit (v ∷ ws) m =
    let b : ℕ = get_or m (hit v) 1 in
    let m₁ : List ℕ = put b m (hit v) in
    let t₁ : List ℕ = new b (hit v) in
    let o : One (hit v) m m₁ t₁ = one m (hit v) b refl in
    let r : Many hit ws m₁ (after hit ws m₁) (queued hit ws m₁) = many hit ws m₁ in
    record {
      grow = λ x h. r.grow x (o.grow x h);
      hits = λ w h l. ⊎_elim (λ q. rw q (r.grow (hit v) (o.hits (rw q at l)))) (λ q. r.hits w q (rw o.len l)) (Memᴰ.cases_cons h);
      why = λ x h. ⊎_elim (λ p. ⊎_elim (λ q. inl q) (λ q. inr (Memᴰ.append_left _ q)) (o.why x p)) (λ p. inr (Memᴰ.append_right t₁ p)) (r.why x h);
      from = λ x h. ⊎_elim (λ p. let q : (x ≡ hit v) × (hit v < length m) = o.from x p in (v, Memᴰ.head refl, sym q.0, rw q.0 q.1))
          (λ p. let q : (w : ℕ) × Memᴰ w ws × (hit w ≡ x) × (x < length m₁) = r.from x p in (q.0, Memᴰ.tail q.1, q.2, (rw o.len at q.3)))
          (Memᴰ.append_cases t₁ h);
      count = simp length-append (omega (arith, o.count, r.count));
      len = r.len ∙ o.len;
    }

module _ (n : ℕ) (hit : ℕ → ℕ) (kids : ℕ → List ℕ) where
  -- Every traced word of slot s reaches a marked slot, if it reaches one
  abbrev Black : List ℕ → ℕ → Type 0
  Black m s = (w : ℕ) → Memᴰ w (kids s) → hit w < n → Marked m (hit w)

  record Good (roots m t : List ℕ) : Type 0 where
    len : length m ≡ n
    sound : (s : ℕ) → Marked m s → SlotReach n hit kids roots s
    todo : (s : ℕ) → Memᴰ s t → Marked m s
    tri : (s : ℕ) → Marked m s → Memᴰ s t ⊎ Black m s
    rooted : (w : ℕ) → Memᴰ w roots → hit w < n → Marked m (hit w)

  good-step : (roots m t : List ℕ) (s : ℕ) → Good roots m (s ∷ t) → Good roots (after hit (kids s) m) (t ++ queued hit (kids s) m)
  good-step roots m t s g =
      let a : Many hit (kids s) m (after hit (kids s) m) (queued hit (kids s) m) = many hit (kids s) m in
      let ms : Marked m s = g.todo s (Memᴰ.head refl) in
      let new-marked : (x : ℕ) → Memᴰ x (queued hit (kids s) m) → Marked (after hit (kids s) m) x =
      (λ x p. let q : (w : ℕ) × Memᴰ w (kids s) × (hit w ≡ x) × (x < length m) = a.from x p in
      (rw q.2 at (a.hits q.0 q.1 (rw q.2 q.3)))) in
      record {
        len = a.len ∙ g.len;
        sound = λ x h. ⊎_elim (λ p. g.sound x p) (λ p. let q : (w : ℕ) × Memᴰ w (kids s) × (hit w ≡ x) × (x < length m) = a.from x p in
            by_object (g.sound s ms) q.1 q.2 (rw g.len at q.3)) (a.why x h);
        todo = λ x h. ⊎_elim (λ p. a.grow x (g.todo x (Memᴰ.tail p))) (λ p. new-marked x p) (Memᴰ.append_cases t h);
        tri = λ x h. ⊎_elim
            (λ p. ⊎_elim
            (λ q. ⊎_elim (λ e. inr (λ w k l. a.hits w (subst (λ y. Memᴰ w (kids y)) e k) (rw g.len l))) (λ e. inl (Memᴰ.append_left _ e)) (Memᴰ.cases_cons q))
            (λ q. inr (λ w k l. a.grow (hit w) (q w k l)))
            (g.tri x p))
            (λ p. inl (Memᴰ.append_right t p))
            (a.why x h);
        rooted = λ w k l. a.grow (hit w) (g.rooted w k l);
      }

  good-run : (f : ℕ) (roots m t : List ℕ) → Good roots m t → n + length t ≤ f + ones m → Good roots (run hit kids f m t) []
  unfolding run
  good-run zero roots m [] g h = g
  good-run zero roots m (s ∷ t) g h = absurd (omega (arith, ones_le m, g.len))
  good-run (suc f) roots m [] g h = g
  good-run (suc f) roots m (s ∷ t) g h = good-run f roots _ _ (good-step roots m t s g) (simp length-append (omega (arith, (many hit (kids s) m).count)))

  good-whole : (roots m : List ℕ) → Good roots m [] → (s : ℕ) → SlotReach n hit kids roots s → Marked m s
  good-whole roots m g s (by_root {w = w} k e l) = rw e at (g.rooted w k (rw e l))
  good-whole roots m g s (by_object {i = i} {w = w} r k e l) = rw e at
      (⊎_elim (λ q. absurd (Memᴰ.not-nil q)) (λ b. b w k (rw e l)) (g.tri i (good-whole roots m g i r)))

  reach_more : (roots ws : List ℕ) (s : ℕ) → SlotReach n hit kids roots s → SlotReach n hit kids (roots ++ ws) s
  reach_more roots ws s (by_root k e l) = by_root (Memᴰ.append_left ws k) e l
  reach_more roots ws s (by_object {i = i} r k e l) = by_object (reach_more roots ws i r) k e l

  -- Marks that are exact for some roots are exact, after a phase, for those roots and the phase's words
  pub phase-exact : (roots ws m : List ℕ) → Exact n hit kids roots m → Exact n hit kids (roots ++ ws) (phase n hit kids ws m)
  unfolding phase
  phase-exact roots ws m x =
      let a : Many hit ws m (after hit ws m) (queued hit ws m) = many hit ws m in
      let start : Good (roots ++ ws) (after hit ws m) (queued hit ws m) = record {
        len = a.len ∙ x.len;
        sound = λ s h. ⊎_elim (λ p. reach_more roots ws s (x.sound s p))
            (λ p. let q : (w : ℕ) × Memᴰ w ws × (hit w ≡ s) × (s < length m) = a.from s p in
            by_root (Memᴰ.append_right roots q.1) q.2 (rw x.len at q.3)) (a.why s h);
        todo = λ s p. let q : (w : ℕ) × Memᴰ w ws × (hit w ≡ s) × (s < length m) = a.from s p in
            (rw q.2 at (a.hits q.0 q.1 (rw q.2 q.3)));
        tri = λ s h. ⊎_elim (λ p. inr (λ w k l. a.grow (hit w) (x.whole (hit w) (by_object (x.sound s p) k refl l)))) (λ p. inl p) (a.why s h);
        rooted = λ w k l. ⊎_elim (λ p. a.grow (hit w) (x.whole (hit w) (by_root p refl l))) (λ p. a.hits w p (rw x.len l)) (Memᴰ.append_cases roots k);
      } in
      let end : Good (roots ++ ws) (run hit kids n (after hit ws m) (queued hit ws m)) [] = good-run n (roots ++ ws) _ _ start (omega (arith, a.count)) in
      record { len = end.len; sound = end.sound; whole = good-whole (roots ++ ws) _ end }

  -- No mark is exact for no roots
  none-reached : (s : ℕ) → SlotReach n hit kids [] s → ⊥
  none-reached s (by_root k e l) = Memᴰ.not-nil k
  none-reached s (by_object {i = i} r k e l) = none-reached i r

  zeros_unmarked : (m : List ℕ) → ones m ≡ 0 → (s : ℕ) → Marked m s → ⊥
  unfolding ones
  zeros_unmarked [] e s h = omega arith
  zeros_unmarked (x ∷ xs) e zero h = omega arith
  zeros_unmarked (x ∷ xs) e (suc s) h = zeros_unmarked xs (omega arith) s h

  pub zeros_exact : (m : List ℕ) → length m ≡ n → ones m ≡ 0 → Exact n hit kids [] m
  zeros_exact m l e = record { len = l; sound = λ s h. absurd (zeros_unmarked m e s h); whole = λ s r. absurd (none-reached s r) }

pub ones-room : (m : List ℕ) (s : ℕ) → get_or m s 1 ≡ 0 → ones m < length m
ones-room m s e = omega (arith, ones-set m s e, ones_le (set m s 1), length-set m s 1)

pub queued-below : (hit : ℕ → ℕ) (ws m : List ℕ) (x : ℕ) → Memᴰ x (queued hit ws m) → x < length m
queued-below hit ws m x h = ((many hit ws m).from x h).3

pub after-length : (hit : ℕ → ℕ) (ws m : List ℕ) → length (after hit ws m) ≡ length m
after-length hit ws m = (many hit ws m).len

pub after-ones : (hit : ℕ → ℕ) (ws m : List ℕ) → ones (after hit ws m) ≡ ones m + length (queued hit ws m)
after-ones hit ws m = (many hit ws m).count

-- Reach is the least set: it lies in every set that holds what the roots reach and is closed
pub reach_least : (n : ℕ) (hit : ℕ → ℕ) (kids : ℕ → List ℕ) (roots : List ℕ) (P : ℕ → Type 0)
    → ((w : ℕ) → Memᴰ w roots → hit w < n → P (hit w)) → ((i w : ℕ) → P i → Memᴰ w (kids i) → hit w < n → P (hit w)) → (s : ℕ) → SlotReach n hit kids roots s → P s
reach_least n hit kids roots P r c s (by_root {w = w} k e l) = subst P e (r w k (rw e l))
reach_least n hit kids roots P r c s (by_object {i = i} {w = w} q k e l) = subst P e (c i w (reach_least n hit kids roots P r c i q) k (rw e l))
