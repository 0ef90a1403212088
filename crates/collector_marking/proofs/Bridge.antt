-- A slot is reachable over the slots exactly if its reference is in document 01's least set.
use Prim.Native.Nat.{ℕ, ◌+◌, ◌*◌, ◌/◌, ◌%◌, ◌≤◌, ◌<◌}
use mathlib.Core.Path.{◌≡◌, refl, sym, ap, ◌∙◌}
use mathlib.Core.Logic.{◌≢◌, ◌↔◌}
use mathlib.Core.Bool.{true}
use mathlib.Core.List.{List, ◌++◌}
use mathlib.Core.Option.{none, some, some-injective}
use native.Mathlib.Omega.{arith}
use native.Mathlib.Decide.{ℕ_discrete, dec_lt, dec_le}
use lib.Dec.{leb}
use lib.ListN.{get_or}
use borrow.Author.Tests.{lt-ltb, le-ltb, le-leb, lt-leb, eq-eqb, ne_eqb}
use Rattle.heap_slots.specs.Limits.{BOX_HALF, GENERATIONS, SLOT_WORDS, SLOTS_MAX, SPAN}
use Rattle.heap_slots.specs.Header.{header_at}
use Rattle.heap_slots.specs.Lookup.{hit_first}
use Rattle.heap_cells.specs.Regions.{raw_at}
use Rattle.heap_slots.specs.declared.Header.{Header}
use Rattle.layout.specs.Layout.{Layout}
use Rattle.model.specs.Reference.{flag, word}
use Rattle.model.specs.Content.{Content}
use Rattle.model.specs.View.{Live, View, look, mem, reference_of}
use Rattle.model.specs.Slots.{live, live_object, slot_view}
use Rattle.model.specs.Model.{view_of}
use Rattle.model.specs.Kept.{Reach, root, onward, reached, finalizable, kept}
use Rattle.history.proofs.Coding.{ref_in-word, word-ref_in}
use Rattle.history.proofs.Reaching.{look-some, look_of}
use Rattle.history.proofs.Marking.{reached-is, kept-is}
use Rattle.history.proofs.Finalizing.{Valid}
use Rattle.heap.specs.Kinds.{content_of, object_of}
use Rattle.heap.specs.State.{State, raw_of, more_of, slot_of, slot_from, model_of}
use Rattle.heap.specs.Good.{Good, SlotGood}
use Rattle.collector_marking.specs.Reach.{SlotReach, by_root, by_object, Marked, Exact}
use Rattle.collector_marking.specs.Children.{hit, children, word_at}

-- ---- words and slots

pub hit-outside : (s : List ℕ) (n w : ℕ) → n ≤ w % SPAN → hit s n w ≡ n
unfolding hit hit_first
hit-outside s n w h = rw (le-ltb (w % SPAN) n h)

module _ (s : List ℕ) (n w : ℕ) {h : Header} (q : h ≡ header_at s (w % SPAN)) (l : w % SPAN < n) where
  pub hit_other : (h.half ≡ w / SPAN → ⊥) → hit s n w ≡ n
  unfolding hit hit_first header_at
  hit_other e =
      let o : get_or s (w % SPAN * SLOT_WORDS) 0 ≢ w / SPAN = λ x. e (ap (λ (y : Header). y.half) q ∙ x) in
      rw (lt-ltb (w % SPAN) n l, ne_eqb (get_or s (w % SPAN * SLOT_WORDS) 0) (w / SPAN) o)

  module _ (e : h.half ≡ w / SPAN) where
    tag : (header_at s (w % SPAN)).half ≡ w / SPAN
    tag = ap (λ (y : Header). y.half) (sym q) ∙ e

    pub hit-empty : h.kind ≡ 0 → hit s n w ≡ n
    unfolding hit hit_first header_at
    hit-empty k =
        let o : get_or s (w % SPAN * SLOT_WORDS + 1) 0 ≡ 0 = ap (λ (y : Header). y.kind) (sym q) ∙ k in
        rw (lt-ltb (w % SPAN) n l, eq-eqb (get_or s (w % SPAN * SLOT_WORDS) 0) (w / SPAN) tag, eq-eqb (get_or s (w % SPAN * SLOT_WORDS + 1) 0) 0 o)

    pub hit-there : (h.kind ≡ 0 → ⊥) → hit s n w ≡ w % SPAN
    unfolding hit hit_first header_at
    hit-there k =
        let o : get_or s (w % SPAN * SLOT_WORDS + 1) 0 ≢ 0 = λ x. k (ap (λ (y : Header). y.kind) q ∙ x) in
        rw (lt-ltb (w % SPAN) n l, eq-eqb (get_or s (w % SPAN * SLOT_WORDS) 0) (w / SPAN) tag, ne_eqb (get_or s (w % SPAN * SLOT_WORDS + 1) 0) 0 o)

-- what a hit tells
pub record Hits (s : List ℕ) (w i : ℕ) : Type 0 where
  pub present : (header_at s i).kind ≢ 0
  pub named_so : w ≡ word_at s i

pub hit-is : (s : List ℕ) (n w i : ℕ) → hit s n w ≡ i → i < n → Hits s w i
hit-is s n w i e l = go (dec_lt (w % SPAN) n)
  where
    there : (low : w % SPAN < n) → (header_at s (w % SPAN)).half ≡ w / SPAN → Dec ((header_at s (w % SPAN)).kind ≡ 0) → Hits s w i
    there low h (yes k) = absurd (omega (arith, hit-empty s n w refl low h k))
    there low h (no k) =
        let q : w % SPAN ≡ i = sym (hit-there s n w refl low h k) ∙ e in
        let h' : (header_at s i).half ≡ w / SPAN = rw q at h in
        record { present = rw q at k; named_so = omega arith }

    tag : (low : w % SPAN < n) → Dec ((header_at s (w % SPAN)).half ≡ w / SPAN) → Hits s w i
    tag low (yes h) = there low h (ℕ_discrete (header_at s (w % SPAN)).kind 0)
    tag low (no h) = absurd (omega (arith, hit_other s n w refl low h))

    go : Dec (w % SPAN < n) → Hits s w i
    go (yes low) = tag low (ℕ_discrete (header_at s (w % SPAN)).half (w / SPAN))
    go (no out) = absurd (omega (arith, hit-outside s n w (omega arith)))

pub hit-word : (s : List ℕ) (n i : ℕ) → n ≤ SLOTS_MAX → i < n → (header_at s i).kind ≢ 0 → hit s n (word_at s i) ≡ i
hit-word s n i few l k =
    let e : word_at s i % SPAN ≡ i = omega arith in
    let d : word_at s i / SPAN ≡ (header_at s i).half = omega arith in
    hit-there s n (word_at s i) refl (rw e l) (rw (e, d)) (rw e k) ∙ e

-- ---- the objects in the slots

module _ (l : Layout) (t : State) (g : Good t) where
  abbrev pub view : View
  view = view_of (model_of l t)

  abbrev pub live_at : ℕ → Live
  live_at i = record { gen = (raw_of t i).half % GENERATIONS; boxed = leb BOX_HALF (raw_of t i).half; content = content_of (raw_of t i) (more_of t i) }

  pub at_held : (i : ℕ) → i < t.heap.fresh → (raw_of t i).kind ≢ 0 → view.at i ≡ some (live_at i)
  unfolding view_of slot_view model_of slot_of slot_from object_of live live_object
  at_held i h k = rw (lt-ltb i t.heap.fresh h, ne_eqb (raw_of t i).kind 0 k)

  pub at-empty : (i : ℕ) → i < t.heap.fresh → (raw_of t i).kind ≡ 0 → view.at i ≡ none
  unfolding view_of slot_view model_of slot_of slot_from object_of live live_object
  at-empty i h k = rw (lt-ltb i t.heap.fresh h, eq-eqb (raw_of t i).kind 0 k)

  pub at-unused : (i : ℕ) → t.heap.fresh ≤ i → view.at i ≡ none
  unfolding view_of slot_view model_of slot_of slot_from object_of live live_object
  at-unused i h = rw (le-ltb i t.heap.fresh h)

  pub view_bounded : (i : ℕ) → view.fresh ≤ i → view.at i ≡ none
  unfolding view_of slot_view model_of
  view_bounded = at-unused

  pub record Held (i : ℕ) (o : Live) : Type 0 where
    pub low : i < t.heap.fresh
    pub present : (raw_of t i).kind ≢ 0
    pub is : o ≡ live_at i

  pub at_some : (i : ℕ) (o : Live) → view.at i ≡ some o → Held i o
  at_some i o e = go (dec_lt i t.heap.fresh)
    where
      there : (h : i < t.heap.fresh) → Dec ((raw_of t i).kind ≡ 0) → Held i o
      there h (yes k) = let x = at-empty i h k in let z : ◌≡◌ {A = ℕ} 0 1 = cc in absurd (omega arith)
      there h (no k) = record { low = h; present = k; is = some-injective _ _ (sym e ∙ at_held i h k) }

      go : Dec (i < t.heap.fresh) → Held i o
      go (yes h) = there h (ℕ_discrete (raw_of t i).kind 0)
      go (no h) = let x = at-unused i (omega arith) in let z : ◌≡◌ {A = ℕ} 0 1 = cc in absurd (omega arith)

  pub view_valid : Valid view
  view_valid i o e = let h = at_some i o e in (let x = ap (λ (y : Live). y.gen) h.is in omega arith, omega (arith, h.low, g.fresh, g.slots_max))

  -- an object's reference
  pub named_word : (i : ℕ) → i < t.heap.fresh → reference_of i (live_at i) ≡ word_at t.slots i
  unfolding word raw_at
  named_word i h = go (dec_le BOX_HALF (header_at t.slots i).half)
    where
      q : SlotGood (raw_of t i) (more_of t i)
      q = g.each i h

      go : Dec (BOX_HALF ≤ (header_at t.slots i).half) → 281474976710656 + ((header_at t.slots i).half % GENERATIONS + flag (leb BOX_HALF (header_at t.slots i).half)) * SPAN + i ≡ (header_at t.slots i).half * SPAN + i
      go (yes b) =
          let e : (header_at t.slots i).half % GENERATIONS + 32768 + 65536 ≡ (header_at t.slots i).half = omega (arith, q.half_low, q.half_high) in
          rw (le-leb BOX_HALF (header_at t.slots i).half b) (omega arith)
      go (no b) =
          let e : (header_at t.slots i).half % GENERATIONS + 65536 ≡ (header_at t.slots i).half = omega (arith, q.half_low, q.half_high) in
          rw (lt-leb BOX_HALF (header_at t.slots i).half (omega arith)) (omega arith)

  -- what a word that reaches an object hits, and what a hit slot's reference reaches
  pub record Seen (w : ℕ) (c : Content) : Type 0 where
    pub slot : ℕ
    pub low : slot < t.heap.fresh
    pub present : (raw_of t slot).kind ≢ 0
    pub hits : hit t.slots t.heap.fresh w ≡ slot
    pub named_so : w ≡ word_at t.slots slot
    pub holds : content_of (raw_of t slot) (more_of t slot) ≡ c

  pub look-hits : (w : ℕ) (c : Content) → look view w ≡ some c → Seen w c
  unfolding raw_at
  look-hits w c e =
      let k = look-some view w c e in
      let h = at_some k.ref.slot k.obj k.there in
      let q : word k.ref ≡ reference_of k.ref.slot (live_at k.ref.slot) =
      (λ j. word record { gen = (k.gen-is ∙ ap (λ (y : Live). y.gen) h.is) j; boxed = (k.boxed-is ∙ ap (λ (y : Live). y.boxed) h.is) j; slot = k.ref.slot }) in
      let n : w ≡ word_at t.slots k.ref.slot = sym (word-ref_in w k.ref k.reads) ∙ q ∙ named_word k.ref.slot h.low in
      record {
        slot = k.ref.slot;
        low = h.low;
        present = h.present;
        hits = ap (hit t.slots t.heap.fresh) n ∙ hit-word t.slots t.heap.fresh k.ref.slot (omega (arith, g.fresh, g.slots_max)) h.low h.present;
        named_so = n;
        holds = ap (λ (y : Live). y.content) (sym h.is) ∙ k.holds;
      }

  pub word_looks : (i : ℕ) → i < t.heap.fresh → (raw_of t i).kind ≢ 0 → look view (word_at t.slots i) ≡ some (content_of (raw_of t i) (more_of t i))
  word_looks i h k =
      let a = at_held i h k in
      let v = view_valid i (live_at i) a in
      rw (← named_word i h) (look_of view (reference_of i (live_at i)) record { gen = (live_at i).gen; boxed = (live_at i).boxed; slot = i } (live_at i) (ref_in-word _ v.0 v.1) a refl refl)

  -- ---- the two least sets

  abbrev pub hits : ℕ → ℕ
  hits = hit t.slots t.heap.fresh

  abbrev pub kids : ℕ → List ℕ
  kids = children l t.slots t.scalars t.cells

  pub reach_to : (roots : List ℕ) (w : ℕ) → Reach view roots w → SlotReach t.heap.fresh hits kids roots (hits w)
  unfolding children view_of slot_view model_of
  reach_to roots w (root {c = c} i e) = let s = look-hits w c e in by_root i refl (rw s.hits s.low)
  reach_to roots w (onward {u = u} {c = c} {d = d} r e i f) =
      let s = look-hits u c e in
      let x = look-hits w d f in
      by_object {w = w} (reach_to roots u r) (rw (s.hits, s.holds) i) refl (rw x.hits x.low)

  reach_low : (roots : List ℕ) (i : ℕ) → SlotReach t.heap.fresh hits kids roots i → i < t.heap.fresh
  reach_low roots i (by_root m e low) = low
  reach_low roots i (by_object r m e low) = low

  pub reach_from : (roots : List ℕ) (i : ℕ) → SlotReach t.heap.fresh hits kids roots i → ((raw_of t i).kind ≢ 0) × Reach view roots (word_at t.slots i)
  unfolding raw_at children view_of slot_view model_of
  reach_from roots i (by_root {w = w} m e low) =
      let h = hit-is t.slots t.heap.fresh w i e low in
      (h.present, root (rw h.named_so at m) (word_looks i low h.present))
  reach_from roots j (by_object {i = i} {w = w} r m e low) =
      let p = reach_from roots i r in
      let h = hit-is t.slots t.heap.fresh w j e low in
      (h.present, onward p.1 (word_looks i (reach_low roots i r) p.0) (rw h.named_so at m) (word_looks j low h.present))

  -- ---- the marks after a collection's phases: "R is the least set with every object a root word reaches, closed under traced words";
  -- "kept is all reachable from R and F"

  module _ (roots m : List ℕ) where
    -- what is marked, for each object present
    exact_so : Exact t.heap.fresh hits kids roots m → (i : ℕ) → i < t.heap.fresh → (raw_of t i).kind ≢ 0 → Marked m i ↔ Reach view roots (word_at t.slots i)
    unfolding raw_at
    exact_so x i low k = (λ h. (reach_from roots i (x.sound i h)).1, λ r. x.whole i (rw (hit-word t.slots t.heap.fresh i (omega (arith, g.fresh, g.slots_max)) low k) at (reach_to roots (word_at t.slots i) r)))

    pub marked_present : Exact t.heap.fresh hits kids roots m → (i : ℕ) → Marked m i → (raw_of t i).kind ≢ 0
    marked_present x i h = (reach_from roots i (x.sound i h)).0

    pub marked_reached : Exact t.heap.fresh hits kids roots m → (i : ℕ) → i < t.heap.fresh → (raw_of t i).kind ≢ 0 → Marked m i ↔ (mem (word_at t.slots i) (reached view roots) ≡ true)
    marked_reached x i low k =
        let a = exact_so x i low k in
        let b = reached-is view view_bounded roots (word_at t.slots i) in
        (λ h. b.1 (a.0 h), λ r. a.1 (b.0 r))

  pub marked_kept : (roots m : List ℕ) → Exact t.heap.fresh hits kids (roots ++ finalizable view roots) m → (i : ℕ) → i < t.heap.fresh → (raw_of t i).kind ≢ 0 →
      Marked m i ↔ (mem (word_at t.slots i) (kept view roots) ≡ true)
  marked_kept roots m x i low k =
      let a = exact_so (roots ++ finalizable view roots) m x i low k in
      let b = kept-is view view_bounded roots (word_at t.slots i) in
      (λ h. b.1 (a.0 h), λ r. a.1 (b.0 r))
