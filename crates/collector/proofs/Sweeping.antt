-- The sweep, slot by slot.
use Prim.Native.Nat.{ℕ, zero, suc, ◌+◌, ◌*◌, ◌%◌, ◌≤◌, ◌<◌}
use mathlib.Core.Path.{◌≡◌, refl, sym, ap, ◌∙◌}
use mathlib.Core.Logic.{◌≢◌}
use mathlib.Core.Bool.{Bool, true, false, ◌&&◌, not}
use mathlib.Core.List.{List, ◌∷◌}
use native.Mathlib.Omega.{arith}
use native.Mathlib.Numerals.{add-one}
use native.Mathlib.Decide.{ℕ_discrete}
use lib.Dec.{eqb}
use lib.ListN.{length, get_or, length-set}
use borrow.Author.Tests.{eq-eqb, ne_eqb}
use Rattle.heap_slots.specs.Limits.{BOX_HALF, GENERATIONS, HALF, LAST_GENERATION, SLOT_WORDS}
use Rattle.heap_slots.specs.Header.{header_at, scalars_at}
use Rattle.heap_slots.specs.declared.Header.{Header}
use Rattle.heap_slots.proofs.HeaderLaws.{header_at-same, header_at-other, length-set_header}
use Rattle.heap_slots.proofs.FreeListLaws.{listed_kept, listed-push, free-push}
use Rattle.heap_cells.specs.Regions.{sum_to}
use Rattle.model.specs.Slots as Slots
use Rattle.model.specs.Slots.{free_list_after}
use Rattle.model.specs.declared.Weights.{Weights}
use Rattle.heap.specs.Good.{coroutine_of}
use Rattle.heap.proofs.PlaceLaws.{coroutine-max}
use Rattle.collector.specs.declared.Tally.{Tally}
use Rattle.collector.specs.Sweep.{weight_at, freed_header, freed_at, returned_at, swept_header, filled_in, Looked, vacant, stays, retires, returns, Lookable, Swept, Sweepable}
use Rattle.collector.proofs.Weighing.{weight_le}

-- ---- what becomes of one slot

module _ (m s : List ℕ) (j : ℕ) where
  pub freed-vacant : (header_at s j).kind ≡ 0 → freed_at m s j ≡ false
  unfolding freed_at
  freed-vacant e = rw (eq-eqb (header_at s j).kind 0 e)

  pub freed_marked : get_or m j 0 ≢ 0 → freed_at m s j ≡ false
  unfolding freed_at
  freed_marked z = rw (ne_eqb (get_or m j 0) 0 z) (go (not (eqb (header_at s j).kind 0)))
    where
      go : (b : Bool) → (b && false) ≡ false
      go true = refl
      go false = refl

  pub freed_so : (header_at s j).kind ≢ 0 → get_or m j 0 ≡ 0 → freed_at m s j ≡ true
  unfolding freed_at
  freed_so k z = rw (ne_eqb (header_at s j).kind 0 k, eq-eqb (get_or m j 0) 0 z)

  pub swept_kept : freed_at m s j ≡ false → swept_header m s j ≡ header_at s j
  unfolding swept_header
  swept_kept e = rw e

  pub swept-freed : freed_at m s j ≡ true → swept_header m s j ≡ freed_header (header_at s j)
  unfolding swept_header
  swept-freed e = rw e

  pub returned_not : freed_at m s j ≡ false → returned_at m s j ≡ false
  unfolding returned_at
  returned_not e = rw e

  pub returned-retired : (header_at s j).half % GENERATIONS ≡ LAST_GENERATION → returned_at m s j ≡ false
  unfolding returned_at
  returned-retired g = rw (eq-eqb ((header_at s j).half % GENERATIONS) LAST_GENERATION g) (go (freed_at m s j))
    where
      go : (b : Bool) → (b && false) ≡ false
      go true = refl
      go false = refl

  pub returned_so : freed_at m s j ≡ true → (header_at s j).half % GENERATIONS ≢ LAST_GENERATION → returned_at m s j ≡ true
  unfolding returned_at
  returned_so e g = rw (e, ne_eqb ((header_at s j).half % GENERATIONS) LAST_GENERATION g)

-- the next generation's first word
pub freed-low : (h : Header) → HALF ≤ (freed_header h).half
freed-low h = omega arith

pub freed-high : (h : Header) → (freed_header h).half < BOX_HALF
freed-high h = elim (ℕ_discrete (h.half % GENERATIONS) LAST_GENERATION) [ yes e ↦ rw (eq-eqb (h.half % GENERATIONS) LAST_GENERATION e) (omega arith) | no e ↦ rw (ne_eqb (h.half % GENERATIONS) LAST_GENERATION e) (omega arith) ]

-- ---- sums

sum_up : (f : ℕ → ℕ) (i n : ℕ) → i ≤ n → sum_to f i ≤ sum_to f n
unfolding sum_to
sum_up f i zero h = let z : i ≡ 0 = omega arith in rw z (omega arith)
sum_up f i (suc n) h = elim (ℕ_discrete i (suc n)) [ yes e ↦ rw e (omega arith) | no e ↦ (let a = sum_up f i n (omega arith) in omega arith) ]

filled-one : (s : List ℕ) (j : ℕ) → (header_at s j).kind ≢ 0 → filled_in s j ≡ 1
filled-one s j k = rw (ne_eqb (header_at s j).kind 0 k)

filled_none : (s : List ℕ) (j : ℕ) → (header_at s j).kind ≡ 0 → filled_in s j ≡ 0
filled_none s j k = rw (eq-eqb (header_at s j).kind 0 k)

module _ {n : ℕ} {w : Weights} {s₀ x l₀ m : List ℕ} {free₀ : ℕ} (g : Sweepable n w s₀ x l₀ m free₀) where
  pub swept-start : Swept n w s₀ x l₀ m free₀ 0 s₀ l₀ record { free = free₀; freed = 0; weight = 0; taken = 0; present = 0; coroutines = 0 }
  unfolding free_list_after Slots.sum_to sum_to
  swept-start = record {
    slots_length = refl;
    list_length = refl;
    done = λ j h. absurd (omega arith);
    left = λ j h. refl;
    listed = g.listed;
    list = refl;
    freed = refl;
    weight = refl;
    taken = refl;
    present = refl;
    coroutines = refl;
    room = omega (arith, g.room);
    few_freed = omega arith;
    heavy = omega arith;
    few_cells = omega arith;
    few_present = omega arith;
    few_coroutines = omega arith;
  }

  module _ {i : ℕ} {s l : List ℕ} {t : Tally} (v : Swept n w s₀ x l₀ m free₀ i s l t) (lt : i < n) where
    same : header_at s i ≡ header_at s₀ i
    same = v.left i (omega arith)

    kind-same : (header_at s i).kind ≡ (header_at s₀ i).kind
    kind-same = ap (λ (h : Header). h.kind) same

    next : sum_to (filled_in s₀) (suc i) ≡ sum_to (filled_in s₀) i + filled_in s₀ i
    unfolding sum_to
    next = refl

    pub swept_lookable : Lookable s x l m i w t
    swept_lookable = record {
      few = omega (arith, g.few);
      slots_fit = omega (arith, g.slots_fit, v.slots_length);
      scalars_fit = omega (arith, g.scalars_fit);
      marks_fit = omega (arith, g.marks_fit);
      weighable = rw same (g.weighable i lt);
      weights = g.weights;
      room = λ k. (let f = filled-one s₀ i (rw same at k) in omega (arith, next, sum_up (filled_in s₀) (suc i) n lt, v.room, g.list_fit, v.list_length));
      free = omega (arith, v.room, sum_up (filled_in s₀) i n (omega arith), g.few);
      freed = v.few_freed;
      heavy = v.heavy;
      cells = v.few_cells;
      present = v.few_present;
      coroutines = v.few_coroutines;
    }

    -- one slot more, by what became of it
    pub swept_step : {s' l' : List ℕ} {t' : Tally} → Looked s x l m i w t s' l' t' → Swept n w s₀ x l₀ m free₀ (i + 1) s' l' t'
    unfolding free_list_after Slots.sum_to sum_to
    swept_step {s'} {l'} {t'} (vacant k es el et) =
        let k₀ : (header_at s₀ i).kind ≡ 0 = sym kind-same ∙ k in
        let nf = freed-vacant m s₀ i k₀ in
        let sw = swept_kept m s₀ i nf in
        rw (es, el, et, add-one i)
        (record {
          slots_length = v.slots_length;
          list_length = v.list_length;
          done = λ j h. elim (ℕ_discrete j i) [ yes e ↦ rw e (same ∙ sym sw) | no e ↦ v.done j (omega arith) ];
          left = λ j h. v.left j (omega arith);
          listed = v.listed;
          list = rw (returned_not m s₀ i nf) v.list;
          freed = rw nf (omega (arith, v.freed));
          weight = rw (sw, eq-eqb (header_at s₀ i).kind 0 k₀) (omega (arith, v.weight));
          taken = rw (sw, g.hollow i lt k₀) (omega (arith, v.taken));
          present = rw (sw, eq-eqb (header_at s₀ i).kind 0 k₀) (omega (arith, v.present));
          coroutines = rw (sw, k₀) (omega (arith, v.coroutines));
          room = omega (arith, v.room, filled_none s₀ i k₀);
          few_freed = omega (arith, v.few_freed);
          heavy = omega (arith, v.heavy);
          few_cells = omega (arith, v.few_cells);
          few_present = omega (arith, v.few_present);
          few_coroutines = omega (arith, v.few_coroutines);
        })
    swept_step {s'} {l'} {t'} (stays k z es el et) =
        let k₀ : (header_at s₀ i).kind ≢ 0 = λ e. k (kind-same ∙ e) in
        let nf = freed_marked m s₀ i z in
        let sw = swept_kept m s₀ i nf in
        let wt : weight_at w (header_at s i) (scalars_at x i).f ≡ weight_at w (header_at s₀ i) (scalars_at x i).f = ap (λ (h : Header). weight_at w h (scalars_at x i).f) same in
        let sz : (header_at s i).size ≡ (header_at s₀ i).size = ap (λ (h : Header). h.size) same in
        let co : coroutine_of (header_at s i).kind ≡ coroutine_of (header_at s₀ i).kind = ap coroutine_of kind-same in
        rw (es, el, et, add-one i)
        (record {
          slots_length = v.slots_length;
          list_length = v.list_length;
          done = λ j h. elim (ℕ_discrete j i) [ yes e ↦ rw e (same ∙ sym sw) | no e ↦ v.done j (omega arith) ];
          left = λ j h. v.left j (omega arith);
          listed = v.listed;
          list = rw (returned_not m s₀ i nf) v.list;
          freed = rw nf (omega (arith, v.freed));
          weight = rw (sw, ne_eqb (header_at s₀ i).kind 0 k₀) (omega (arith, v.weight, wt));
          taken = rw sw (omega (arith, v.taken, sz));
          present = rw (sw, ne_eqb (header_at s₀ i).kind 0 k₀) (omega (arith, v.present));
          coroutines = rw sw (omega (arith, v.coroutines, co));
          room = omega (arith, v.room, filled-one s₀ i k₀);
          few_freed = omega (arith, v.few_freed);
          heavy = omega (arith, v.heavy, wt, weight_le g.weights (g.weighable i lt));
          few_cells = omega (arith, v.few_cells, sz, (g.weighable i lt).size);
          few_present = omega (arith, v.few_present);
          few_coroutines = omega (arith, v.few_coroutines, coroutine-max (header_at s i).kind);
        })
    swept_step {s'} {l'} {t'} (retires k z r es el et) =
        let k₀ : (header_at s₀ i).kind ≢ 0 = λ e. k (kind-same ∙ e) in
        let fr = freed_so m s₀ i k₀ z in
        let sw = swept-freed m s₀ i fr in
        let fits : i * SLOT_WORDS + SLOT_WORDS ≤ length s = omega (arith, g.slots_fit, v.slots_length) in
        let others : (j : ℕ) → (j ≡ i → ⊥) → header_at s' j ≡ header_at s j = λ j ne. ap (λ (q : List ℕ). header_at q j) es ∙ header_at-other s i j (freed_header (header_at s i)) ne in
        let here : header_at s' i ≡ freed_header (header_at s i) = ap (λ (q : List ℕ). header_at q i) es ∙ header_at-same s i (freed_header (header_at s i)) fits in
        let rt = returned-retired m s₀ i (ap (λ (h : Header). h.half % GENERATIONS) (sym same) ∙ r) in
        rw (el, et, add-one i)
        (record {
          slots_length = ap length es ∙ length-set_header s i (freed_header (header_at s i)) ∙ v.slots_length;
          list_length = v.list_length;
          done = λ j h. elim (ℕ_discrete j i) [ yes e ↦ rw e (here ∙ ap freed_header same ∙ sym sw) | no e ↦ others j e ∙ v.done j (omega arith) ];
          left = λ j h. others j (λ e. omega arith) ∙ v.left j (omega arith);
          listed = listed_kept s' i v.listed k others;
          list = rw rt v.list;
          freed = rw fr (omega (arith, v.freed));
          weight = rw sw (omega (arith, v.weight));
          taken = rw sw (omega (arith, v.taken));
          present = rw sw (omega (arith, v.present));
          coroutines = rw sw (omega (arith, v.coroutines));
          room = omega (arith, v.room, filled-one s₀ i k₀);
          few_freed = omega (arith, v.few_freed);
          heavy = omega (arith, v.heavy);
          few_cells = omega (arith, v.few_cells);
          few_present = omega (arith, v.few_present);
          few_coroutines = omega (arith, v.few_coroutines);
        })
    swept_step {s'} {l'} {t'} (returns k z r es el et) =
        let k₀ : (header_at s₀ i).kind ≢ 0 = λ e. k (kind-same ∙ e) in
        let fr = freed_so m s₀ i k₀ z in
        let sw = swept-freed m s₀ i fr in
        let fits : i * SLOT_WORDS + SLOT_WORDS ≤ length s = omega (arith, g.slots_fit, v.slots_length) in
        let others : (j : ℕ) → (j ≡ i → ⊥) → header_at s' j ≡ header_at s j = λ j ne. ap (λ (q : List ℕ). header_at q j) es ∙ header_at-other s i j (freed_header (header_at s i)) ne in
        let here : header_at s' i ≡ freed_header (header_at s i) = ap (λ (q : List ℕ). header_at q i) es ∙ header_at-same s i (freed_header (header_at s i)) fits in
        let rt = returned_so m s₀ i fr (λ e. r (ap (λ (h : Header). h.half % GENERATIONS) same ∙ e)) in
        let lf = swept_lookable.room k in
        rw (el, et, add-one i)
        (record {
          slots_length = ap length es ∙ length-set_header s i (freed_header (header_at s i)) ∙ v.slots_length;
          list_length = length-set l t.free i ∙ v.list_length;
          done = λ j h. elim (ℕ_discrete j i) [ yes e ↦ rw e (here ∙ ap freed_header same ∙ sym sw) | no e ↦ others j e ∙ v.done j (omega arith) ];
          left = λ j h. others j (λ e. omega arith) ∙ v.left j (omega arith);
          listed = listed-push s' i (freed_header (header_at s i)) v.listed lt lf k here refl (freed-low (header_at s i)) (freed-high (header_at s i)) others;
          list = free-push l t.free i lf ∙ rw rt (ap (λ (q : List ℕ). i ∷ q) v.list);
          freed = rw fr (omega (arith, v.freed));
          weight = rw sw (omega (arith, v.weight));
          taken = rw sw (omega (arith, v.taken));
          present = rw sw (omega (arith, v.present));
          coroutines = rw sw (omega (arith, v.coroutines));
          room = omega (arith, v.room, filled-one s₀ i k₀);
          few_freed = omega (arith, v.few_freed);
          heavy = omega (arith, v.heavy);
          few_cells = omega (arith, v.few_cells);
          few_present = omega (arith, v.few_present);
          few_coroutines = omega (arith, v.few_coroutines);
        })

  pub swept-end : {i : ℕ} {s l : List ℕ} {t : Tally} → Swept n w s₀ x l₀ m free₀ i s l t → i ≤ n → n ≤ i → Swept n w s₀ x l₀ m free₀ n s l t
  swept-end {i} {s} {l} {t} v a b = let e : i ≡ n = omega arith in rw e at v
