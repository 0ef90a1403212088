-- The heap after a collection: the model's, and good again.
use Prim.Native.Nat.{ℕ, zero, suc, ◌+◌, ◌*◌, ◌%◌, ◌≤◌, ◌<◌}
use mathlib.Core.Path.{◌≡◌, refl, sym, ap, ◌∙◌, fun_ext}
use mathlib.Core.Logic.{◌≢◌, ◌↔◌}
use mathlib.Core.Bool.{Bool, true, false, cond, not}
use mathlib.Core.List.{List}
use mathlib.Core.Option.{Option, none, some}
use native.Mathlib.Omega.{arith}
use native.Mathlib.Numerals.{add-one}
use native.Mathlib.Decide.{ℕ_discrete, dec_lt}
use lib.Dec.{eqb, leb}
use lib.ListN.{length, get_or}
use borrow.Author.Tests.{eq-eqb, ne_eqb, lt-leb}
use Rattle.heap_slots.specs.Limits.{BOX_HALF, GENERATIONS, LAST_GENERATION, SLOT_WORDS, SLOTS_MAX}
use Rattle.heap_slots.specs.Header.{header_at, scalars_at}
use Rattle.heap_slots.specs.FreeList.{free_list}
use Rattle.heap_slots.specs.declared.Header.{Header}
use Rattle.heap_slots.specs.declared.Scalars.{Scalars}
use Rattle.heap_cells.specs.Regions as Regions
use Rattle.heap_cells.specs.Regions.{RawSlot, Laid, raw_at, region_of, sum_to}
use Rattle.account.specs.Account.{after_sweep, saturated}
use Rattle.layout.specs.Layout.{Layout}
use Rattle.model.specs.Reference.{word}
use Rattle.model.specs.Content.{Content, finalize}
use Rattle.model.specs.View.{View, mem}
use Rattle.model.specs.Slots as Slots
use Rattle.model.specs.Slots.{Slot, SlotTable, Object, one, free_list_after, slot_after, slot_to, freed_slot, drops, drops_object, rewritten}
use Rattle.model.specs.Model.{view_of, weight_in, weights_kept}
use Rattle.model.specs.Kept.{finalizable, kept, settled, swept}
use Rattle.heap.specs.Kinds.{content_of, room_of, object_of}
use Rattle.heap.specs.State.{State, raw_of, more_of, slot_of, slot_from, model_of, unused}
use Rattle.heap.specs.Good.{Good, SlotGood, coroutine_of, filled}
use Rattle.heap.proofs.GoodLaws.{good_as}
use Rattle.heap.proofs.KindLaws.{object-none, object-some}
use Rattle.heap.proofs.SlotLaws.{slot-used, slot-unused, raw-length}
use Rattle.collector_marking.specs.Reach.{Marked}
use Rattle.collector_marking.specs.Children.{word_at}
use Rattle.collector_marking.proofs.Bridge.{named_word}
use Rattle.collector_finalizing.specs.Dropped.{dropped_words, marks_kept, finalized_in}
use Rattle.collector_finalizing.proofs.Found.{dropped-finalizable, kept_marked, dropped-kind}
use Rattle.collector_finalizing.proofs.Finalized.{flagged, names_mem, finalized-at, finalized-length, dropped_owned, dropped-mem}
use Rattle.collector.specs.declared.Tally.{Tally}
use Rattle.collector.specs.Sweep.{weight_at, freed_header, next_generation, freed_at, returned_at, swept_header, Swept, state_after}
use Rattle.collector.proofs.Contents.{weight_of_object, flag-good, flag_finalizes}
use Rattle.collector.proofs.Sweeping.{freed-vacant, freed_marked, freed_so, swept_kept, swept-freed, freed-low, freed-high}

-- ---- sums and piles of the same numbers

sum_same : (n : ℕ) (f h : ℕ → ℕ) → ((j : ℕ) → j < n → f j ≡ h j) → Slots.sum_to n f ≡ Slots.sum_to n h
unfolding Slots.sum_to
sum_same zero f h e = refl
sum_same (suc n) f h e = rw (sum_same n f h (λ j l. e j (omega arith)), e n (omega arith))

total-same : (n : ℕ) (f h : ℕ → ℕ) → ((j : ℕ) → j < n → f j ≡ h j) → sum_to f n ≡ sum_to h n
unfolding sum_to
total-same zero f h e = refl
total-same (suc n) f h e = rw (total-same n f h (λ j l. e j (omega arith)), e n (omega arith))

total_less : (n : ℕ) (f h : ℕ → ℕ) → ((j : ℕ) → j < n → f j ≤ h j) → sum_to f n ≤ sum_to h n
unfolding sum_to
total_less zero f h e = omega arith
total_less (suc n) f h e = let a = total_less n f h (λ j l. e j (omega arith)) in let b = e n (omega arith) in omega arith

listed_same : (P Q : ℕ → Bool) (n : ℕ) (free : List ℕ) → ((j : ℕ) → j < n → P j ≡ Q j) → free_list_after P n free ≡ free_list_after Q n free
unfolding free_list_after
listed_same P Q zero free e = refl
listed_same P Q (suc n) free e = rw (e n (omega arith), listed_same P Q n free (λ j l. e j (omega arith)))

-- ---- a slot of the model

module _ (f : ℕ → Content → Option Content) (i : ℕ) (s : Slot) where
  after_none : s.object ≡ none → slot_after f i s ≡ record { gen = s.gen; boxed = s.boxed; object = none }
  unfolding slot_after Slots.slot_from
  after_none e = rw e

  drops-none : s.object ≡ none → drops f i s ≡ false
  unfolding drops drops_object
  drops-none e = rw e

  module _ (o : Object) (e : s.object ≡ some o) {w : ℕ} (q : word record { gen = s.gen; boxed = s.boxed; slot = i } ≡ w) where
    after_kept : (c : Content) → f w o.content ≡ some c → slot_after f i s ≡ record { gen = s.gen; boxed = s.boxed; object = some record { content = c; room = o.room } }
    unfolding slot_after Slots.slot_from slot_to
    after_kept c h = rw (e, q, h)

    after-freed : f w o.content ≡ none → slot_after f i s ≡ freed_slot s.gen
    unfolding slot_after Slots.slot_from slot_to
    after-freed h = rw (e, q, h)

    drops-kept : (c : Content) → f w o.content ≡ some c → drops f i s ≡ false
    unfolding drops drops_object Slots.is_freed
    drops-kept c h = rw (e, q, h)

    drops-freed : f w o.content ≡ none → drops f i s ≡ true
    unfolding drops drops_object Slots.is_freed
    drops-freed h = rw (e, q, h)

-- a slot freed, as the header has it
freed_generation : (h : Header) → (freed_header h).half % GENERATIONS ≡ next_generation (h.half % GENERATIONS)
freed_generation h = elim (ℕ_discrete (h.half % GENERATIONS) LAST_GENERATION) [ yes e ↦ rw (eq-eqb (h.half % GENERATIONS) LAST_GENERATION e) (omega arith) | no e ↦ rw (ne_eqb (h.half % GENERATIONS) LAST_GENERATION e) (omega arith) ]

freed-slot : (h : Header) (c : List ℕ) (y : Scalars) → slot_from (Regions.raw_of (freed_header h) c) y ≡ freed_slot (h.half % GENERATIONS)
unfolding slot_from freed_slot
freed-slot h c y =
    let a = freed_generation h in
    let b : leb BOX_HALF (freed_header h).half ≡ false = lt-leb BOX_HALF (freed_header h).half (freed-high h) in
    let o = object-none (Regions.raw_of (freed_header h) c) y refl in
    λ j. record { gen = a j; boxed = b j; object = o j }

freed-good : (h : Header) (c : List ℕ) (y : Scalars) → SlotGood (Regions.raw_of (freed_header h) c) y
freed-good h c y = good_as 0 refl (omega arith) (freed-low h) (omega (arith, freed-high h)) (freed-high h, refl)

-- regions: each slot keeps its own or has none
laid-swept : {n top entries : ℕ} {s dir c : List ℕ} (m s' : List ℕ) → Laid n top entries s dir c → length s' ≡ length s → ((j : ℕ) → j < n → header_at s' j ≡ swept_header m s j) → Laid n top entries s' dir c
laid-swept {n} {top} {entries} {s} {dir} {c} m s' g e d = record {
  slots_max = g.slots_max;
  slots_fit = omega (arith, g.slots_fit);
  cells_max = g.cells_max;
  dir_fits = g.dir_fits;
  dir_max = g.dir_max;
  top_fits = g.top_fits;
  inside = λ j l. inside j l (freed_at m s j) refl;
  below = λ j l z. (let q = here j l z in rw q (g.below j l (rw q at z)));
  listed = λ j l z. (let q = here j l z in rw q (g.listed j l (rw q at z)));
  ordered = λ i j li lj zi zj lt. (let p = here i li zi in let q = here j lj zj in rw (p, q) (g.ordered i j li lj (rw p at zi) (rw q at zj) (rw (p, q) at lt)));
}
  where
    inside : (j : ℕ) → j < n → (b : Bool) → freed_at m s j ≡ b → (header_at s' j).start + (header_at s' j).size ≤ length c
    inside j l true q = rw (d j l ∙ swept-freed m s j q) (omega (arith, g.inside j l))
    inside j l false q = rw (d j l ∙ swept_kept m s j q) (g.inside j l)

    here : (j : ℕ) → j < n → ((header_at s' j).size ≡ 0 → ⊥) → header_at s' j ≡ header_at s j
    here j l z = go (freed_at m s j) refl
      where
        go : (b : Bool) → freed_at m s j ≡ b → header_at s' j ≡ header_at s j
        go true q = absurd (z (ap (λ (h : Header). h.size) (d j l ∙ swept-freed m s j q)))
        go false q = d j l ∙ swept_kept m s j q

-- ---- the whole

module _ (l : Layout) (t : State) (g : Good t) (roots : List ℕ) where
  abbrev n : ℕ
  n = t.heap.fresh

  abbrev view : View
  view = view_of (model_of l t)

  -- F and the marks, as the code has them
  abbrev pub listed : List ℕ
  listed = dropped_words l t.slots t.scalars t.cells n roots

  abbrev pub marks : List ℕ
  marks = marks_kept l t.slots t.scalars t.cells n roots

  -- what the model makes of each object
  abbrev rule : ℕ → Content → Option Content
  rule = swept (kept view roots) (finalizable view roots)

  few : n ≤ SLOTS_MAX
  few = omega (arith, g.fresh, g.slots_max)

  fits : (i : ℕ) → i < n → i * SLOT_WORDS + SLOT_WORDS ≤ length t.scalars
  fits i low = omega (arith, g.fresh, g.scalars_fit)

  -- kept exactly if marked
  kept_test : (i : ℕ) → i < n → (raw_of t i).kind ≢ 0 → mem (word_at t.slots i) (kept view roots) ≡ not (freed_at marks t.slots i)
  unfolding raw_at
  kept_test i low k = go (ℕ_discrete (get_or marks i 0) 0) (mem (word_at t.slots i) (kept view roots)) refl
    where
      both : Marked marks i ↔ (mem (word_at t.slots i) (kept view roots) ≡ true)
      both = kept_marked l t g roots i low k

      go : Dec (get_or marks i 0 ≡ 0) → (b : Bool) → mem (word_at t.slots i) (kept view roots) ≡ b → b ≡ not (freed_at marks t.slots i)
      go (yes z) true e = absurd (let q = both.1 e in omega arith)
      go (yes z) false e = rw (freed_so marks t.slots i k z)
      go (no z) true e = rw (freed_marked marks t.slots i z)
      go (no z) false e = let q = both.0 (omega arith) in let y : ◌≡◌ {A = ℕ} 0 1 = cc in absurd (omega arith)

  rule_kept : (i : ℕ) → i < n → (raw_of t i).kind ≢ 0 → freed_at marks t.slots i ≡ false → (c : Content) → rule (word_at t.slots i) c ≡ some (settled (finalizable view roots) (word_at t.slots i) c)
  unfolding swept
  rule_kept i low k e c = rw (kept_test i low k, e)

  rule_freed : (i : ℕ) → i < n → (raw_of t i).kind ≢ 0 → freed_at marks t.slots i ≡ true → (c : Content) → rule (word_at t.slots i) c ≡ none
  unfolding swept
  rule_freed i low k e c = rw (kept_test i low k, e)

  -- the slot before
  slot-gen : (i : ℕ) → i < n → (slot_of t i).gen ≡ (header_at t.slots i).half % GENERATIONS
  unfolding slot_from raw_at
  slot-gen i low = ap (λ (s : Slot). s.gen) (slot-used t i low)

  slot-boxed : (i : ℕ) → i < n → (slot_of t i).boxed ≡ leb BOX_HALF (header_at t.slots i).half
  unfolding slot_from raw_at
  slot-boxed i low = ap (λ (s : Slot). s.boxed) (slot-used t i low)

  slot-some : (i : ℕ) → i < n → (raw_of t i).kind ≢ 0 → (slot_of t i).object ≡ some record { content = content_of (raw_of t i) (more_of t i); room = room_of (raw_of t i) }
  unfolding slot_from
  slot-some i low k = ap (λ (s : Slot). s.object) (slot-used t i low) ∙ object-some (raw_of t i) (more_of t i) k

  slot-none : (i : ℕ) → i < n → (raw_of t i).kind ≡ 0 → (slot_of t i).object ≡ none
  unfolding slot_from
  slot-none i low k = ap (λ (s : Slot). s.object) (slot-used t i low) ∙ object-none (raw_of t i) (more_of t i) k

  slot-word : (i : ℕ) → i < n → word record { gen = (slot_of t i).gen; boxed = (slot_of t i).boxed; slot = i } ≡ word_at t.slots i
  unfolding raw_at
  slot-word i low = (λ j. word record { gen = slot-gen i low j; boxed = slot-boxed i low j; slot = i }) ∙ named_word l t g i low

  -- freed in the model exactly if freed in the slots
  drops_so : (i : ℕ) → i < n → drops rule i (slot_of t i) ≡ freed_at marks t.slots i
  unfolding raw_at
  drops_so i low = go (ℕ_discrete (raw_of t i).kind 0) (freed_at marks t.slots i) refl
    where
      go : Dec ((raw_of t i).kind ≡ 0) → (b : Bool) → freed_at marks t.slots i ≡ b → drops rule i (slot_of t i) ≡ b
      go (yes k) b e = drops-none rule i (slot_of t i) (slot-none i low k) ∙ sym (freed-vacant marks t.slots i k) ∙ e
      go (no k) true e = drops-freed rule i (slot_of t i) _ (slot-some i low k) (slot-word i low) (rule_freed i low k e _)
      go (no k) false e = drops-kept rule i (slot_of t i) _ (slot-some i low k) (slot-word i low) _ (rule_kept i low k e _)

  returns_so : (i : ℕ) → i < n → Slots.reusable rule i (slot_of t i) ≡ returned_at marks t.slots i
  unfolding Slots.reusable returned_at
  returns_so i low = rw (drops_so i low, slot-gen i low)

  module _ {s' x' l' : List ℕ} {y : Tally} (ex : x' ≡ finalized_in listed t.scalars)
      (sw : Swept n t.heap.weights t.slots x' t.list marks t.heap.free n s' l' y) where
    abbrev pub after : State
    after = state_after t s' x' l' y

    scalars-length : length x' ≡ length t.scalars
    scalars-length = ap length ex ∙ finalized-length listed t.scalars

    -- the slots afterwards
    raw-kept : (i : ℕ) → i < n → freed_at marks t.slots i ≡ false → raw_of after i ≡ raw_of t i
    unfolding raw_at
    raw-kept i low e = rw (sw.done i low, swept_kept marks t.slots i e)

    raw-freed : (i : ℕ) → i < n → freed_at marks t.slots i ≡ true → raw_of after i ≡ Regions.raw_of (freed_header (header_at t.slots i)) (region_of (freed_header (header_at t.slots i)) t.cells)
    unfolding raw_at
    raw-freed i low e = rw (sw.done i low, swept-freed marks t.slots i e)

    more-after : (i : ℕ) → i < n → more_of after i ≡ flagged (mem (word_at t.slots i) listed) (more_of t i)
    more-after i low =
        ap (λ (z : List ℕ). scalars_at z i) ex ∙ finalized-at listed t.scalars i (fits i low)
        ∙ ap (λ (b : Bool). flagged b (more_of t i)) (names_mem t.slots listed i (omega (arith, few)) (dropped_owned l t.slots t.scalars t.cells n roots few (omega (arith, g.fresh, g.slots_fit))))

    -- "F becomes finalized"
    content-after : (i : ℕ) → i < n → content_of (raw_of t i) (more_of after i) ≡ settled (finalizable view roots) (word_at t.slots i) (content_of (raw_of t i) (more_of t i))
    unfolding settled
    content-after i low =
        ap (content_of (raw_of t i)) (more-after i low)
        ∙ go (mem (word_at t.slots i) listed) refl
        ∙ ap (λ (f : List ℕ). cond (mem (word_at t.slots i) f) (finalize (content_of (raw_of t i) (more_of t i))) (content_of (raw_of t i) (more_of t i))) (dropped-finalizable l t g roots)
      where
        go : (b : Bool) → mem (word_at t.slots i) listed ≡ b → content_of (raw_of t i) (flagged b (more_of t i)) ≡ cond b (finalize (content_of (raw_of t i) (more_of t i))) (content_of (raw_of t i) (more_of t i))
        go true e = flag_finalizes (raw_of t i) (more_of t i) (dropped-kind l t g roots i (dropped-mem l t.slots t.scalars t.cells n roots i few low e))
        go false e = refl

    good-after : (i : ℕ) → i < n → SlotGood (raw_of after i) (more_of after i)
    good-after i low = go (freed_at marks t.slots i) refl
      where
        go : (b : Bool) → freed_at marks t.slots i ≡ b → SlotGood (raw_of after i) (more_of after i)
        go true e = rw (raw-freed i low e) (freed-good (header_at t.slots i) (region_of (freed_header (header_at t.slots i)) t.cells) (more_of after i))
        go false e = rw (raw-kept i low e, more-after i low) (flag-good (mem (word_at t.slots i) listed) (g.each i low))

    -- each slot is as the model has it
    vacant-after : (i : ℕ) → i < n → (raw_of t i).kind ≡ 0 → slot_from (raw_of after i) (more_of after i) ≡ slot_after rule i (slot_of t i)
    unfolding slot_from raw_at
    vacant-after i low k =
        ap (λ (r : RawSlot). slot_from r (more_of after i)) (raw-kept i low (freed-vacant marks t.slots i k))
        ∙ (λ j. record { gen = sym (slot-gen i low) j; boxed = sym (slot-boxed i low) j; object = object-none (raw_of t i) (more_of after i) k j })
        ∙ sym (after_none rule i (slot_of t i) (slot-none i low k))

    freed-after : (i : ℕ) → i < n → (raw_of t i).kind ≢ 0 → freed_at marks t.slots i ≡ true → slot_from (raw_of after i) (more_of after i) ≡ slot_after rule i (slot_of t i)
    freed-after i low k e =
        ap (λ (r : RawSlot). slot_from r (more_of after i)) (raw-freed i low e)
        ∙ freed-slot (header_at t.slots i) (region_of (freed_header (header_at t.slots i)) t.cells) (more_of after i)
        ∙ ap freed_slot (sym (slot-gen i low))
        ∙ sym (after-freed rule i (slot_of t i) _ (slot-some i low k) (slot-word i low) (rule_freed i low k e _))

    kept-after : (i : ℕ) → i < n → (raw_of t i).kind ≢ 0 → freed_at marks t.slots i ≡ false → slot_from (raw_of after i) (more_of after i) ≡ slot_after rule i (slot_of t i)
    unfolding slot_from raw_at
    kept-after i low k e =
        let o : object_of (raw_of t i) (more_of after i) ≡ some record { content = settled (finalizable view roots) (word_at t.slots i) (content_of (raw_of t i) (more_of t i)); room = room_of (raw_of t i) } =
        object-some (raw_of t i) (more_of after i) k ∙ ap {B = Option Object} (λ (c : Content). some record { content = c; room = room_of (raw_of t i) }) (content-after i low) in
        ap (λ (r : RawSlot). slot_from r (more_of after i)) (raw-kept i low e)
        ∙ (λ j. record { gen = sym (slot-gen i low) j; boxed = sym (slot-boxed i low) j; object = o j })
        ∙ sym (after_kept rule i (slot_of t i) _ (slot-some i low k) (slot-word i low) _ (rule_kept i low k e _))

    slot-after : (i : ℕ) → slot_of after i ≡ slot_after rule i (slot_of t i)
    slot-after i = start (dec_lt i n)
      where
        go : i < n → Dec ((raw_of t i).kind ≡ 0) → (b : Bool) → freed_at marks t.slots i ≡ b → slot_from (raw_of after i) (more_of after i) ≡ slot_after rule i (slot_of t i)
        go low (yes k) b e = vacant-after i low k
        go low (no k) true e = freed-after i low k e
        go low (no k) false e = kept-after i low k e

        start : Dec (i < n) → slot_of after i ≡ slot_after rule i (slot_of t i)
        start (no h) = slot-unused after i (omega arith) ∙ sym (ap (slot_after rule i) (slot-unused t i (omega arith)) ∙ after_none rule i unused refl)
        start (yes low) = slot-used after i low ∙ go low (ℕ_discrete (raw_of t i).kind 0) (freed_at marks t.slots i) refl

    laid-after : Laid n t.heap.top t.heap.entries s' t.directory t.cells
    laid-after = laid-swept marks s' g.laid sw.slots_length sw.done

    -- the kept weights
    weight-after : (i : ℕ) → i < n → cond (eqb (swept_header marks t.slots i).kind 0) 0 (weight_at t.heap.weights (header_at t.slots i) (scalars_at x' i).f) ≡ weight_in t.heap.weights (slot_after rule i (slot_of t i)).object
    unfolding slot_from raw_at
    weight-after i low =
        let o : (slot_after rule i (slot_of t i)).object ≡ object_of (raw_of after i) (more_of after i) = ap (λ (s : Slot). s.object) (sym (slot-after i) ∙ slot-used after i low) in
        let w : weight_in t.heap.weights (object_of (raw_of after i) (more_of after i)) ≡ cond (eqb (header_at s' i).kind 0) 0 (weight_at t.heap.weights (header_at s' i) (scalars_at x' i).f) =
        weight_of_object t.heap.weights (header_at s' i) (region_of (header_at s' i) t.cells) (more_of after i) (good-after i low) (raw-length laid-after i low) in
        go (freed_at marks t.slots i) refl ∙ sym w ∙ ap (weight_in t.heap.weights) (sym o)
      where
        go : (b : Bool) → freed_at marks t.slots i ≡ b → cond (eqb (swept_header marks t.slots i).kind 0) 0 (weight_at t.heap.weights (header_at t.slots i) (scalars_at x' i).f) ≡ cond (eqb (header_at s' i).kind 0) 0 (weight_at t.heap.weights (header_at s' i) (scalars_at x' i).f)
        go true e = rw (sw.done i low, swept-freed marks t.slots i e)
        go false e = rw (sw.done i low, swept_kept marks t.slots i e)

    abbrev table : SlotTable
    table = (model_of l t).table

    pub freed_count : y.freed ≡ Slots.dropped rule table
    unfolding model_of Slots.dropped
    freed_count = sw.freed ∙ sum_same n (λ i. one (freed_at marks t.slots i)) (λ i. one (drops rule i (slot_of t i))) (λ i low. ap one (sym (drops_so i low)))

    pub free-after : free_list l' y.free ≡ (rewritten table rule).free
    unfolding model_of rewritten
    free-after = sw.list ∙ listed_same (returned_at marks t.slots) (λ i. Slots.reusable rule i (slot_of t i)) n (free_list t.list t.heap.free) (λ i low. sym (returns_so i low))

    pub weights-after : y.weight ≡ weights_kept t.heap.weights (rewritten table rule)
    unfolding model_of rewritten weights_kept
    weights-after = sw.weight ∙ sum_same n (λ i. cond (eqb (swept_header marks t.slots i).kind 0) 0 (weight_at t.heap.weights (header_at t.slots i) (scalars_at x' i).f)) (λ i. weight_in t.heap.weights (slot_after rule i (slot_of t i)).object) weight-after

    pub model-after : model_of l after ≡ record {
      table = rewritten table rule;
      cells = (model_of l t).cells;
      layout = l;
      weights = t.heap.weights;
      account = after_sweep t.heap.account (weights_kept t.heap.weights (rewritten table rule));
      collections = saturated (suc t.heap.collections);
    }
    unfolding model_of rewritten
    model-after =
        λ j. record {
          table = record {
            size = t.heap.size;
            slots = fun_ext slot-after j;
            fresh = n;
            free = free-after j;
            freed = ap (λ (k : ℕ). saturated (t.heap.freed + k)) freed_count j;
          };
          cells = length t.cells;
          layout = l;
          weights = t.heap.weights;
          account = ap (after_sweep t.heap.account) weights-after j;
          collections = ap saturated (add-one t.heap.collections) j;
        }

    pub heap-good : Good after
    heap-good = record {
      some_slot = g.some_slot;
      slots_max = g.slots_max;
      slots_fit = omega (arith, g.slots_fit, sw.slots_length);
      scalars_fit = omega (arith, g.scalars_fit, scalars-length);
      list_fit = omega (arith, g.list_fit, sw.list_length);
      directory_fit = g.directory_fit;
      weights = g.weights;
      fresh = g.fresh;
      each = good-after;
      laid = laid-after;
      taken = sw.taken ∙ total-same n (λ j. (swept_header marks t.slots j).size) (λ j. (header_at s' j).size) (λ j low. ap (λ (h : Header). h.size) (sym (sw.done j low)));
      cells_fit = omega (arith, sw.taken, g.taken, g.cells_fit, total_less n (λ j. (swept_header marks t.slots j).size) (λ j. (header_at t.slots j).size) (λ j low. smaller j));
      listed = sw.listed;
      present = sw.present ∙ total-same n (λ j. cond (eqb (swept_header marks t.slots j).kind 0) 0 1) (filled after) (λ j low. ap (λ (h : Header). cond (eqb h.kind 0) 0 1) (sym (sw.done j low)));
      coroutines = sw.coroutines ∙ total-same n (λ j. coroutine_of (swept_header marks t.slots j).kind) (λ j. coroutine_of (header_at s' j).kind) (λ j low. ap (λ (h : Header). coroutine_of h.kind) (sym (sw.done j low)));
      room = omega (arith, sw.room);
    }
      where
        smaller : (j : ℕ) → (swept_header marks t.slots j).size ≤ (header_at t.slots j).size
        smaller j = go (freed_at marks t.slots j) refl
          where
            go : (b : Bool) → freed_at marks t.slots j ≡ b → (swept_header marks t.slots j).size ≤ (header_at t.slots j).size
            go true e = rw (swept-freed marks t.slots j e) (omega arith)
            go false e = rw (swept_kept marks t.slots j e) (omega arith)
