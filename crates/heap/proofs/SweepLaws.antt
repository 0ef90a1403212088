-- A collection: every slot is swept. Assumes nothing.
use Prim.Native.Nat.{ℕ, suc, ◌+◌, ◌%◌, ◌<◌}
use mathlib.Core.Path.{◌≡◌, refl, ap, sym, ◌∙◌, fun_ext}
use mathlib.Core.Bool.{false, cond}
use mathlib.Core.Option.{Option, none, some}
use native.Mathlib.Omega.{arith}
use lib.Dec.{eqb, leb}
use lib.ListN.{length}
use Rattle.heap_slots.specs.Limits.{BOX_HALF, GENERATIONS, HALF, LAST_GENERATION}
use Rattle.account.specs.Account.{after_sweep, saturated}
use Rattle.heap_slots.specs.FreeList.{free_list}
use Rattle.heap_slots.specs.declared.Scalars.{Scalars}
use Rattle.heap_slots.proofs.Cases.{by_cases, lt_or_le, same_or_not}
use Rattle.heap_cells.specs.Regions.{RawSlot}
use Rattle.history.proofs.Facts.{eqb_no, eqb_yes, leb_no}
use Rattle.history.proofs.Judging.{no-cells-added, says_none}
use Rattle.history.proofs.Lift.{seen, step_sweeps}
use Rattle.layout.specs.Layout.{Layout}
use Rattle.model.specs.Calls.{Call, effect, rewrite}
use Rattle.model.specs.Content.{Content}
use Rattle.model.specs.Model.{view_of, weight_in, weights_kept}
use Rattle.model.specs.Reference.{word}
use Rattle.model.specs.Refusals.{added, budget, first, slotless}
use Rattle.model.specs.Replies.{Lent, Reply, reply}
use Rattle.model.specs.Slots.{Slot, dropped, drops, free_list_after, freed_slot, one, reusable, rewritten, slot_after, slot_to, sum_to}
use Rattle.model.specs.Slots as Slots
use Rattle.model.specs.Terms.{terms}
use Rattle.heap.specs.Kinds.{content_of, room_of}
use Rattle.heap.specs.State.{State, model_of, more_of, raw_of, slot_from, slot_of}
use Rattle.heap.specs.Good.{Good}
use Rattle.heap.specs.Promise.{Does}
use Rattle.heap.proofs.KindLaws.{object-none, object-some}
use Rattle.heap.proofs.SlotLaws.{slot-unused, slot-used}

-- ---- one slot

-- the word of the object in slot i
abbrev pub word_at : ℕ → RawSlot → ℕ
word_at i r = word record { gen = r.half % GENERATIONS; boxed = leb BOX_HALF r.half; slot = i }

-- "generation grows by 1, but 32,767 is retired"
unfoldable pub freed_half : ℕ → ℕ
freed_half half = HALF + cond (eqb (half % GENERATIONS) LAST_GENERATION) LAST_GENERATION (half % GENERATIONS + 1)

freed_tag : (half : ℕ) → (freed_half half % GENERATIONS ≡ cond (eqb (half % GENERATIONS) LAST_GENERATION) (half % GENERATIONS) (suc (half % GENERATIONS))) × (leb BOX_HALF (freed_half half) ≡ false)
unfolding freed_half
freed_tag half =
    by_cases (same_or_not (half % GENERATIONS) LAST_GENERATION)
    (λ e. rw (eqb_yes (half % GENERATIONS) LAST_GENERATION e) (sym e, leb_no BOX_HALF (HALF + LAST_GENERATION) (omega arith)))
    (λ ne. rw (eqb_no (half % GENERATIONS) LAST_GENERATION ne) (omega arith, leb_no BOX_HALF (HALF + (half % GENERATIONS + 1)) (omega arith)))

module _ (f : ℕ → Content → Option Content) (i : ℕ) where
  -- a slot without an object stays
  pub swept-empty : (r : RawSlot) (x y : Scalars) → r.kind ≡ 0 → slot_from r y ≡ slot_after f i (slot_from r x)
  unfolding slot_from slot_after Slots.slot_from
  swept-empty r x y z = rw (object-none r x z, object-none r y z)

  -- an object is kept, perhaps with other contents
  pub swept_kept : (r r' : RawSlot) (x x' : Scalars) → (r.kind ≡ 0 → ⊥) → (r'.kind ≡ 0 → ⊥) → r'.half ≡ r.half → room_of r' ≡ room_of r → f (word_at i r) (content_of r x) ≡ some (content_of r' x') →
      slot_from r' x' ≡ slot_after f i (slot_from r x)
  unfolding slot_from slot_after Slots.slot_from slot_to
  swept_kept r r' x x' z z' h q e = rw (object-some r x z, object-some r' x' z', e, q, h)

  -- an object is freed
  pub swept-freed : (r r' : RawSlot) (x x' : Scalars) → (r.kind ≡ 0 → ⊥) → r'.kind ≡ 0 → r'.half ≡ freed_half r.half → f (word_at i r) (content_of r x) ≡ none → slot_from r' x' ≡ slot_after f i (slot_from r x)
  unfolding slot_from slot_after Slots.slot_from slot_to freed_slot freed_half
  swept-freed r r' x x' z z' h e = rw (object-some r x z, object-none r' x' z', e, h, (freed_tag r.half).0, (freed_tag r.half).1)

-- ---- the whole heap

-- from the state b to the state a every slot was swept
pub record Swept (b a : State) (f : ℕ → Content → Option Content) : Type 0 where
  pub size : a.heap.size ≡ b.heap.size
  pub fresh : a.heap.fresh ≡ b.heap.fresh
  pub weights : a.heap.weights ≡ b.heap.weights
  pub cells : length a.cells ≡ length b.cells
  pub slot : (i : ℕ) → i < b.heap.fresh → slot_from (raw_of a i) (more_of a i) ≡ slot_after f i (slot_from (raw_of b i) (more_of b i))
  pub free : free_list a.list a.heap.free ≡ free_list_after (λ i. reusable f i (slot_of b i)) b.heap.fresh (free_list b.list b.heap.free)
  pub freed : a.heap.freed ≡ saturated (b.heap.freed + sum_to b.heap.fresh (λ i. one (drops f i (slot_of b i))))
  pub account : a.heap.account ≡ after_sweep b.heap.account (sum_to b.heap.fresh (λ i. weight_in b.heap.weights (slot_of a i).object))
  pub collections : a.heap.collections ≡ saturated (suc b.heap.collections)

module _ (l : Layout) {b a : State} {f : ℕ → Content → Option Content} (s : Swept b a f) where
  slot-swept : (i : ℕ) → slot_of a i ≡ slot_after f i (slot_of b i)
  unfolding slot_after Slots.slot_from
  slot-swept i =
      by_cases (lt_or_le i b.heap.fresh)
      (λ h. slot-used a i (omega (arith, s.fresh)) ∙ s.slot i h ∙ ap (slot_after f i) (sym (slot-used b i h)))
      (λ h. slot-unused a i (omega (arith, s.fresh)) ∙ rw (slot-unused b i h))

  pub does-swept : Good a → (k : Call) {r : Reply} {x : Lent} → effect (view_of (model_of l b)) k ≡ rewrite f → (terms (model_of l b) k).charge ≡ none → first (terms (model_of l b) k).refusals ≡ 0 →
      (terms (model_of l b) k).lent_after ≡ x → (terms (model_of l b) k).answer ≡ r → Does l k b record { refusal = 0; answer = reply r; lent = x } a
  unfolding seen budget slotless added model_of rewritten dropped weights_kept
  does-swept good k e c h x r =
      let m = model_of l b in
      let t = step_sweeps m k f (says_none m (terms m k) (effect (view_of m) k) h (rw c) (rw e) (rw e (no-cells-added m 0 refl))) e in
      let slots : slot_of a ≡ (λ i. slot_after f i (slot_of b i)) = fun_ext slot-swept in
      let account = s.account ∙ ap (λ (u : ℕ → Slot). after_sweep b.heap.account (sum_to b.heap.fresh (λ i. weight_in b.heap.weights (u i).object))) slots in
      record {
        shows = rw (t, x, r);
        next = rw (t, slots, s.size, s.fresh, s.weights, s.cells, s.free, s.freed, account, s.collections);
        good = good;
        kept = λ z. absurd (z refl);
      }
