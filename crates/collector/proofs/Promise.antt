-- A collection does what the model's step says.
use Prim.Native.Nat.{ℕ, ◌+◌, ◌≤◌, ◌<◌}
use mathlib.Core.Path.{◌≡◌, refl, ap, ◌∙◌}
use mathlib.Core.List.{List}
use native.Mathlib.Omega.{arith}
use lib.ListN.{length, take}
use lib.Seq.{length-take-le}
use borrow.Author.Tests.{le-leb, lt-leb, lt-ltb}
use Rattle.std.proofs.Common.{Result, Ok, Err}
use Rattle.heap_slots.specs.Limits.{CELLS_MAX, SLOTS_MAX}
use Rattle.heap_slots.specs.Header.{header_at, scalars_at}
use Rattle.heap_cells.specs.Regions.{raw_at}
use Rattle.account.specs.Account.{after_sweep, saturated}
use Rattle.account.specs.declared.Account.{Account}
use Rattle.layout.specs.Layout.{Layout}
use Rattle.model.specs.Calls as Calls
use Rattle.model.specs.Calls.{effect}
use Rattle.model.specs.Replies.{written}
use Rattle.model.specs.Model.{view_of}
use Rattle.model.specs.Kept.{finalizable, kept, swept}
use Rattle.model.specs.Refusals.{added, budget, first, slotless, unless}
use Rattle.model.specs.Terms.{terms}
use Rattle.model.specs.Step.{refusal_of}
use Rattle.history.proofs.Lift.{seen, step_sweeps}
use Rattle.history.proofs.Judging.{no-cells-added, says_none}
use Rattle.heap.specs.Answers.{number_of}
use Rattle.heap.specs.declared.Refusal.{Refusal}
use Rattle.heap.specs.declared.Refusal.TheVariants as No
use Rattle.heap.specs.declared.Heap.{Heap}
use Rattle.heap.specs.Record.{with_swept}
use Rattle.heap.specs.State.{State, model_of, state}
use Rattle.heap.specs.Good.{Good, Rested, SlotGood}
use Rattle.heap.specs.Promise.{Does}
use Rattle.heap.proofs.GoodLaws.{holds_as}
use Rattle.heap.proofs.DoesLaws.{does-own}
use Rattle.collector_finalizing.specs.Dropped.{ListAnswer, dropped_words, marks_kept, finalized_in}
use Rattle.collector_finalizing.proofs.Found.{dropped-finalizable}
use Rattle.collector.specs.declared.Tally.{Tally}
use Rattle.collector.specs.Answer.{collection_is}
use Rattle.collector.specs.Sweep.{Weighable, Swept, Sweepable, heap_after, state_after}
use Rattle.model.specs.declared.Weights.{Weights}
use Rattle.collector.specs.declared.Ending.{Ending}
use Rattle.collector.specs.Ending.{Buffers, buffers, Collects, Ends, Refuses}
use Rattle.collector.proofs.After.{freed_count, model-after, heap-good}

module _ (l : Layout) (t : State) (g : Good t) (roots places : List ℕ) where
  abbrev call : Calls.Call
  call = Calls.collect roots places

  abbrev listed : List ℕ
  listed = dropped_words l t.slots t.scalars t.cells t.heap.fresh roots

  -- 8: "lent list shorter than F"
  pub does-short : length places < length listed → Does l call t (collection_is (Err No.TooShort) places) t
  unfolding collection_is terms first unless number_of
  does-short h =
      does-own l g call No.TooShort refl
      (let e : length places < length (finalizable (view_of (model_of l t)) roots) = rw (dropped-finalizable l t g roots) at h in
      rw (lt-leb (length (finalizable (view_of (model_of l t)) roots)) (length places) e))

  module _ {s' x' l' p' : List ℕ} {y : Tally} {k : ℕ} (count : k ≡ length listed) (fits : length listed ≤ length places) (p : p' ≡ written listed places) (ex : x' ≡ finalized_in listed t.scalars)
      (sw : Swept t.heap.fresh t.heap.weights t.slots x' t.list (marks_kept l t.slots t.scalars t.cells t.heap.fresh roots) t.heap.free t.heap.fresh s' l' y) where
    accepted : refusal_of (model_of l t) (terms (model_of l t) call) (effect (view_of (model_of l t)) call) ≡ 0
    unfolding terms effect first unless budget slotless added
    accepted =
        says_none (model_of l t) (terms (model_of l t) call) (effect (view_of (model_of l t)) call)
        (let e : length (finalizable (view_of (model_of l t)) roots) ≤ length places = rw (dropped-finalizable l t g roots) at fits in
        rw (le-leb (length (finalizable (view_of (model_of l t)) roots)) (length places) e))
        refl refl (no-cells-added (model_of l t) 0 refl)

    pub does-collected : Does l call t (collection_is (Ok record { freed = y.freed; listed = k }) p') (state_after t s' x' l' y)
    unfolding collection_is terms effect seen model_of
    does-collected =
        let q = dropped-finalizable l t g roots in
        let s = step_sweeps (model_of l t) call (swept (kept (view_of (model_of l t)) roots) (finalizable (view_of (model_of l t)) roots)) accepted refl in
        record {
          shows = rw (s, freed_count l t g roots ex sw, count, p, q);
          next = rw s (model-after l t g roots ex sw);
          good = heap-good l t g roots ex sw;
          kept = λ z. absurd (z refl);
        }

-- ---- what a collection asks, of a good heap

module _ {t : State} (g : Good t) where
  few : t.heap.fresh ≤ SLOTS_MAX
  few = omega (arith, g.fresh, g.slots_max)

  weighable : (j : ℕ) → j < t.heap.fresh → Weighable (header_at t.slots j) (scalars_at t.scalars j).f
  unfolding raw_at
  weighable j low =
      let q : SlotGood (raw_at t.slots t.cells j) (scalars_at t.scalars j) = g.each j low in
      let z : (header_at t.slots j).size ≤ CELLS_MAX = omega (arith, g.laid.inside j low, g.laid.cells_max) in
      record {
        size = z;
        string = λ e. omega (arith, holds_as 1 e q, z);
        capacity = λ e. omega (arith, (holds_as 7 e q).1, z);
        index = λ e. omega (arith, (holds_as 7 e q).1, z);
        fields = λ e. omega (arith, holds_as 8 e q, z);
        captures = λ e. omega (arith, holds_as 9 e q, z);
        registers = λ e. omega (arith, holds_as 11 e q, z);
        frames = λ e. omega (arith, holds_as 11 e q, z);
      }

  pub good_sweepable : (m : List ℕ) → length m ≡ t.heap.fresh → Sweepable t.heap.fresh t.heap.weights t.slots t.scalars t.list m t.heap.free
  unfolding raw_at
  good_sweepable m e = record {
    few = few;
    slots_fit = omega (arith, g.fresh, g.slots_fit);
    scalars_fit = omega (arith, g.fresh, g.scalars_fit);
    list_fit = omega (arith, g.fresh, g.list_fit);
    marks_fit = e;
    weights = g.weights;
    weighable = weighable;
    hollow = λ j low k. (holds_as 0 k (g.each j low)).1;
    listed = g.listed;
    room = omega (arith, g.room, g.present);
  }

  -- marks and order at rest: a mark for each slot ever used
  module _ {marks order : List ℕ} (r : Rested t.heap.size marks order) where
    pub rested-fits : t.heap.fresh ≤ length marks
    rested-fits = omega (arith, r.marks_fit, g.fresh)

    pub rested-length : length (take t.heap.fresh marks) ≡ t.heap.fresh
    rested-length = length-take-le t.heap.fresh marks rested-fits

-- the record, as the code makes it
pub heap_is : (h : Heap) (y : Tally) {a : Account} {c f : ℕ} → a ≡ after_sweep h.account y.weight → c ≡ saturated (h.collections + 1) → f ≡ saturated (h.freed + y.freed) →
    with_swept h a y.free y.taken y.present y.coroutines c f ≡ heap_after h y
heap_is h y p q r = λ j. with_swept h (p j) y.free y.taken y.present y.coroutines (q j) (r j)

-- ---- from the buffers to the promise

eight : (q : Refusal) → number_of q ≡ 8 → q ≡ No.TooShort
unfolding number_of
eight No.NilTarget e = absurd (omega (arith, e))
eight No.OtherKind e = absurd (omega (arith, e))
eight No.Outside e = absurd (omega (arith, e))
eight No.BadType e = absurd (omega (arith, e))
eight No.OverBudget e = absurd (omega (arith, e))
eight No.NoSlot e = absurd (omega (arith, e))
eight No.NoCells e = absurd (omega (arith, e))
eight No.TooShort e = refl
eight No.Spent e = absurd (omega (arith, e))
eight No.BadOpening e = absurd (omega (arith, e))
eight No.DeadReference e = absurd (omega (arith, e))

module _ {n : ℕ} {w : Weights} {free : ℕ} {f kept : List ℕ} {b a : Buffers} {r : Result Ending Refusal} (k : Ends r n w free f kept b a) where
  pub ended-short : {q : Refusal} → r ≡ Err q → Refuses f b a
  ended-short e = rw e at k.leaves

  pub refused_so : {q : Refusal} → r ≡ Err q → q ≡ No.TooShort
  refused_so {q} e = eight q (ap (λ (y : ListAnswer). y.refusal) (rw e at k.answer) ∙ rw (lt-ltb (length b.places) (length f) (ended-short e).short))

  pub ended-swept : {y : Ending} → r ≡ Ok y → Collects n w free f kept b a y.tally y.listed
  ended-swept e = rw e at k.leaves

module _ (l : Layout) (h : Heap) (s x li d c : List ℕ) (g : Good (state h s x li d c)) (roots p m o : List ℕ) {s' x' li' m' o' p' : List ℕ} where
  pub promise_short : Refuses (dropped_words l s x c h.fresh roots) (buffers s x li (take h.fresh m) o p) (buffers s' x' li' m' o' p') →
      Does l (Calls.collect roots p) (state h s x li d c) (collection_is (Err No.TooShort) p') (state h s' x' li' d c)
  promise_short q =
      let es : s' ≡ s = ap (λ (y : Buffers). y.slots) q.same in
      let ex : x' ≡ x = ap (λ (y : Buffers). y.scalars) q.same in
      let el : li' ≡ li = ap (λ (y : Buffers). y.list) q.same in
      let ep : p' ≡ p = ap (λ (y : Buffers). y.places) q.same in
      rw (es, ex, el, ep) (does-short l (state h s x li d c) g roots p q.short)

  pub promise_swept : {y : Tally} {k : ℕ} {h' : Heap} → Collects h.fresh h.weights h.free (dropped_words l s x c h.fresh roots) (marks_kept l s x c h.fresh roots) (buffers s x li (take h.fresh m) o p) (buffers s' x' li' m' o' p') y k → h' ≡ heap_after h y →
      Does l (Calls.collect roots p) (state h s x li d c) (collection_is (Ok record { freed = y.freed; listed = k }) p') (state h' s' x' li' d c)
  promise_swept q e =
      rw e (does-collected l (state h s x li d c) g roots p q.count q.fits q.places q.scalars q.swept)
