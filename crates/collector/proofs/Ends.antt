-- The parts of a collection put together.
use Prim.Native.Nat.{ℕ, ◌+◌, ◌*◌, ◌%◌, ◌≤◌, ◌<◌}
use mathlib.Core.Path.{◌≡◌, ap, ◌∙◌}
use mathlib.Core.List.{List}
use native.Mathlib.Omega.{arith}
use borrow.Author.Tests.{le-ltb}
use lib.ListN.{length, get_or, take}
use Rattle.heap_slots.specs.Limits.{SLOT_WORDS, SLOTS_MAX, SPAN}
use Rattle.heap_slots.specs.Header.{scalars_at}
use Rattle.heap_slots.specs.declared.Scalars.{Scalars}
use Rattle.std.proofs.Common.{Result, Ok, Err}
use Rattle.layout.specs.Layout.{Layout}
use Rattle.heap.specs.declared.Refusal.{Refusal}
use Rattle.model.specs.declared.Weights.{Weights}
use Rattle.collector_marking.specs.Children.{word_at}
use Rattle.collector_marking.specs.Marks.{Unmarked}
use Rattle.collector_finalizing.specs.declared.Kept.{Kept}
use Rattle.collector_finalizing.specs.Dropped.{dropped_words, finalized_in, Blanks, AllKept, Keeps}
use Rattle.collector_finalizing.proofs.OrderLaws.{occ_at}
use Rattle.collector_finalizing.proofs.Listing.{filled-part}
use Rattle.collector_finalizing.proofs.Keeping.{at_rest}
use Rattle.collector_finalizing.proofs.Finalized.{finalized-at, finalized-length, names, dropped_member}
use Rattle.collector.specs.declared.Tally.{Tally}
use Rattle.collector.specs.Sweep.{Sweepable, Swept}
use Rattle.collector.specs.Ending.{Buffers, buffers, Collects, Ends}
use Rattle.collector.specs.declared.Ending.{Ending}
use Rattle.collector.proofs.Contents.{flag-frames}

module _ {s : List ℕ} {n : ℕ} {f kept m o p m' o' p' : List ℕ} {r : Result Kept Refusal} (k : Keeps r s n f kept m o p m' o' p') where
  pub kept-done : {y : Kept} → r ≡ Ok y → AllKept s n f kept o p m' o' p' y.listed y.marked
  kept-done e = rw e at k.leaves

  -- the lent list is too short
  pub ends_short : {q : Refusal} → r ≡ Err q → (w : Weights) (free : ℕ) (x l : List ℕ) → Ends (Err q) n w free f kept (buffers s x l m o p) (buffers s x l m' o' p')
  ends_short e w free x l =
      let z = rw e at k in
      let few = z.leaves in
      record { answer = z.answer; leaves = record { short = few.short; same = rw (few.marks, few.order, few.places) } }

module _ {s : List ℕ} {n : ℕ} {f kept o p m' o' p' : List ℕ} {a b : ℕ} (q : AllKept s n f kept o p m' o' p' a b) where
  pub listed-part : take a p' ≡ f
  listed-part = filled-part {p = p} record { is = q.places } q.count

-- each listed word names one of the slots
pub listed-slots : (l : Layout) (s x c : List ℕ) (n : ℕ) (roots : List ℕ) {kept o p m' o' p' : List ℕ} {a b : ℕ} → AllKept s n (dropped_words l s x c n roots) kept o p m' o' p' a b → n ≤ SLOTS_MAX → n * SLOT_WORDS ≤ length x →
    (k : ℕ) → k < length (take a p') → get_or (take a p') k 0 % SPAN * SLOT_WORDS + SLOT_WORDS ≤ length x
listed-slots l s x c n roots q few fits k lt = rw (listed-part q) (go (rw (listed-part q) at lt))
  where
    go : k < length (dropped_words l s x c n roots) → get_or (dropped_words l s x c n roots) k 0 % SPAN * SLOT_WORDS + SLOT_WORDS ≤ length x
    go h =
        let m = dropped_member l s x c n roots (get_or (dropped_words l s x c n roots) k 0) (occ_at (dropped_words l s x c n roots) k h) in
        let low = m.low in
        let e : get_or (dropped_words l s x c n roots) k 0 % SPAN ≡ m.slot = ap (λ (j : ℕ). j % SPAN) m.is ∙ (let z : word_at s m.slot % SPAN ≡ m.slot = omega arith in z) in
        omega arith

-- finalizing changes nothing that the sweep asks of
pub finalized_sweepable : {n : ℕ} {w : Weights} {s x l m : List ℕ} {free : ℕ} {m' x' : List ℕ} (f : List ℕ) → Sweepable n w s x l m free → length m' ≡ n → x' ≡ finalized_in f x → Sweepable n w s x' l m' free
finalized_sweepable {n} {w} {s} {x} {l} {m} {free} {m'} {x'} f g e q = record {
  few = g.few;
  slots_fit = g.slots_fit;
  scalars_fit = omega (arith, g.scalars_fit, ap length q, finalized-length f x);
  list_fit = g.list_fit;
  marks_fit = e;
  weights = g.weights;
  weighable = λ j low. rw (frames j low) (g.weighable j low);
  hollow = g.hollow;
  listed = g.listed;
  room = g.room;
}
  where
    frames : (j : ℕ) → j < n → (scalars_at x' j).f ≡ (scalars_at x j).f
    frames j low = ap (λ (y : Scalars). y.f) (ap (λ (z : List ℕ). scalars_at z j) q ∙ finalized-at f x j (omega (arith, g.scalars_fit))) ∙ flag-frames (names j f) (scalars_at x j)

pub collects : {n : ℕ} {w : Weights} {free : ℕ} {s x l m o p f kept m₁ o₁ p' x' s' l' m' o' : List ℕ} {a b : ℕ} {t : Tally} → Blanks n m o → AllKept s n f kept o p m₁ o₁ p' a b → x' ≡ finalized_in (take a p') x →
    Swept n w s x' l m₁ free n s' l' t → Unmarked m₁ o₁ b m' o' → Collects n w free f kept (buffers s x l m o p) (buffers s' x' l' m' o' p') t a
collects {x = x} {f = f} {m₁ = m₁} b q e sw u =
    let z = at_rest b q.scanned u in
    record {
      count = q.count;
      fits = q.fits;
      places = q.places;
      scalars = e ∙ ap (λ (ws : List ℕ). finalized_in ws x) (listed-part q);
      swept = rw q.marks at sw;
      marks = z.0;
      order = z.1;
    }

-- ---- the two answers

module _ {n : ℕ} {w : Weights} {free : ℕ} {f kept : List ℕ} {b a : Buffers} where
  pub ends-swept : {y : Ending} → Collects n w free f kept b a y.tally y.listed → Ends (Ok y) n w free f kept b a
  ends-swept q = record { answer = rw (le-ltb (length b.places) (length f) q.fits, q.count); leaves = q }
