-- What the model has of the objects that a collection keeps: their weights, and F finalized.
use Prim.Native.Nat.{ℕ, ◌+◌, ◌≤◌}
use mathlib.Core.Path.{◌≡◌, refl, ap}
use mathlib.Core.Bool.{Bool, true, false, cond}
use mathlib.Core.List.{List}
use native.Mathlib.Omega.{arith}
use native.Mathlib.Decide.{ℕ_discrete}
use lib.Dec.{eqb}
use lib.ListN.{length, drop}
use borrow.Author.Tests.{eq-eqb, ne_eqb}
use Rattle.heap_slots.specs.Header.{with_scalar}
use Rattle.heap_slots.specs.declared.Header.{Header}
use Rattle.heap_slots.specs.declared.Scalars.{Scalars}
use Rattle.heap_cells.specs.Regions.{RawSlot, raw_of}
use Rattle.model.specs.Content.{bytes_of, finalize}
use Rattle.model.specs.Model.{weight_in}
use Rattle.model.specs.declared.Weights.{Weights}
use Rattle.heap.specs.Kinds.{LAST_ROW, content_of, room_of, object_of}
use Rattle.heap.specs.Good.{SlotGood}
use Rattle.heap.proofs.GoodLaws.{good-kept, holds_as}
use Rattle.heap.proofs.KindLaws.{by_row, content-string, content-integer, content-cell, content-error, content-box, content-array, content-map, content-struct, content-function, content-iterator, content-coroutine, room-array, room-map, object-none, object-some, length-bytes_from, length-frames_in, words-length}
use Rattle.collector_finalizing.proofs.Finalized.{flagged}
use Rattle.collector.specs.Sweep.{bytes_at, weight_at}

module _ (w : Weights) (h : Header) (c : List ℕ) (y : Scalars) (g : SlotGood (raw_of h c) y) (full : length c ≡ h.size) where
  abbrev r : RawSlot
  r = raw_of h c

  bytes-by : (k : ℕ) → h.kind ≡ k → 1 ≤ k → k ≤ LAST_ROW → bytes_of w (content_of r y) (room_of r) ≡ bytes_at w h y.f
  unfolding bytes_of bytes_at
  bytes-by k e lo hi =
      by_row (λ (k : ℕ). h.kind ≡ k → bytes_of w (content_of r y) (room_of r) ≡ bytes_at w h y.f)
      (λ e. rw (content-string r y e, e, length-bytes_from c 0 h.len))
      (λ e. rw (content-integer r y e, e))
      (λ e. rw (content-cell r y e, e))
      (λ e. rw (content-error r y e, e))
      (λ e. rw (content-box r y e, e))
      (λ e. rw (content-array r y e, room-array r e, e))
      (λ e. rw (content-map r y e, room-map r e, e))
      (λ e. rw (content-struct r y e, words-length r y g full (omega (arith, holds_as 8 e g)), e))
      (λ e. rw (content-function r y e, words-length r y g full (omega (arith, holds_as 9 e g)), e))
      (λ e. rw (content-iterator r y e, e))
      (λ e. rw (content-coroutine r y e, words-length r y g full (omega (arith, holds_as 11 e g)), length-frames_in (drop h.len c) 0 y.f, e))
      k lo hi e

  pub weight_of_object : weight_in w (object_of r y) ≡ cond (eqb h.kind 0) 0 (weight_at w h y.f)
  unfolding weight_in
  weight_of_object = go (ℕ_discrete h.kind 0)
    where
      go : Dec (h.kind ≡ 0) → weight_in w (object_of r y) ≡ cond (eqb h.kind 0) 0 (weight_at w h y.f)
      go (yes e) = rw (object-none r y e, eq-eqb h.kind 0 e)
      go (no e) = rw (object-some r y e, ne_eqb h.kind 0 e) (ap (λ (n : ℕ). w.slot + n) (bytes-by h.kind refl (omega (arith, e)) g.kind))

-- ---- the scalar a set

pub flag-good : {r : RawSlot} {y : Scalars} (b : Bool) → SlotGood r y → SlotGood r (flagged b y)
flag-good true g = good-kept g refl g.half_low g.half_high (λ z. refl) refl refl refl (λ e m. m) (λ e. refl)
flag-good false g = g

pub flag-frames : (b : Bool) (y : Scalars) → (flagged b y).f ≡ y.f
flag-frames true y = refl
flag-frames false y = refl

-- "F becomes finalized"
pub flag_finalizes : (r : RawSlot) (y : Scalars) → r.kind ≡ 11 → content_of r (with_scalar y 0 1) ≡ finalize (content_of r y)
unfolding finalize
flag_finalizes r y e = rw (content-coroutine r (with_scalar y 0 1) e, content-coroutine r y e)
