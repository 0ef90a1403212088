-- The queue in the making, and the two parts of a phase.
use mathlib.Core.Path.{◌≡◌, refl, ◌∙◌}
use mathlib.Core.Logic.{⊎_elim}
use mathlib.Core.List.Memᴰ
use mathlib.Core.List.{List, [], ◌∷◌, ◌++◌, Memᴰ}
use Prim.Native.Nat.{ℕ, zero, suc, ◌+◌, ◌-◌, ◌≤◌, ◌<◌}
use native.Mathlib.Omega.{arith}
use native.Mathlib.Numerals.{add-one}
use lib.ListN.{length, get_or, take, drop, drop_of_length-le}
use lib.Seq.{drop-cons, drop-append-le, drop_at, get_or-take, length-take-le}
use Rattle.collector_marking.specs.Reach.{ones, queued, run, phase}
use Rattle.collector_marking.specs.Children.{hit}
use Rattle.collector_marking.specs.Marks.{MarksFit, Marks, Present, Listing, Scanned, Phased}
use Rattle.collector_marking.specs.Adds.{Same, Adds}
use Rattle.collector_marking.specs.declared.Marker.{Marker}
use Rattle.collector_marking.proofs.ReachLaws.{ones_le, many}
use Rattle.collector_marking.proofs.Bridge.{hit-is}
use Rattle.collector_marking.proofs.Doing.{drop-onward, grows}
use Rattle.collector_marking.proofs.Adding.{same_both}

pub get_d_mem : (l : List ℕ) (i d : ℕ) → i < length l → Memᴰ (get_or l i d) l
get_d_mem [] i d h = absurd (omega arith)
get_d_mem (x ∷ l) zero d h = Memᴰ.head refl
get_d_mem (x ∷ l) (suc i) d h = Memᴰ.tail (get_d_mem l i d (omega arith))

module _ {s : List ℕ} {n : ℕ} {ws m o m' o' : List ℕ} {k k' : ℕ} (len : length m ≡ n) (g : Listing s n m o k) (v : Marks (hit s n) ws m o k m' o' k') where
  pub listing_step : Listing s n m' o' k'
  listing_step = record {
    all = λ i h. rw v.order (⊎_elim (λ p. Memᴰ.append_left _ (g.all i p)) (λ p. Memᴰ.append_right (take k o) p) ((many (hit s n) ws m).why i (rw v.marks at h)));
    each = λ i h. ⊎_elim (λ p. g.each i p) (λ p. found i p) (Memᴰ.append_cases (take k o) (rw v.order at h));
  }
    where
      found : (i : ℕ) → Memᴰ i (queued (hit s n) ws m) → Present s n i
      found i p =
          let q : (w : ℕ) × Memᴰ w ws × (hit s n w ≡ i) × (i < length m) = (many (hit s n) ws m).from i p in
          let low : i < n = omega (arith, q.3) in
          record { low = low; held = (hit-is s n q.0 i q.2 low).present }

pub record Scanning (s : List ℕ) (n : ℕ) (kids : ℕ → List ℕ) (m₀ o₀ : List ℕ) (v₀ k₀ : ℕ) (m o : List ℕ) (v k : ℕ) : Type 0 where
  pub at : v ≤ k
  pub from : v₀ ≤ v
  pub marks_length : length m ≡ n
  pub order_length : length o ≡ length o₀
  pub room : n ≤ length o₀
  pub count : ones m ≡ k
  pub more : k₀ ≤ k
  pub rest : drop k o ≡ drop k o₀
  pub listing : Listing s n m o k
  pub left : run (hit s n) kids ((n + v₀) - v) m (drop v (take k o)) ≡ run (hit s n) kids n m₀ (drop v₀ (take k₀ o₀))

run-nil : (hits : ℕ → ℕ) (kids : ℕ → List ℕ) (f : ℕ) (m : List ℕ) → m ≡ run hits kids f m []
unfolding run
run-nil hits kids zero m = refl
run-nil hits kids (suc f) m = refl

module _ {s : List ℕ} {n : ℕ} {kids : ℕ → List ℕ} {m₀ o₀ : List ℕ} {v₀ k₀ : ℕ} where
  module _ {m o : List ℕ} {v k : ℕ} (g : Scanning s n kids m₀ o₀ v₀ k₀ m o v k) where
    pub scanning_few : k ≤ n
    scanning_few = omega (arith, ones_le m, g.count, g.marks_length)

    pub scanning_room : k ≤ length o
    scanning_room = omega (arith, scanning_few, g.room, g.order_length)

    taken : length (take k o) ≡ k
    taken = length-take-le k o scanning_room

    front : v < k → drop v (take k o) ≡ get_or o v 0 ∷ drop (suc v) (take k o)
    front h = drop-cons (take k o) v 0 (rw taken h) ∙ rw (get_or-take k o v 0 h)

    pub scanning-end : Scanned s n o₀ k₀ m o k
    scanning-end = record { marks_length = g.marks_length; order_length = g.order_length; count = g.count; more = g.more; rest = g.rest; listing = g.listing }

    -- the slot at the queue's front has an object
    pub scanning_slot : v < k → Present s n (get_or o v 0)
    scanning_slot h = g.listing.each (get_or o v 0) (rw (get_or-take k o v 0 h) at (get_d_mem (take k o) v 0 (rw taken h)))

    pub scanning_step : {m' o' : List ℕ} {k' : ℕ} → v < k → Marks (hit s n) (kids (get_or o v 0)) m o k m' o' k' → Scanning s n kids m₀ o₀ v₀ k₀ m' o' (v + 1) k'
    unfolding run
    scanning_step {m'} {o'} {k'} h x =
        let ws : List ℕ = kids (get_or o v 0) in
        let q : drop (suc v) (take k' o') ≡ drop (suc v) (take k o) ++ queued (hit s n) ws m = rw x.order (drop-append-le (suc v) (take k o) (queued (hit s n) ws m) (rw taken h)) in
        let f : (n + v₀) - v ≡ suc ((n + v₀) - suc v) = omega (arith, scanning_few) in
        let up : k ≤ k' = grows g.count x in
        rw add-one
        (record {
          at = omega (arith, up);
          from = omega (arith, g.from);
          marks_length = x.marks_length ∙ g.marks_length;
          order_length = x.order_length ∙ g.order_length;
          room = g.room;
          count = x.count;
          more = omega (arith, up, g.more);
          rest = x.rest ∙ drop-onward o o₀ k k' up g.rest;
          listing = listing_step g.marks_length g.listing x;
          left = rw (q, x.marks) (rw (front h, f) at g.left);
        })

    pub scanning_marks : k ≤ v → m ≡ run (hit s n) kids n m₀ (drop v₀ (take k₀ o₀))
    scanning_marks h =
        let e : length (take k o) ≤ v = omega (arith, taken) in
        let d : drop v (take k o) ≡ [] = drop_of_length-le (take k o) e in
        run-nil (hit s n) kids ((n + v₀) - v) m ∙ (rw d at g.left)

-- between the marking of a phase's words and the scan
module _ {s : List ℕ} {n : ℕ} {ws m o m' o' : List ℕ} {k k' : ℕ} (r : MarksFit s n m o k) (x : Marks (hit s n) ws m o k m' o' k') where
  pub phase_queue : drop k (take k' o') ≡ queued (hit s n) ws m
  phase_queue = rw x.order (drop_at (take k o) (queued (hit s n) ws m) k (length-take-le k o (omega (arith, ones_le m, r.count, r.len, r.room))))

  pub phase-is : {kids : ℕ → List ℕ} {m'' o'' : List ℕ} {k'' : ℕ} → m'' ≡ run (hit s n) kids n m' (drop k (take k' o')) → Scanned s n o' k' m'' o'' k'' → Phased s n kids ws m o k m'' o'' k''
  unfolding phase
  phase-is {kids} {m''} {o''} {k''} e z = record {
    marks = e ∙ rw (phase_queue, x.marks);
    scanned = record {
      marks_length = z.marks_length;
      order_length = z.order_length ∙ x.order_length;
      count = z.count;
      more = omega (arith, grows r.count x, z.more);
      rest = z.rest ∙ drop-onward o' o k' k'' z.more x.rest;
      listing = z.listing;
    };
  }

-- the queue of the marker a is scanned from v₀ up to v
pub record Tracing (kids : ℕ → List ℕ) (a : Marker) (v₀ : ℕ) (b : Marker) (v : ℕ) : Type 0 where
  pub scanning : Scanning a.slots.now a.fresh kids a.marks.now a.order.now v₀ a.marked b.marks.now b.order.now v b.marked
  pub same : Same a b

pub tracing_step : {kids : ℕ → List ℕ} {ws : List ℕ} {a b d : Marker} {v₀ v : ℕ} → Tracing kids a v₀ b v → v < b.marked → ws ≡ kids (get_or b.order.now v 0) → Adds ws b d → Tracing kids a v₀ d (v + 1)
tracing_step t h e s = record { scanning = scanning_step t.scanning h (rw (e, t.same.slots, t.same.fresh) at s.marked); same = same_both t.same s.same }
