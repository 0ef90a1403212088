-- Marking in the making: what is still to be marked, `todo`, comes to what there was to mark, `ws`. One record for every kind's loop.
use mathlib.Core.Path.{◌≡◌, refl, sym, ap, ◌∙◌}
use mathlib.Core.List.{List, [], ◌∷◌, ◌++◌, append-nil, append_assoc}
use Prim.Native.Nat.{ℕ, zero, suc, ◌+◌, ◌-◌, ◌≤◌, ◌<◌}
use native.Mathlib.Omega.{arith}
use native.Mathlib.Numerals.{add-one}
use lib.ListN.{length, get_or, set, take, drop, length-set, get_or-eq_default}
use lib.Seq.{drop-drop, drop-set-lt, take-suc-set}
use Rattle.collector_marking.specs.Reach.{ones, put, new, after, queued}
use Rattle.collector_marking.specs.Marks.{Marks, MarksFit}
use Rattle.collector_marking.proofs.ReachLaws.{ones-set, ones-room, after-ones}

pub get_d_in : (m : List ℕ) (s d e : ℕ) → s < length m → get_or m s d ≡ get_or m s e
get_d_in [] s d e h = absurd (omega arith)
get_d_in (x ∷ xs) zero d e h = refl
get_d_in (x ∷ xs) (suc s) d e h = get_d_in xs s d e (omega arith)

after-append : (hit : ℕ → ℕ) (a b m : List ℕ) → after hit (a ++ b) m ≡ after hit b (after hit a m)
unfolding after
after-append hit [] b m = refl
after-append hit (w ∷ a) b m = after-append hit a b _

queued-append : (hit : ℕ → ℕ) (a b m : List ℕ) → queued hit (a ++ b) m ≡ queued hit a m ++ queued hit b (after hit a m)
unfolding after queued
queued-append hit [] b m = refl
queued-append hit (w ∷ a) b m = rw (queued-append hit a b, append_assoc)

pub drop-onward : (a b : List ℕ) (k k' : ℕ) → k ≤ k' → drop k a ≡ drop k b → drop k' a ≡ drop k' b
drop-onward a b k k' h e =
    let q : k' ≡ k + (k' - k) = omega arith in
    rw (q, ← drop-drop (k' - k) k a, ← drop-drop (k' - k) k b, e)

module _ {hit : ℕ → ℕ} {m o : List ℕ} {k : ℕ} (c : ones m ≡ k) where
  pub marks-none : Marks hit [] m o k m o k
  unfolding after queued
  marks-none = record { marks_length = refl; order_length = refl; count = c; marks = refl; order = sym (append-nil (take k o)); rest = refl }

  -- a word that reaches nothing, or a slot that is marked
  marks-kept : (w b : ℕ) → get_or m (hit w) 1 ≡ suc b → Marks hit (w ∷ []) m o k m o k
  unfolding after queued put new
  marks-kept w b e = record { marks_length = refl; order_length = refl; count = c; marks = rw e; order = rw e (sym (append-nil (take k o))); rest = refl }

-- a marker's marks and order, and a word that it is to mark
module _ {s m o : List ℕ} {n k : ℕ} (q : MarksFit s n m o k) where
  pub marks-past : {hit : ℕ → ℕ} {w : ℕ} → hit w ≡ n → Marks hit (w ∷ []) m o k m o k
  marks-past {hit} {w} e = marks-kept q.count w 0 (get_or-eq_default m 1 (omega (arith, q.len)))

  pub marks-held : {hit : ℕ → ℕ} {w i : ℕ} → hit w ≡ i → i < n → (get_or m i 0 ≡ 0 → ⊥) → Marks hit (w ∷ []) m o k m o k
  marks-held {hit} {w} {i} e l h = marks-kept q.count w (get_or m i 0 - 1) (rw e (get_d_in m i 1 0 (omega (arith, q.len)) ∙ omega arith))

  -- what a marker asks still holds after a slot is put into the order
  pub order_ready : (x : ℕ) → MarksFit s n m (set o k x) k
  order_ready x = record { few = q.few; fits = q.fits; len = q.len; room = omega (arith, q.room, length-set o k x); count = q.count }

  -- a slot newly marked
  module _ {i : ℕ} (l : i < n) (h : get_or m i 0 ≡ 0) where
    free : get_or m i 1 ≡ 0
    free = get_d_in m i 1 0 (omega (arith, q.len)) ∙ h

    pub room-left : k < n
    room-left = omega (arith, ones-room m i free, q.count, q.len)

    more-ones : ones (set m i 1) ≡ k + 1
    more-ones = omega (arith, ones-set m i free, q.count)

    pub placed_ready : MarksFit s n (set m i 1) (set o k i) (k + 1)
    placed_ready = record { few = q.few; fits = q.fits; len = length-set m i 1 ∙ q.len; room = omega (arith, q.room, length-set o k i); count = more-ones }

    pub marks-placed : {hit : ℕ → ℕ} {w : ℕ} → hit w ≡ i → Marks hit (w ∷ []) m o k (set m i 1) (set o k i) (k + 1)
    unfolding after queued put new
    marks-placed {hit} {w} e = record {
      marks_length = length-set m i 1;
      order_length = length-set o k i;
      count = more-ones;
      marks = rw (e, free);
      order = rw (e, free, add-one) (take-suc-set o k i (omega (arith, room-left, q.room)));
      rest = drop-set-lt (k + 1) o k i (omega arith);
    }

pub grows : {hit : ℕ → ℕ} {ws m o m' o' : List ℕ} {k k' : ℕ} → ones m ≡ k → Marks hit ws m o k m' o' k' → k ≤ k'
grows {hit} {ws} {m} c s = omega (arith, s.count, ap ones s.marks, after-ones hit ws m)

pub record Doing (hit : ℕ → ℕ) (ws m₀ o₀ : List ℕ) (k₀ : ℕ) (todo m o : List ℕ) (k : ℕ) : Type 0 where
  pub marks_length : length m ≡ length m₀
  pub order_length : length o ≡ length o₀
  pub count : ones m ≡ k
  pub marks : after hit todo m ≡ after hit ws m₀
  pub order : take k o ++ queued hit todo m ≡ take k₀ o₀ ++ queued hit ws m₀
  pub rest : drop k o ≡ drop k o₀

module _ {hit : ℕ → ℕ} {ws m₀ o₀ : List ℕ} {k₀ : ℕ} where
  pub doing_start : ones m₀ ≡ k₀ → Doing hit ws m₀ o₀ k₀ ws m₀ o₀ k₀
  doing_start e = record { marks_length = refl; order_length = refl; count = e; marks = refl; order = refl; rest = refl }

  pub doing_step : {todo a b m o m' o' : List ℕ} {k k' : ℕ} → Doing hit ws m₀ o₀ k₀ todo m o k → todo ≡ a ++ b → Marks hit a m o k m' o' k' → Doing hit ws m₀ o₀ k₀ b m' o' k'
  doing_step {a = a} {b = b} {m = m} {o = o} {o' = o'} {k = k} {k' = k'} v e s = record {
    marks_length = s.marks_length ∙ v.marks_length;
    order_length = s.order_length ∙ v.order_length;
    count = s.count;
    marks = rw s.marks (rw (e, after-append) at v.marks);
    order = rw (s.order, s.marks, append_assoc) (rw (e, queued-append) at v.order);
    rest = s.rest ∙ drop-onward o o₀ k k' (grows v.count s) v.rest;
  }

  pub doing_end : {todo m o : List ℕ} {k : ℕ} → Doing hit ws m₀ o₀ k₀ todo m o k → todo ≡ [] → Marks hit ws m₀ o₀ k₀ m o k
  unfolding after queued
  doing_end {todo} {m} {o} {k} v e = record {
    marks_length = v.marks_length;
    order_length = v.order_length;
    count = v.count;
    marks = rw e at v.marks;
    order = sym (append-nil (take k o)) ∙ (rw e at v.order);
    rest = v.rest;
  }

-- two markings, one after the other
pub marks_both : {hit : ℕ → ℕ} {a b m o m' o' m'' o'' : List ℕ} {k k' k'' : ℕ} → ones m ≡ k → Marks hit a m o k m' o' k' → Marks hit b m' o' k' m'' o'' k'' → Marks hit (a ++ b) m o k m'' o'' k''
marks_both {a = a} {b = b} c s s' = doing_end (doing_step {b = []} (doing_step {a = a} {b = b} (doing_start c) refl s) (sym (append-nil b)) s') refl
