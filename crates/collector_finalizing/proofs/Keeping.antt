-- What is kept, marked in two phases; and the marks undone where the list is too short.
use mathlib.Core.Path.{◌≡◌, refl, sym, ap, ◌∙◌}
use mathlib.Core.List.Memᴰ
use mathlib.Core.List.{List}
use Prim.Native.Nat.{ℕ, zero, suc, ◌+◌, ◌≤◌, ◌<◌}
use native.Mathlib.Omega.{arith}
use borrow.Author.Tests.{lt-ltb, le-ltb}
use lib.ListN.{length, get_or, take, drop, replicate, length-replicate, get_or-replicate, length-drop, take-append-drop}
use lib.Seq.{ext_get_or, get_or-take, get_or-drop, length-take-le}
use Rattle.heap_cells.specs.Regions.{raw_at}
use Rattle.layout.specs.Layout.{Layout}
use Rattle.collector_marking.specs.Reach.{ones, phase}
use Rattle.collector_marking.specs.Children.{hit, children, word_at}
use Rattle.collector_marking.specs.Marks.{MarksFit, Listing, Sound, Scanned, Phased, Unmarked}
use Rattle.collector_marking.proofs.ReachLaws.{ones_le}
use Rattle.collector_marking.proofs.Doing.{drop-onward}
use Rattle.collector_finalizing.specs.Order.{seq_of, sort_words}
use Rattle.collector_finalizing.specs.Dropped.{is_dropped, dropped_slots, marks_reached, dropped_words, marks_kept, Listable, Fills, Blank, Blanks, TooFew, AllKept, Keeps}
use Rattle.heap.specs.Answers.{number_of}
use Rattle.heap.specs.declared.Refusal.TheVariants as No
use Rattle.std.proofs.Common.{Ok, Err}
use Rattle.collector_finalizing.proofs.OrderLaws.{sort_length}
use Rattle.collector_finalizing.proofs.Filling.{sieve-length}
use Rattle.collector_finalizing.proofs.Listing.{filled-part}

pub zeros_ones : (n : ℕ) → ones (replicate n 0) ≡ 0
unfolding ones
zeros_ones zero = refl
zeros_ones (suc n) = omega (arith, zeros_ones n)

zeros_at : (n i z : ℕ) → get_or (replicate n z) i z ≡ z
zeros_at zero i z = refl
zeros_at (suc n) zero z = refl
zeros_at (suc n) (suc i) z = zeros_at n i z

-- the order's first places held 0
blank-front : {n k : ℕ} {m o : List ℕ} → Blanks n m o → k ≤ n → take k o ≡ replicate k 0
blank-front {n} {k} {m} {o} b few =
    let r : k ≤ length o = omega (arith, b.room) in
    ext_get_or 0 (take k o) (replicate k 0) (length-take-le k o r ∙ sym (length-replicate k 0))
    (λ i l. (let l' : i < k = omega (arith, length-take-le k o r) in get_or-take k o i 0 l' ∙ b.order i (omega arith) ∙ sym (get_or-replicate k i 0 0 l')))

-- the marks undone, marks and order are at rest again
pub at_rest : {s : List ℕ} {n k : ℕ} {m o m₁ o₁ m₂ o₂ : List ℕ} → Blanks n m o → Scanned s n o 0 m₁ o₁ k → Unmarked m₁ o₁ k m₂ o₂ → (m₂ ≡ m) × (o₂ ≡ o)
at_rest {n = n} {k = k} {m = m} {o = o} {m₁ = m₁} b p u =
    let few : k ≤ n = omega (arith, ones_le m₁, p.count, p.marks_length) in
    (u.marks ∙ ap (λ (j : ℕ). replicate j 0) p.marks_length ∙ sym b.marks, u.order ∙ rw (p.rest, ← blank-front b few) (take-append-drop k o))

pub scanned-room : {s : List ℕ} {n k : ℕ} {m o m₁ o₁ : List ℕ} → Blanks n m o → Scanned s n o 0 m₁ o₁ k → k ≤ length o₁
scanned-room {m₁ = m₁} b p = omega (arith, ones_le m₁, p.count, p.marks_length, b.room, p.order_length)

module _ {s x c : List ℕ} {n : ℕ} {m o : List ℕ} (g : Sound s x c n) (b : Blanks n m o) where
  blank-length : length m ≡ n
  blank-length = ap length b.marks ∙ length-replicate n 0

  pub blank-ready : MarksFit s n m o 0
  blank-ready = record { few = g.slots_max; fits = g.slots_fit; len = blank-length; room = omega (arith, b.room); count = rw b.marks (zeros_ones n) }

  pub blank-listing : Listing s n m o 0
  blank-listing = record { all = λ i h. absurd (let z = ap (λ (l : List ℕ). get_or l i 0) b.marks ∙ zeros_at n i 0 in omega arith); each = λ i h. absurd (Memᴰ.not-nil h) }

  module _ {kids : ℕ → List ℕ} {ws m₁ o₁ : List ℕ} {k : ℕ} (p : Phased s n kids ws m o 0 m₁ o₁ k) where
    few : k ≤ n
    few = omega (arith, ones_le m₁, p.scanned.count, p.scanned.marks_length)

    pub first-ready : MarksFit s n m₁ o₁ k
    first-ready = record { few = g.slots_max; fits = g.slots_fit; len = p.scanned.marks_length; room = omega (arith, b.room, p.scanned.order_length); count = p.scanned.count }

    pub first_listable : Listable s x m₁ n
    unfolding raw_at
    first_listable = record { few = g.slots_max; slots_fit = g.slots_fit; scalars_fit = g.scalars_fit; len = p.scanned.marks_length; halves = λ i l. (g.each i l).half_high }

    module _ {f : ℕ} (e : f ≡ length (dropped_slots s x m₁ n)) where
      found-few : f ≤ n
      found-few = omega (arith, e, sieve-length (is_dropped s x m₁) (word_at s) n 0)

      pub first-room : k + f ≤ length o₁
      first-room = omega (arith, few, found-few, b.room, p.scanned.order_length)

      pub first-blank : Blank o₁ k f
      first-blank =
          let r : f ≤ length (drop k o) = omega (arith, length-drop k o, few, found-few, b.room) in
          ap (take f) p.scanned.rest
          ∙ ext_get_or 0 (take f (drop k o)) (replicate f 0) (length-take-le f (drop k o) r ∙ sym (length-replicate f 0))
          (λ i l. (let l' : i < f = omega (arith, length-take-le f (drop k o) r) in
          get_or-take f (drop k o) i 0 l' ∙ get_or-drop k o i 0 ∙ b.order (k + i) (omega (arith, few, found-few)) ∙ sym (get_or-replicate f i 0 0 l')))

    pub undone : {f : ℕ} {p₀ m₂ o₂ : List ℕ} → Unmarked m₁ o₁ k m₂ o₂ → (w : List ℕ) → f ≡ length w → length p₀ < f → TooFew w m o p₀ m₂ o₂ p₀
    undone u w e l = let q = at_rest b p.scanned u in record { short = omega (arith, e); marks = q.0; order = q.1; places = refl }

-- from the code's marks to the definitions
module _ (l : Layout) (s x c : List ℕ) {n : ℕ} {roots m o m₁ o₁ : List ℕ} {k : ℕ} (b : Blanks n m o) (p : Phased s n (children l s x c) roots m o 0 m₁ o₁ k) where
  reached-marks : m₁ ≡ marks_reached l s x c n roots
  reached-marks = p.marks ∙ ap (phase n (hit s n) (children l s x c) roots) b.marks

  pub found-words : sort_words (seq_of s) (dropped_slots s x m₁ n) ≡ dropped_words l s x c n roots
  unfolding dropped_words
  found-words = ap (λ (q : List ℕ). sort_words (seq_of s) (dropped_slots s x q n)) reached-marks

  pub found-length : {f : ℕ} → f ≡ length (dropped_slots s x m₁ n) → f ≡ length (dropped_words l s x c n roots)
  found-length e = e ∙ sym (sort_length (seq_of s) (dropped_slots s x m₁ n)) ∙ ap length found-words

  pub all-kept : {f marked : ℕ} {p₀ p₁ m₂ o₂ o₃ : List ℕ} → o₃ ≡ o₁ → f ≡ length (dropped_slots s x m₁ n) → f ≤ length p₀ → Fills (sort_words (seq_of s) (dropped_slots s x m₁ n)) p₀ p₁ → Phased s n (children l s x c) (take f p₁) m₁ o₃ k m₂ o₂ marked →
      AllKept s n (dropped_words l s x c n roots) (marks_kept l s x c n roots) o p₀ m₂ o₂ p₁ f marked
  unfolding marks_kept
  all-kept {f} {marked} {p₀} {p₁} {m₂} {o₂} {o₃} z e r w q =
      let d : f ≡ length (sort_words (seq_of s) (dropped_slots s x m₁ n)) = e ∙ sym (sort_length (seq_of s) (dropped_slots s x m₁ n)) in
      record {
        count = found-length e;
        fits = omega (arith, found-length e);
        marks = q.marks ∙ rw (filled-part w d, found-words, reached-marks);
        places = rw (← found-words) w.is;
        scanned = record {
          marks_length = q.scanned.marks_length;
          order_length = q.scanned.order_length ∙ ap length z ∙ p.scanned.order_length;
          count = q.scanned.count;
          more = omega arith;
          rest = q.scanned.rest ∙ ap (drop marked) z ∙ drop-onward o₁ o k marked q.scanned.more p.scanned.rest;
          listing = q.scanned.listing;
        };
      }

-- ---- the two answers

module _ {s : List ℕ} {n : ℕ} {f kept m o p m' o' p' : List ℕ} where
  pub keeps-short : TooFew f m o p m' o' p' → Keeps (Err No.TooShort) s n f kept m o p m' o' p'
  unfolding number_of
  keeps-short q = record { answer = rw (lt-ltb (length p) (length f) q.short); leaves = q }

  pub keeps-done : {listed marked : ℕ} → AllKept s n f kept o p m' o' p' listed marked → Keeps (Ok (record { listed = listed; marked = marked })) s n f kept m o p m' o' p'
  keeps-done q = record { answer = rw (le-ltb (length p) (length f) q.fits, q.count); leaves = q }
