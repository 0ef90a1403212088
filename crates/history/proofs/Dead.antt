-- The reference of a freed object is dead: it reads as a reference and reaches nothing.
use Prim.Native.Nat.{ℕ, ◌≤◌, ◌<◌}
use mathlib.Core.Path.{◌≡◌, refl, sym, ap, ◌∙◌}
use mathlib.Core.Logic.{◌≢◌}
use mathlib.Core.Bool.{Bool, true, false}
use mathlib.Core.List.Memᴰ
use mathlib.Core.List.{[], List, ◌∷◌, Memᴰ}
use mathlib.Core.Option.{Option, none, some}
use native.Mathlib.Omega.{arith}
use native.Mathlib.Decide.{dec_lt}
use Rattle.words.specs.Word.{decode_word}
use Rattle.words.specs.declared.Raw.{Raw}
use Rattle.words.specs.declared.Raw.TheVariants as R
use Rattle.model.specs.Reference.{Ref, ref_in}
use Rattle.model.specs.Content.{Content}
use Rattle.model.specs.View.{View, look}
use Rattle.model.specs.Slots.{one}
use Rattle.model.specs.Model.{Model, view_of}
use Rattle.model.specs.History.{Allocation, History, history_view, reference}
use Rattle.model.specs.Causes.{Dead, FirstOf, ReadsNil, a_later, dead, nil, on, order, this_one}
use Rattle.history.proofs.Facts.{eqb_yes}
use Rattle.history.proofs.Coding.{ref_in-word}
use Rattle.history.proofs.Allocations.{Good, newest, total}
use Rattle.history.proofs.Reaching.{hit, mem-of_slot, reaches, refs_once}
use Rattle.history.proofs.Sim.{Agree, whole_view}

-- ---- allocations of one reference are one

hit_self : (w : ℕ) (p : Allocation) → reference p ≡ w → hit w p ≡ 1
hit_self w p e = rw (eqb_yes (reference p) w e)

hit-inside : (w : ℕ) (p : Allocation) (ps : List Allocation) → reference p ≡ w → Memᴰ p ps → 1 ≤ total (hit w) ps
unfolding total
hit-inside w p [] e x'' = elim x'' [ ]
hit-inside w p (x ∷ ps) e (Memᴰ.head d) = let h = hit_self w x (ap reference (sym d) ∙ e) in omega (arith, h)
hit-inside w p (x ∷ ps) e (Memᴰ.tail i) = let h = hit-inside w p ps e i in omega (arith, h)

same-allocation : (w : ℕ) (p q : Allocation) (ps : List Allocation) → total (hit w) ps ≤ 1 → reference p ≡ w → reference q ≡ w → Memᴰ p ps → Memᴰ q ps → p ≡ q
unfolding total
same-allocation w p q [] l e f x5 _ = elim x5 [ ]
same-allocation w p q (x ∷ ps) l e f (Memᴰ.head c) (Memᴰ.head d) = c ∙ sym d
same-allocation w p q (x ∷ ps) l e f (Memᴰ.head c) (Memᴰ.tail j) = let h = hit_self w x (ap reference (sym c) ∙ e) in let k = hit-inside w q ps f j in absurd (omega (arith, h, k))
same-allocation w p q (x ∷ ps) l e f (Memᴰ.tail i) (Memᴰ.head d) = let h = hit_self w x (ap reference (sym d) ∙ f) in let k = hit-inside w p ps e i in absurd (omega (arith, h, k))
same-allocation w p q (x ∷ ps) l e f (Memᴰ.tail i) (Memᴰ.tail j) = same-allocation w p q ps (omega arith) e f i j

-- ---- what its reference reads as

gen-low : {i : ℕ} (p : Allocation) (ps : List Allocation) → Good i ps → Memᴰ p ps → p.gen < 32768
gen-low {i = i} p [] _ x3 = elim x3 [ ]
gen-low p (q ∷ ps) (newest a b c d g) (Memᴰ.head e) = rw (e, b) d
gen-low p (q ∷ ps) (newest a b c d g) (Memᴰ.tail i) = gen-low p ps g i

record Reads (w : ℕ) : Type 0 where
  slot : ℕ
  tag : ℕ
  is : decode_word w ≡ R.Ref slot tag

reads_reference : (w : ℕ) (r : Ref) → ref_in w ≡ some r → Reads w
unfolding ref_in
reads_reference w r e = go (decode_word w) refl
  where
    no_ref : {A : Type 0} → ◌≡◌ {A = Option Ref} none (some r) → A
    no_ref x = let z : ◌≡◌ {A = ℕ} 0 1 = cc in absurd (omega arith)

    go : (x : Raw) → decode_word w ≡ x → Reads w
    go R.Nil d = no_ref (rw d at e)
    go (R.Bool b) d = no_ref (rw d at e)
    go (R.Int z) d = no_ref (rw d at e)
    go (R.Float f) d = no_ref (rw d at e)
    go (R.Char c) d = no_ref (rw d at e)
    go (R.Ref s t) d = record { slot = s; tag = t; is = d }

module _ (m : Model) (b : History) (a : Agree m b) (p : Allocation) (i : Memᴰ p b.allocations) where
  low : p.slot < 65536
  low = go (dec_lt p.slot m.table.fresh)
    where
      go : Dec (p.slot < m.table.fresh) → p.slot < 65536
      go (yes l) = omega (arith, l, a.objects.room, a.objects.fits)
      go (no l) = absurd (Memᴰ.not-nil (rw ((a.objects.at_slot p.slot).unused (omega arith)) at (mem-of_slot p b.allocations i)))

  issued_reads : Reads (reference p)
  issued_reads = reads_reference (reference p) _ (ref_in-word record { gen = p.gen; boxed = p.boxed; slot = p.slot } (gen-low p _ (a.objects.at_slot p.slot).good (mem-of_slot p b.allocations i)) low)

  module _ (f : p.freed ≡ true) where
    freed_gone : look (history_view b) (reference p) ≡ none
    freed_gone = go (look (history_view b) (reference p)) refl
      where
        go : (o : Option Content) → look (history_view b) (reference p) ≡ o → look (history_view b) (reference p) ≡ none
        go none h = h
        go (some c) h =
            let r = (reaches m.layout m.table b a.layout_is a.objects (reference p) c).0 (unfold view_of in (ap (λ (v : View). look v (reference p)) (whole_view m b a) ∙ h)) in
            let e = same-allocation (reference p) r.allocation p b.allocations (refs_once m.table b a.objects (reference p)) r.by refl r.belongs i in
            let x : true ≡ false = sym f ∙ (ap (λ (q : Allocation). q.freed) (sym e) ∙ r.unfreed) in
            let z : ◌≡◌ {A = ℕ} 0 1 = cc in absurd (omega arith)

    pub freed-dead : {is : Content → Bool} → Dead (history_view b) (on is (reference p))
    freed-dead = dead issued_reads.is freed_gone

    pub freed_not_nil : {is : Content → Bool} → ¬ ReadsNil (on is (reference p))
    freed_not_nil (nil e) = let x : R.Ref issued_reads.slot issued_reads.tag ≡ R.Nil = sym issued_reads.is ∙ e in let z : ◌≡◌ {A = ℕ} 0 1 = cc in absurd (omega arith)

-- ---- the number

pub eleven : (C : ℕ → Type 0) (n : ℕ) → FirstOf C order n → n ≢ 4 → ¬ C 1 → C 11 → n ≡ 11
eleven C n (this_one c) four one c11 = absurd (four refl)
eleven C n (a_later x (this_one c)) four one c11 = absurd (one c)
eleven C n (a_later x (a_later y (this_one c))) four one c11 = refl
eleven C n (a_later x (a_later y (a_later z f))) four one c11 = absurd (z c11)
