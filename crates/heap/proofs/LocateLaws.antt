-- The answers of locate and row_at. Assumes nothing.
use Rattle.heap.specs.declared.Refusal.{Refusal}
use Rattle.std.proofs.Common.{Result, Ok, Err}
use Prim.Native.Nat.{ℕ, ◌+◌, ◌*◌, ◌/◌, ◌%◌, ◌≤◌, ◌<◌}
use mathlib.Core.Path.{◌≡◌, refl, ap, sym, ◌∙◌}
use mathlib.Core.Bool.{Bool, true, false, cond}
use mathlib.Core.List.{List}
use native.Mathlib.Omega.{arith}
use borrow.Author.Tests.{ltb-true}
use lib.Dec.{eqb, ltb}
use lib.ListN.{get_or, length}
use Rattle.heap_slots.specs.Kinds.{DEAD, NONE}
use Rattle.heap_slots.specs.Limits.{SLOT_WORDS, SLOTS_MAX, SPAN}
use Rattle.heap_slots.specs.Header.{header_at}
use Rattle.heap_slots.specs.Lookup.{Finds, hit_first, missed}
use Rattle.heap_slots.specs.declared.Miss.{Miss}
use Rattle.heap_slots.specs.declared.Miss.TheVariants as F
use Rattle.heap_slots.specs.declared.Header.{Header}
use Rattle.history.proofs.Facts.{eqb_no, eqb_yes}
use Rattle.heap.specs.declared.Refusal.TheVariants.{OtherKind}
use Rattle.heap.specs.Answers.{missing, number_of}
use Rattle.heap.specs.Locating.{Locates, Ranks, located_by, located_in, located_number, row_by, target_number}

-- ---- an object that is found lies within the slots

hit-at : (a b c : Bool) (m : Miss) (j i : ℕ) → cond a (cond b (cond c (Err m) (Ok j)) (Err m)) (Err m) ≡ Ok i → (a ≡ true) × (j ≡ i)
hit-at true true true m j i e = cc
hit-at true true false m j i e = (refl, (cc))
hit-at true false c m j i e = cc
hit-at false b c m j i e = cc

pub found_within : {s : List ℕ} {n w i : ℕ} {f : Result ℕ Miss} → Finds s n w f → f ≡ Ok i → i < n
unfolding hit_first
found_within {s} {n} {w} {i} d e =
    let h = hit-at (ltb (w % SPAN) n) (eqb (get_or s (w % SPAN * SLOT_WORDS) 0) (w / SPAN)) (eqb (get_or s (w % SPAN * SLOT_WORDS + 1) 0) 0) (missed (w / SPAN)) (w % SPAN) i (sym d.is ∙ e) in
    rw (← h.1) (ltb-true (w % SPAN) n h.0)

pub found-fits : {s : List ℕ} {n w i : ℕ} {f : Result ℕ Miss} → Finds s n w f → f ≡ Ok i → n ≤ SLOTS_MAX → n * SLOT_WORDS ≤ length s → (i < SLOTS_MAX) × (i * SLOT_WORDS + SLOT_WORDS ≤ length s)
found-fits d e a b = let l = found_within d e in (omega arith, omega arith)

-- ---- the answers

number_by : (s : List ℕ) (kind : ℕ) (f : Result ℕ Miss) → located_number (located_by s kind f) ≡ target_number s kind f
unfolding located_number located_by target_number number_of missing
number_by s kind (Ok i) = go (eqb (header_at s i).kind kind)
  where
    go : (b : Bool) → located_number (cond b (Ok i) (Err OtherKind)) ≡ cond b 0 2
    go true = refl
    go false = refl
number_by s kind (Err F.Nil) = refl
number_by s kind (Err F.Dead) = refl
number_by s kind (Err F.Wrong) = refl

pub locates_so : {s : List ℕ} {n w kind : ℕ} {r : Result ℕ Refusal} → r ≡ located_in s n w kind → Locates s n w kind r
unfolding located_in
locates_so {s} {n} {w} {kind} e = record { is = e; number = ap located_number e ∙ number_by s kind (hit_first s n w) }

module _ {s : List ℕ} {n w kind : ℕ} {f : Result ℕ Miss} (d : Finds s n w f) where
  pub locates_missed : {m : Miss} → f ≡ Err m → Locates s n w kind (Err (missing m))
  unfolding located_in located_by
  locates_missed e = locates_so (rw (sym d.is ∙ e))

  pub locates_at : {i : ℕ} {h : Header} → f ≡ Ok i → h ≡ header_at s i → h.kind ≡ kind → Locates s n w kind (Ok i)
  unfolding located_in located_by
  locates_at {i} {h} e r k = locates_so (rw (sym d.is ∙ e, eqb_yes (header_at s i).kind kind (ap (λ (x : Header). x.kind) (sym r) ∙ k)))

  pub locates_other : {i : ℕ} {h : Header} → f ≡ Ok i → h ≡ header_at s i → (h.kind ≡ kind → ⊥) → Locates s n w kind (Err OtherKind)
  unfolding located_in located_by
  locates_other {i} {h} e r k = locates_so (rw (sym d.is ∙ e, eqb_no (header_at s i).kind kind (λ z. k (ap (λ (x : Header). x.kind) r ∙ z))))

module _ {s : List ℕ} {n w : ℕ} {f : Result ℕ Miss} (d : Finds s n w f) where
  pub ranks_nil : f ≡ Err F.Nil → Ranks s n w NONE
  unfolding row_by
  ranks_nil e = record { is = rw (sym d.is ∙ e) }

  pub ranks_dead : f ≡ Err F.Dead → Ranks s n w DEAD
  unfolding row_by
  ranks_dead e = record { is = rw (sym d.is ∙ e) }

  pub ranks_wrong : f ≡ Err F.Wrong → Ranks s n w NONE
  unfolding row_by
  ranks_wrong e = record { is = rw (sym d.is ∙ e) }

  pub ranks_at : {i : ℕ} {h : Header} → f ≡ Ok i → h ≡ header_at s i → Ranks s n w h.kind
  unfolding row_by
  ranks_at e r = record { is = rw (sym d.is ∙ e) (ap (λ (x : Header). x.kind) r) }
