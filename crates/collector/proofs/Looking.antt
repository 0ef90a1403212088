-- One slot of the sweep.
use Prim.Native.Nat.{ℕ, suc, ◌+◌, ◌%◌}
use mathlib.Core.Path.{◌≡◌, refl, sym, ap, ◌∙◌}
use mathlib.Core.Logic.{◌≢◌}
use mathlib.Core.Bool.{cond}
use mathlib.Core.List.{List}
use native.Mathlib.Numerals.{add-one}
use lib.ListN.{get_or, set}
use borrow.Author.Tests.{eq-eqb, ne_eqb}
use Rattle.heap_slots.specs.Limits.{GENERATIONS, LAST_GENERATION}
use Rattle.heap_slots.specs.Header.{header_at, scalars_at, set_header}
use Rattle.heap_slots.specs.declared.Header.{Header}
use Rattle.model.specs.declared.Weights.{Weights}
use Rattle.heap.specs.Good.{coroutine_of}
use Rattle.collector.specs.declared.Tally.{Tally}
use Rattle.collector.specs.Sweep.{weight_at, Weighable, empty_header, freed_header, kept_tally, retired_tally, returned_tally, Looked, vacant, stays, retires, returns}

module _ (s x l m : List ℕ) (i : ℕ) (w : Weights) (t : Tally) {h : Header} (q : h ≡ header_at s i) where
  pub look-vacant : h.kind ≡ 0 → Looked s x l m i w t s l t
  look-vacant e = vacant (ap (λ (y : Header). y.kind) (sym q) ∙ e) refl refl refl

  pub look-weighable : Weighable (header_at s i) (scalars_at x i).f → Weighable h (scalars_at x i).f
  look-weighable g = rw q g

  module _ (k : h.kind ≡ 0 → ⊥) where
    held : (header_at s i).kind ≢ 0
    held e = k (ap (λ (y : Header). y.kind) q ∙ e)

    pub look-stays : (get_or m i 0 ≡ 0 → ⊥) → {n k : ℕ} → n ≡ weight_at w h (scalars_at x i).f → k ≡ coroutine_of h.kind → Looked s x l m i w t s l (kept_tally t n h.size k)
    look-stays z {n} e f = stays held z refl refl (e₃ (e ∙ ap (λ (y : Header). weight_at w y (scalars_at x i).f) q) (ap (λ (y : Header). y.size) q) (f ∙ ap (λ (y : Header). coroutine_of y.kind) q))
      where
        e₃ : {a b c a' b' c' : ℕ} → a ≡ a' → b ≡ b' → c ≡ c' → kept_tally t a b c ≡ kept_tally t a' b' c'
        e₃ p r o = λ j. kept_tally t (p j) (r j) (o j)

    module _ (z : get_or m i 0 ≡ 0) where
      pub look-retires : h.half % GENERATIONS ≡ LAST_GENERATION → {r : Header} {s' : List ℕ} → r ≡ empty_header h (h.half % GENERATIONS) → s' ≡ set_header s i r → Looked s x l m i w t s' l (retired_tally t)
      look-retires g {r} e p =
          let f : empty_header h (h.half % GENERATIONS) ≡ freed_header h = ap (empty_header h) (sym (ap (λ b. cond b (h.half % GENERATIONS) (suc (h.half % GENERATIONS))) (eq-eqb (h.half % GENERATIONS) LAST_GENERATION g))) in
          retires held z (ap (λ (y : Header). y.half % GENERATIONS) (sym q) ∙ g) (p ∙ ap (set_header s i) (e ∙ f ∙ ap freed_header q)) refl refl

      pub look-returns : (h.half % GENERATIONS ≡ LAST_GENERATION → ⊥) → {r : Header} {s' : List ℕ} → r ≡ empty_header h (h.half % GENERATIONS + 1) → s' ≡ set_header s i r → Looked s x l m i w t s' (set l t.free i) (returned_tally t)
      look-returns g {r} e p =
          let f : empty_header h (h.half % GENERATIONS + 1) ≡ freed_header h =
          ap (empty_header h) (add-one (h.half % GENERATIONS) ∙ sym (ap (λ b. cond b (h.half % GENERATIONS) (suc (h.half % GENERATIONS))) (ne_eqb (h.half % GENERATIONS) LAST_GENERATION g))) in
          returns held z (λ y. g (ap (λ (y : Header). y.half % GENERATIONS) q ∙ y)) (p ∙ ap (set_header s i) (e ∙ f ∙ ap freed_header q)) refl refl
