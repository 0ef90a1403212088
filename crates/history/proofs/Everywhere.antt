-- A property of contents that every effect keeps holds of every object present.
use Prim.Native.Nat.{ℕ}
use mathlib.Core.Path.{◌≡◌, refl, sym, ◌∙◌, subst}
use mathlib.Core.Logic.{◌⊎◌, inl, inr}
use mathlib.Core.Bool.{Bool, true, false, cond}
use mathlib.Core.List.{List, [], ◌∷◌, Memᴰ}
use mathlib.Core.Option.{Option, none, some, some-injective}
use native.Mathlib.Omega.{arith}
use native.Mathlib.Decide.{ℕ_discrete}
use lib.Dec.{eqb}
use Rattle.history.proofs.Facts.{eqb_yes, eqb_no}
use Rattle.history.proofs.Looking.{PlacedOr, allocated, look-changed, look-under, nothing-there, under}
use Rattle.history.proofs.Sim.{Agree, after-step}
use Rattle.history.proofs.Whole.{starts}
use Rattle.layout.specs.Layout.{Layout}
use Rattle.model.specs.Reference.{ref_in}
use Rattle.model.specs.Content.{Content}
use Rattle.model.specs.View.{View, look}
use Rattle.model.specs.Calls.{Call, Effect, add, change, effect, rewrite, same}
use Rattle.model.specs.Slots.{Applied, allocate, amended, apply, rewritten, slot_view}
use Rattle.model.specs.Model.{Model, view_of}
use Rattle.model.specs.Terms.{terms}
use Rattle.model.specs.Step.{accept, finish, judged, refusal_of, refuse, step}
use Rattle.model.specs.Opening.{Opening, open_heap}
use Rattle.model.specs.History.{History, change_only, empty_history, record_call}
use Rattle.model.specs.Demand3.{accepted, run}

module _ (P : Content → Type 0) where
  abbrev pub Everywhere : View → Type 0
  Everywhere v = (w : ℕ) (c : Content) → look v w ≡ some c → P c

  -- what an effect must do, so that it stays so
  unfoldable pub Preserves : Effect → Type 0
  Preserves same = Unit {0}
  Preserves (add c q) = P c
  Preserves (change r g h) = (c : Content) → P c → P (g c)
  Preserves (rewrite f) = (w : ℕ) (c d : Content) → f w c ≡ some d → P c → P d

  AfterOr : Layout → Option Applied → Type 0
  AfterOr l none = Unit {0}
  AfterOr l (some a) = Everywhere (slot_view l a.next)

  by_rule : (v v' : View) (f : ℕ → Content → Option Content) → ((w : ℕ) → look v' w ≡ under f w (look v w)) → Everywhere v → ((w : ℕ) (c d : Content) → f w c ≡ some d → P c → P d) → Everywhere v'
  unfolding under
  by_rule v v' f looks h keeps w d l = go (look v w) refl (sym (looks w) ∙ l)
    where
      go : (o : Option Content) → look v w ≡ o → under f w o ≡ some d → P d
      go none p q = let z : ◌≡◌ {A = ℕ} 0 1 = cc in absurd (omega arith)
      go (some c) p q = keeps w c d q (h w c p)

  only_rule : (r : ℕ) (g : Content → Content) → ((c : Content) → P c → P (g c)) → (w : ℕ) (c d : Content) → change_only r g w c ≡ some d → P c → P d
  unfolding change_only
  only_rule r g k w c d e = go (eqb w r) (some-injective _ _ e)
    where
      go : (b : Bool) → cond b (g c) c ≡ d → P c → P d
      go true q p = subst P q (k c p)
      go false q p = subst P q p

  everywhere_after : (m : Model) (b : History) → Agree m b → Everywhere (view_of m) → (e : Effect) → Preserves e → AfterOr m.layout (apply m.table e)
  unfolding apply AfterOr Preserves view_of PlacedOr
  everywhere_after m b a h same t = h
  everywhere_after m b a h (add c q) t = go (allocate m.table c q m.table.free) (allocated m.layout m.table b a.objects c q m.table.free refl)
    where
      old : (w : ℕ) (d : Content) → (d ≡ c) ⊎ (look (slot_view m.layout m.table) w ≡ some d) → P d
      old w d (inl n) = subst P (sym n) t
      old w d (inr n) = h w d n

      go : (o : Option Applied) → PlacedOr m.layout m.table c o → AfterOr m.layout o
      go none p = tt
      go (some x) p = λ w d l. old w d (p.new_or_old w d l)
  everywhere_after m b a h (change r g k) t = by_rule (view_of m) (slot_view m.layout (amended m.table g k (ref_in r))) (change_only r g) (look-changed m.layout m.table b a.objects r g k) h (only_rule r g t)
  everywhere_after m b a h (rewrite f) t = by_rule (view_of m) (slot_view m.layout (rewritten m.table f)) f (look-under m.layout m.table f) h t

  everywhere_step : (m : Model) (b : History) → Agree m b → Everywhere (view_of m) → (k : Call) → Preserves (effect (view_of m) k) → Everywhere (view_of (step m k).next)
  unfolding step judged refuse finish accept AfterOr view_of
  everywhere_step m b a h k t = go (ℕ_discrete (refusal_of m (terms m k) e) 0)
    where
      e : Effect
      e = effect (view_of m) k

      done : (o : Option Applied) → AfterOr m.layout o → Everywhere (view_of (finish m (terms m k) e o).next)
      done none x = h
      done (some y) x = x

      go : Dec (refusal_of m (terms m k) e ≡ 0) → Everywhere (view_of (judged m (terms m k) e).next)
      go (yes n) = rw (eqb_yes (refusal_of m (terms m k) e) 0 n) (done (apply m.table e) (everywhere_after m b a h e t))
      go (no n) = rw (eqb_no (refusal_of m (terms m k) e) 0 n) h

  -- calls that keep it, whatever the heap
  abbrev pub PreservedBy : Call → Type 0
  PreservedBy k = (v : View) → Preserves (effect v k)

  everywhere_run : (m : Model) (b : History) → Agree m b → Everywhere (view_of m) → (cs : List Call) → ((k : Call) → Memᴰ k cs → PreservedBy k) → Everywhere (view_of (run m cs))
  unfolding run
  everywhere_run m b a h [] t = h
  everywhere_run m b a h (c ∷ cs) t =
      everywhere_run (step m c).next (record_call b c (accepted (step m c))) (after-step m b a c).agree (everywhere_step m b a h c (t c (Memᴰ.head refl) (view_of m))) cs (λ k i. t k (Memᴰ.tail i))

  pub everywhere : (o : Opening) (m : Model) → open_heap o ≡ some m → (cs : List Call) → ((k : Call) → Memᴰ k cs → PreservedBy k) → Everywhere (view_of (run m cs))
  everywhere o m opening cs t = everywhere_run m (empty_history m.layout) (starts o m opening) (λ w c l. let z : ◌≡◌ {A = ℕ} 0 1 = cc (l, nothing-there o m opening w) in absurd (omega arith)) cs t
