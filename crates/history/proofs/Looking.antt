-- What a word reaches after an effect: after a rule on every object, after a change of one, after a new object.
use Prim.Native.Nat.{ℕ, suc, ◌<◌}
use mathlib.Core.Path.{◌≡◌, refl, sym, ap, ◌∙◌}
use mathlib.Core.Logic.{◌⊎◌, inl, inr}
use mathlib.Core.Bool.{Bool, true, false, cond, ◌&&◌, beq}
use mathlib.Core.List.{List, [], ◌∷◌}
use mathlib.Core.Option.{Option, none, some, some-injective}
use native.Mathlib.Omega.{arith}
use native.Mathlib.Decide.{ℕ_discrete, dec_lt}
use lib.Dec.{eqb, ltb}
use borrow.Author.Tests.{eqb-true}
use Rattle.words.specs.WordLaws.{and_left, and_right}
use Rattle.map_store.specs.Store.{Room}
use Rattle.history.proofs.Facts.{eqb_self, eqb_yes, eqb_no, ltb_yes, ltb_no}
use Rattle.history.proofs.Coding.{word-ref_in}
use Rattle.history.proofs.Allocations.{live-after, keep_live, keep_to, Free, owed_free}
use Rattle.history.proofs.Relation.{Sim}
use Rattle.history.proofs.Change.{change-live, change-fresh}
use Rattle.history.proofs.Reaching.{beq_eq}
use Rattle.history.proofs.Whole.{in_bounds, opens}
use Rattle.layout.specs.Layout.{Layout}
use Rattle.model.specs.Reference.{Ref, ref_in, word}
use Rattle.model.specs.Content.{Content, is_box}
use Rattle.model.specs.View.{Live, View, look, look_live, look_ref, mem, reference_of}
use Rattle.model.specs.Kept.{settled, swept}
use Rattle.model.specs.Calls.{next}
use Rattle.model.specs.Slots.{Applied, SlotTable, allocate, amended, filled, live, live_object, count_in, place, rewritten, slot_view, update}
use Rattle.model.specs.Model.{Model, view_of}
use Rattle.model.specs.Opening.{Opening, open_heap, opened}
use Rattle.model.specs.History.{History, of_slot, change_only}

unfoldable pub under : (ℕ → Content → Option Content) → ℕ → Option Content → Option Content
under f w none = none
under f w (some c) = f w c

hit-under : (f : ℕ → Content → Option Content) (w : ℕ) (r : Ref) (o : Live) (b : Bool) → ref_in w ≡ some r → (eqb r.gen o.gen && beq r.boxed o.boxed) ≡ b →
    look_live r (keep_live f r.slot (some o)) ≡ under f w (look_live r (some o))
unfolding keep_live keep_to look_live under
hit-under f w r o true e t = rw t (go (f (reference_of r.slot o) o.content) refl)
  where
    name : reference_of r.slot o ≡ w
    name = (λ j. word record {
      gen = sym (eqb-true r.gen o.gen (and_left (eqb r.gen o.gen) (beq r.boxed o.boxed) t)) j;
      boxed = sym (beq_eq r.boxed o.boxed (and_right (eqb r.gen o.gen) (beq r.boxed o.boxed) t)) j;
      slot = r.slot;
    }) ∙ word-ref_in w r e

    go : (x : Option Content) → f (reference_of r.slot o) o.content ≡ x → look_live r (keep_to o x) ≡ f w o.content
    go none q = sym q ∙ ap (λ (n : ℕ). f n o.content) name
    go (some d) q = rw t (sym q ∙ ap (λ (n : ℕ). f n o.content) name)
hit-under f w r o false e t = rw t (go (f (reference_of r.slot o) o.content))
  where
    go : (x : Option Content) → look_live r (keep_to o x) ≡ none
    go none = refl
    go (some d) = rw t

pub look-under : (l : Layout) (m : SlotTable) (f : ℕ → Content → Option Content) (w : ℕ) → look (slot_view l (rewritten m f)) w ≡ under f w (look (slot_view l m) w)
unfolding look look_ref slot_view rewritten under
look-under l m f w = go (ref_in w) refl
  where
    at : (r : Ref) (o : Option Live) → ref_in w ≡ some r → look_live r (keep_live f r.slot o) ≡ under f w (look_live r o)
    at r none e = unfold keep_live in unfold look_live in refl
    at r (some o) e = hit-under f w r o (eqb r.gen o.gen && beq r.boxed o.boxed) e refl

    go : (o : Option Ref) → ref_in w ≡ o → look_ref (slot_view l (rewritten m f)) o ≡ under f w (look_ref (slot_view l m) o)
    go none e = refl
    go (some r) e = ap (look_live r) (live-after f r.slot (m.slots r.slot)) ∙ at r (live (m.slots r.slot)) e

pub look-changed : (l : Layout) (m : SlotTable) (b : History) → Sim m b → (r : ℕ) (g : Content → Content) (h : Content → Room → Room) (w : ℕ) →
    look (slot_view l (amended m g h (ref_in r))) w ≡ under (change_only r g) w (look (slot_view l m) w)
look-changed l m b s r g h w = ap (λ (v : View). look v w) same_view ∙ look-under l m (change_only r g) w
  where
    same_view : slot_view l (amended m g h (ref_in r)) ≡ slot_view l (rewritten m (change_only r g))
    same_view = unfold slot_view in unfold rewritten in λ j. record { layout = l; fresh = change-fresh m b s r g h j; at = λ i. change-live m b s r g h i j }

-- a new object: what is looked up was there, or is the new contents; what was there still is
pub record Placed (v v' : View) (c : Content) : Type 0 where
  pub new_or_old : (w : ℕ) (d : Content) → look v' w ≡ some d → (d ≡ c) ⊎ (look v w ≡ some d)
  pub still : (w : ℕ) (d : Content) → look v w ≡ some d → look v' w ≡ some d

look-placed : (l : Layout) (m : SlotTable) (c : Content) (q : Room) (i : ℕ) (free : List ℕ) (fresh : ℕ) → live (m.slots i) ≡ none → Placed (slot_view l m) (slot_view l (place m c q i free fresh).next) c
unfolding look look_ref slot_view place update filled live live_object look_live
look-placed l m c q i free fresh z = record { new_or_old = λ w d. went (ref_in w) d; still = λ w d. stayed (ref_in w) d }
  where
    mine : (r : Ref) (b : Bool) (d : Content) → (eqb r.gen (m.slots i).gen && beq r.boxed (is_box c)) ≡ b → look_live r (some record { gen = (m.slots i).gen; boxed = is_box c; content = c }) ≡ some d → d ≡ c
    mine r true d t e = sym (some-injective _ _ (rw t at e))
    mine r false d t e = (let x : ◌≡◌ {A = Option Content} none (some d) = rw t at e in let z : ◌≡◌ {A = ℕ} 0 1 = cc in absurd (omega arith))

    went : (o : Option Ref) (d : Content) → look_ref (slot_view l (place m c q i free fresh).next) o ≡ some d → (d ≡ c) ⊎ (look_ref (slot_view l m) o ≡ some d)
    went none d e = let z : ◌≡◌ {A = ℕ} 0 1 = cc in absurd (omega arith)
    went (some r) d e = to (ℕ_discrete i r.slot)
      where
        to : Dec (i ≡ r.slot) → (d ≡ c) ⊎ (look_live r (live (m.slots r.slot)) ≡ some d)
        to (yes n) = inl (mine r (eqb r.gen (m.slots i).gen && beq r.boxed (is_box c)) d refl (rw (eqb_yes i r.slot n) at e))
        to (no n) = inr (rw (eqb_no i r.slot n) at e)

    stayed : (o : Option Ref) (d : Content) → look_ref (slot_view l m) o ≡ some d → look_ref (slot_view l (place m c q i free fresh).next) o ≡ some d
    stayed none d e = let z : ◌≡◌ {A = ℕ} 0 1 = cc in absurd (omega arith)
    stayed (some r) d e = to (ℕ_discrete i r.slot)
      where
        to : Dec (i ≡ r.slot) → look_live r (live (cond (eqb i r.slot) (filled (m.slots i) c q) (m.slots r.slot))) ≡ some d
        to (yes n) = let x : live (m.slots r.slot) ≡ none = ap (λ (j : ℕ). live (m.slots j)) (sym n) ∙ z in (let y : ◌≡◌ {A = Option Content} none (some d) = rw x at e in let k : ◌≡◌ {A = ℕ} 0 1 = cc in absurd (omega arith))
        to (no n) = rw (eqb_no i r.slot n) e

unfoldable pub PlacedOr : Layout → SlotTable → Content → Option Applied → Type 0
PlacedOr l t c none = Unit {0}
PlacedOr l t c (some a) = Placed (slot_view l t) (slot_view l a.next) c

module _ (l : Layout) (t : SlotTable) (b : History) (s : Sim t b) where
  pub allocated : (c : Content) (q : Room) (xs : List ℕ) → t.free ≡ xs → PlacedOr l t c (allocate t c q xs)
  unfolding allocate PlacedOr count_in
  allocated c q [] e = go (dec_lt t.fresh t.size)
    where
      go : Dec (t.fresh < t.size) → PlacedOr l t c (cond (ltb t.fresh t.size) (some (place t c q t.fresh [] (suc t.fresh))) none)
      go (yes d) = rw (ltb_yes t.fresh t.size d) (look-placed l t c q t.fresh [] (suc t.fresh) (in_bounds t b s t.fresh (omega arith)))
      go (no d) = rw (ltb_no t.fresh t.size (omega arith)) tt
  allocated c q (i ∷ is) e = look-placed l t c q i is t.fresh ((s.at_slot i).live-is ∙ ready.none-there)
    where
      ready : Free (count_in i is) (of_slot i b.allocations)
      ready = owed_free (count_in i is) (of_slot i b.allocations) (s.at_slot i).good (rw (e, eqb_self i) at (s.at_slot i).free_is)

-- what a sweep keeps
pub swept_kept : (k f : List ℕ) (s : ℕ) (e : Content) → mem s k ≡ true → swept k f s e ≡ some (settled f s e)
unfolding swept
swept_kept k f s e h = rw h

pub swept-stays : (k f : List ℕ) (w : ℕ) (c d : Content) → swept k f w c ≡ some d → (mem w k ≡ true) × (settled f w c ≡ d)
unfolding swept
swept-stays k f w c d e = go (mem w k) refl
  where
    go : (b : Bool) → mem w k ≡ b → (mem w k ≡ true) × (settled f w c ≡ d)
    go true q = (q, some-injective _ _ (rw q at e))
    go false q = let x : ◌≡◌ {A = Option Content} none (some d) = rw q at e in let z : ◌≡◌ {A = ℕ} 0 1 = cc in absurd (omega arith)

-- a new heap has nothing
pub nothing-there : (o : Opening) (m : Model) → open_heap o ≡ some m → (w : ℕ) → look (view_of m) w ≡ none
nothing-there o m opening w = ap (λ (n : Model). look (view_of n) w) (opens o m opening).is ∙ (unfold look in at-start (ref_in w))
  where
    at-start : (r : Option Ref) → look_ref (view_of (opened o m.layout)) r ≡ none
    at-start none = unfold look_ref in refl
    at-start (some r) = unfold look_ref in unfold view_of in unfold slot_view in unfold opened in unfold live in unfold live_object in unfold look_live in refl
