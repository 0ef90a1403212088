-- A call keeps the number of slots. Assumes nothing.
use Prim.Native.Nat.{ℕ, suc}
use mathlib.Core.Path.{◌≡◌, refl}
use mathlib.Core.Bool.{Bool, true, false, cond}
use mathlib.Core.List.{List, [], ◌∷◌}
use mathlib.Core.Option.{Option, none, some}
use lib.Dec.{eqb, ltb}
use Rattle.model.specs.Reference.{Ref, ref_in}
use Rattle.model.specs.Calls.{Call, Effect, add, change, effect, rewrite, same}
use Rattle.model.specs.Slots.{Applied, SlotTable, allocate, amended, apply, place, rewritten}
use Rattle.model.specs.Model.{Model, view_of}
use Rattle.model.specs.Terms.{Terms, terms}
use Rattle.model.specs.Step.{accept, finish, judged, refusal_of, refuse, step}

-- the table after an effect, if there is one, has as many slots
abbrev Sized : ℕ → Option Applied → Type 0
Sized n none = n ≡ n
Sized n (some a) = a.next.size ≡ n

apply-size : (t : SlotTable) (e : Effect) → Sized t.size (apply t e)
unfolding apply allocate place amended rewritten
apply-size t same = refl
apply-size t (add c q) = go t.free
  where
    fresh : (b : Bool) → Sized t.size (cond b (some (place t c q t.fresh [] (suc t.fresh))) none)
    fresh true = refl
    fresh false = refl

    go : (free : List ℕ) → Sized t.size (allocate t c q free)
    go [] = fresh (ltb t.fresh t.size)
    go (i ∷ is) = refl
apply-size t (change r g h) = go (ref_in r)
  where
    go : (o : Option Ref) → (amended t g h o).size ≡ t.size
    go none = refl
    go (some x) = refl
apply-size t (rewrite f) = refl

finish-size : (m : Model) (t : Terms) (e : Effect) (o : Option Applied) → Sized m.table.size o → (finish m t e o).next.table.size ≡ m.table.size
unfolding finish refuse accept
finish-size m t e none h = refl
finish-size m t e (some a) h = h

pub step-size : (m : Model) (k : Call) → (step m k).next.table.size ≡ m.table.size
unfolding step judged refuse
step-size m k = go (eqb (refusal_of m (terms m k) e) 0)
  where
    e : Effect
    e = effect (view_of m) k

    go : (b : Bool) → (cond b (finish m (terms m k) e (apply m.table e)) (refuse m (terms m k) (refusal_of m (terms m k) e))).next.table.size ≡ m.table.size
    go true = finish-size m (terms m k) e (apply m.table e) (apply-size m.table e)
    go false = refl
