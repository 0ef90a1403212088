-- A marker's steps.
use mathlib.Core.Path.{◌≡◌, refl, ◌∙◌}
use mathlib.Core.List.{List, [], ◌++◌}
use Prim.Native.Nat.{ℕ}
use Rattle.collector_marking.specs.Children.{hit}
use Rattle.collector_marking.specs.Adds.{Same, Adds}
use Rattle.collector_marking.specs.declared.Marker.{Marker}
use Rattle.collector_marking.proofs.Doing.{Doing, doing_start, doing_step, doing_end, marks-none, marks_both}

pub same-self : {a : Marker} → Same a a
same-self = record { slots = refl; fresh = refl; marks = refl; order = refl }

pub same_both : {a b d : Marker} → Same a b → Same b d → Same a d
same_both p q = record { slots = q.slots ∙ p.slots; fresh = q.fresh ∙ p.fresh; marks = q.marks ∙ p.marks; order = q.order ∙ p.order }

pub adds-none : {a : Marker} → Adds [] a a
adds-none {a} = record { marked = marks-none a.fit.count; same = same-self }

pub adds_as : {ws ws' : List ℕ} {a b : Marker} → ws ≡ ws' → Adds ws' a b → Adds ws a b
adds_as e s = rw e s

pub adds_both : {us ws : List ℕ} {a b d : Marker} → Adds us a b → Adds ws b d → Adds (us ++ ws) a d
adds_both {a = a} s t = record { marked = marks_both a.fit.count s.marked (rw (s.same.slots, s.same.fresh) at t.marked); same = same_both s.same t.same }

-- of the words ws, which the marker a was to mark, b has todo before it
pub record Going (ws : List ℕ) (a : Marker) (todo : List ℕ) (b : Marker) : Type 0 where
  pub doing : Doing (hit a.slots.now a.fresh) ws a.marks.now a.order.now a.marked todo b.marks.now b.order.now b.marked
  pub same : Same a b

pub going_start : {ws : List ℕ} {a : Marker} → Going ws a ws a
going_start {a = a} = record { doing = doing_start a.fit.count; same = same-self }

pub going_step : {ws todo us rest : List ℕ} {a b d : Marker} → Going ws a todo b → todo ≡ us ++ rest → Adds us b d → Going ws a rest d
going_step v e s = record { doing = doing_step v.doing e (rw (v.same.slots, v.same.fresh) at s.marked); same = same_both v.same s.same }

pub going_end : {ws todo : List ℕ} {a b : Marker} → Going ws a todo b → todo ≡ [] → Adds ws a b
going_end v e = record { marked = doing_end v.doing e; same = v.same }
