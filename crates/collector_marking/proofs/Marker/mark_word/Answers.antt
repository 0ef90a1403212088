use mathlib.Core.Path.{refl}
use native.Mathlib.Omega.{arith}
use Rattle.collector_marking.proofs.Adding.{same-self}
use Rattle.collector_marking.proofs.Bridge.{hit-outside, hit_other, hit-empty, hit-there}
use Rattle.collector_marking.proofs.Doing.{marks-past, marks-held, marks-placed, room-left, order_ready, placed_ready}
use Rattle.collector_marking.proofs.Marker.mark_word.Goals as goal

pub returns-then-self-i : goal.returns-then-self-i
returns-then-self-i c = record { marked = marks-past c.args.self.now.fit (hit-outside _ _ _ c.if-self-i.true); same = same-self }

pub returns-then-h-w : goal.returns-then-h-w
returns-then-h-w c = record { marked = marks-past c.args.self.now.fit (hit_other _ _ _ c.read_header-h.ensures c.if-self-i.false c.if-h-w.true); same = same-self }

pub returns-then-h-eq-NONE : goal.returns-then-h-eq-NONE
returns-then-h-eq-NONE c = record { marked = marks-past c.args.self.now.fit (hit-empty _ _ _ c.read_header-h.ensures c.if-self-i.false c.if-h-w.false c.if-h-eq-NONE.true); same = same-self }

pub returns-then-self-i-ne0 : goal.returns-then-self-i-ne0
returns-then-self-i-ne0 c = record { marked = marks-held c.args.self.now.fit (hit-there _ _ _ c.read_header-h.ensures c.if-self-i.false c.if-h-w.false c.if-h-eq-NONE.false) c.if-self-i.false c.if-self-i-ne0.true; same = same-self }

pub offset_bounds-self-self : goal.offset_bounds-self-self
offset_bounds-self-self c = omega (arith, room-left c.args.self.now.fit c.if-self-i.false c.if-self-i-ne0.false, c.args.self.now.fit.room)

pub bounds-self-self : goal.bounds-self-self
bounds-self-self c = omega (arith, room-left c.args.self.now.fit c.if-self-i.false c.if-self-i-ne0.false, c.args.self.now.fit.room)

pub overflow_add-self : goal.overflow_add-self
overflow_add-self c = omega (arith, room-left c.args.self.now.fit c.if-self-i.false c.if-self-i-ne0.false, c.args.self.now.fit.few)

pub invariant_of-self : goal.invariant_of-self
invariant_of-self c = record { fit = order_ready c.args.self.now.fit _ }

pub invariant_of-self-2 : goal.invariant_of-self-2
invariant_of-self-2 c = record { fit = placed_ready c.args.self.now.fit c.if-self-i.false c.if-self-i-ne0.false }

pub returns : goal.returns
returns c = record { marked = marks-placed c.args.self.now.fit c.if-self-i.false c.if-self-i-ne0.false (hit-there _ _ _ c.read_header-h.ensures c.if-self-i.false c.if-h-w.false c.if-h-eq-NONE.false); same = record { slots = refl; fresh = refl; marks = refl; order = refl } }
