use native.Mathlib.Omega.{arith}
use mathlib.Core.Path.{sym}
use Rattle.heap.proofs.SeatLaws.{judges_5, judges_6, judges_7, judges_accepted}
use Rattle.heap.proofs.placing.judge_new.Goals.{then-total-heap-via-then-total-heap, then-total-heap-via-else-total-heap+then-total-heap-2, else-heap-eq0-via-then-heap-eq0+else-heap, else-heap-eq0-via-else-heap-eq0}
use Rattle.heap.proofs.placing.judge_new.Goals as goal

pub returns-then-not-allows : goal.returns-then-not-allows
returns-then-not-allows c = judges_5 _ _ _ _ (sym c.if-not-allows.ensures)

pub returns-then-heap : goal.returns-then-heap
returns-then-heap c = judges_6 _ _ _ _ (sym c.if-not-allows.ensures) c.if-heap-eq0.true c.if-heap.true

pub returns-then-total-heap : goal.returns-then-total-heap
returns-then-total-heap c =
    judges_7 _ _ _ _ (sym c.if-not-allows.ensures)
    (λ z. elim c.else-heap-eq0.branch [ else-heap-eq0-via-then-heap-eq0+else-heap w ↦ w.if-heap.false | else-heap-eq0-via-else-heap-eq0 w ↦ absurd (w.if-heap-eq0.false z) ])
    (elim c.then-total-heap.branch [ then-total-heap-via-then-total-heap w ↦ (let l = w.if-total-heap.true in omega arith) | then-total-heap-via-else-total-heap+then-total-heap-2 w ↦ (let l = w.if-total-heap-2.true in let m = w.if-total-heap.false in omega arith) ])

pub returns : goal.returns
returns c =
    judges_accepted _ _ _ _ (sym c.if-not-allows.ensures)
    (λ z. elim c.else-heap-eq0.branch [ else-heap-eq0-via-then-heap-eq0+else-heap w ↦ w.if-heap.false | else-heap-eq0-via-else-heap-eq0 w ↦ absurd (w.if-heap-eq0.false z) ])
    (omega arith)
