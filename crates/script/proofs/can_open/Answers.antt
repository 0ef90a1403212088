use Rattle.std.proofs.Common.{◌≡◌, ◌∙◌, refl, Bool, true, false, Result, Ok, Err, is_ok}
use native.Mathlib.Omega.{arith}
use Rattle.heap.specs.declared.Heap.{Heap}
use Rattle.heap.specs.declared.Refusal.{Refusal}
use Rattle.script.proofs.OpeningLaws.{many_cells, many_slots, no-slots, told-no, told-yes}
use Rattle.script.proofs.can_open.Goals as goal

pub returns-then-o-lt1 : goal.returns-then-o-lt1
returns-then-o-lt1 c = no-slots c.args.o c.args.layout.now (omega arith)

pub returns-then-o-gt65536 : goal.returns-then-o-gt65536
returns-then-o-gt65536 c = many_slots c.args.o c.args.layout.now (omega arith) (omega arith)

pub returns-then-o-gt1048576 : goal.returns-then-o-gt1048576
returns-then-o-gt1048576 c = many_cells c.args.o c.args.layout.now (omega arith) (omega arith) (omega arith)

told : {b : Bool} (r : Result Heap Refusal) → ((h : Heap) → r ≡ Ok h → true ≡ b) → ((q : Refusal) → r ≡ Err q → false ≡ b) → is_ok r ≡ b
told (Ok h) y n = y h refl
told (Err q) y n = n q refl

pub returns : goal.returns
returns c =
    c.is_ok.ensures.value ∙
    told c.«open».result
    (λ h. told-yes {o = c.args.o} c.weights_in.ensures c.«open».ensures (omega arith) (omega arith) (omega arith) (omega arith) (omega arith) (omega arith) (omega arith) (omega arith) (omega arith) (omega arith))
    (λ q. told-no {o = c.args.o} c.weights_in.ensures c.«open».ensures (omega arith) (omega arith) (omega arith) (omega arith) (omega arith) (omega arith) (omega arith) (omega arith) (omega arith) (omega arith))
