-- The heap after an accepted opening, and after any call, is good. Assumes nothing.
use Rattle.std.proofs.Common.{◌≡◌, ℕ, Bool, true, false, List, [], Result, Ok, refl, arith}
use Rattle.model.specs.Calls.{Call}
use Rattle.model.specs.Opening.{Opening}
use Rattle.history.proofs.Lift.{Seen}
use Rattle.heap.specs.declared.Heap.{Heap}
use Rattle.heap.specs.declared.Refusal.{Refusal}
use Rattle.heap.specs.State.{State, state}
use Rattle.heap.specs.Good.{Good}
use Rattle.heap.specs.Promise.{Performs}
use Rattle.heap.specs.Opens.{Beside, Opens, accepts, opened_by}

ready_so : (b : Bool) (h d : Heap) → Ok h ≡ opened_by b d → (b ≡ true) × (d ≡ h)
unfolding opened_by
ready_so true h d e = (refl, cc)
ready_so false h d e = let z : ◌≡◌ {A = ℕ} 0 1 = cc in absurd (omega arith)

pub opened_good : {o : Opening} {d h : Heap} {s x f r c : List ℕ} {b y : Beside} {a : Result Heap Refusal} → Opens o (state d s x f r c) b a y → a ≡ Ok h → Good (state h s x f r c)
opened_good {o} {d} {h} {s} {x} {f} {r} {c} {b} p e =
    let z = ready_so (accepts o (state d s x f r c) b) h d (rw e at p.answer) in
    rw (← z.1) (p.accepted z.0).good

pub performs_good : {k : Call} {b : State} {o : Seen} {a : State} → Performs k b o a → Good a
performs_good p = (p record { structs = []; functions = [] }).good
