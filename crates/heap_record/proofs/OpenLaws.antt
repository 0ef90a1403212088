-- An opening whose record is kept as words. Assumes nothing.
use Prim.Native.Nat.{ℕ}
use mathlib.Core.Path.{◌≡◌, ap, refl, subst, sym}
use mathlib.Core.Bool.{Bool, true, false}
use mathlib.Core.List.{List}
use native.Mathlib.Omega.{arith}
use Rattle.std.proofs.Common.{Result, Ok, Err}
use Rattle.model.specs.Opening.{Opening}
use Rattle.heap.specs.Answers.{number_of}
use Rattle.heap.specs.State.{State}
use Rattle.heap.specs.Opens.{Beside, Opens, accepts, opened_by, opened_number}
use Rattle.heap.specs.declared.Heap.{Heap}
use Rattle.heap.specs.declared.Refusal.{Refusal}
use Rattle.heap.specs.declared.Refusal.TheVariants.{BadOpening}
use Rattle.heap_record.specs.Record.{OpensWords, Settles, opened_in}

refused_so : (b : Bool) (h : Heap) (q : Refusal) → Err q ≡ opened_by b h → q ≡ BadOpening
unfolding opened_by
refused_so true h q e = let z : ◌≡◌ {A = ℕ} 0 1 = cc in absurd (omega arith)
refused_so false h q e = cc

pub opens-words : {o : Opening} {t : State} {x y : Beside} (a : Result Heap Refusal) {before after : List ℕ} {r : ℕ} → Opens o t x a y → Settles a before r after → OpensWords o t x before r after y
unfolding Settles opened_in opened_number number_of
opens-words {o} {t} {x} {y} (Ok h) {after = after} p s =
    let e : opened_in 0 after ≡ Ok h = ap Ok s.1 in
    rw s.0 record { opens = subst (λ (a : Result Heap Refusal). Opens o t x a y) (sym e) p; returned = refl; kept = λ n. absurd (n refl) }
opens-words {o} {t} {x} {y} (Err q) p s =
    let b : q ≡ BadOpening = refused_so (accepts o t x) t.heap q p.answer in
    rw (s.0, b) record { opens = subst (λ (a : Result Heap Refusal). Opens o t x a y) (ap Err b) p; returned = refl; kept = λ n. s.1 }
