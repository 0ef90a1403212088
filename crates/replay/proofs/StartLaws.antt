-- A session that was started is ready. Assumes nothing.
use Rattle.std.proofs.Common.{Result, Ok}
use Prim.Native.Nat.{ℕ}
use mathlib.Core.Path.{◌≡◌, refl, sym, ap, ◌∙◌}
use mathlib.Core.Bool.{Bool, true, false}
use mathlib.Core.List.{List}
use mathlib.Core.Option.{some}
use native.Mathlib.Omega.{arith}
use Rattle.script.specs.declared.Session.{Session}
use Rattle.script.specs.declared.NotStarted.{NotStarted}
use Rattle.script.specs.Turns.{Buffers, SessionReady, StartAnswer, Starts, first_session, opens_first, roomy, started_by, started_is}

pub started_ready : {input : List ℕ} {u v : Buffers} {r : Result Session NotStarted} {p : Session} → Starts input u r v → r ≡ Ok p → SessionReady input v p
unfolding started_is started_by
started_ready {input} {u} {v} {r} {p} k e = go (roomy input u) (opens_first input) refl refl (ap (λ (a : StartAnswer). a.session) (sym (ap started_is e) ∙ k.answer))
  where
    go : (a b : Bool) → roomy input u ≡ a → opens_first input ≡ b → some p ≡ (started_by a b).session → SessionReady input v p
    go true true f g z = let y : p ≡ first_session = cc in rw y (k.accepted f g).0
    go true false f g z = let w : ◌≡◌ {A = ℕ} 0 1 = cc in absurd (omega arith)
    go false b f g z = let w : ◌≡◌ {A = ℕ} 0 1 = cc in absurd (omega arith)
