-- A charge of 0 bytes. Assumes nothing.
use Prim.Native.Nat.{◌+◌, ◌≤◌}
use mathlib.Core.Path.{◌≡◌}
use native.Mathlib.Omega.{arith}
use lib.Dec.{leb}
use Rattle.account.specs.declared.Account.{Account}
use Rattle.account.specs.Account.{charged, fits, saturated}
use Rattle.account.specs.AccountLaws.{saturated-below}
use Rattle.heap.specs.Charging.{ZeroCharge}

pub zero_charge : (a : Account) → a.used ≤ 0xFFFFFFFFFFFFFFFF → a.since ≤ 0xFFFFFFFFFFFFFFFF → ZeroCharge a (leb a.used a.limit)
unfolding charged fits
zero_charge a u s =
    let z : saturated 0 ≡ 0 = saturated-below 0 (omega arith) in
    let u' : saturated (a.used + 0) ≡ a.used = let e : a.used + 0 ≡ a.used = omega arith in rw e (saturated-below a.used u) in
    let s' : saturated (a.since + 0) ≡ a.since = let e : a.since + 0 ≡ a.since = omega arith in rw e (saturated-below a.since s) in
    record { is = rw (z, u'); same = rw (z, u', s') }
