-- Laws of the account that promises and callers cite. Assumes nothing.
use Rattle.std.proofs.Math.Path.{◌≡◌, refl, ap}
use Rattle.std.proofs.Common.{sym, ◌∙◌, arith}
use Rattle.std.specs.Prelude.{Bool, ℕ, ◌≤◌, Result, Ok, Err}
use Rattle.std.proofs.Math.Bool.{true, false, cond}
use Rattle.std.proofs.Math.Nat.{min-eq_left, min-eq_right}
use Rattle.account.specs.Account.{Charge, saturated, fits, charged, charge_is, charge_of}
use Rattle.account.specs.declared.Account.{Account}
use Rattle.account.specs.declared.OverBudget.{OverBudget}

pub saturated-below : (n : ℕ) → n ≤ 0xFFFFFFFFFFFFFFFF → saturated n ≡ n
unfolding saturated
saturated-below n h = min-eq_left h

pub saturated_above : (n : ℕ) → 0xFFFFFFFFFFFFFFFF ≤ n → saturated n ≡ 0xFFFFFFFFFFFFFFFF
unfolding saturated
saturated_above n h = min-eq_right h

-- what a charge's answer says: the charge fits and the next account is the charged one, or it does not fit
module _ (a : Account) (n : ℕ) {r : Result Account OverBudget} (d : charge_is a r ≡ charge_of a n) where
  pub charge-next : {b : Account} → r ≡ Ok b → (fits a n ≡ true) × (b ≡ charged a n)
  unfolding charge_of
  charge-next {b} e = go (fits a n) refl (sym (ap (charge_is a) e) ∙ d)
    where
      go : (t : Bool) → fits a n ≡ t → ◌≡◌ {A = Charge} (charge_is a (Ok b)) record { refusal = cond t 0 5; next = cond t (charged a n) a } → (fits a n ≡ true) × (b ≡ charged a n)
      go true p q = (p, ap (λ c. c.next) q)
      go false p q = let z : ◌≡◌ {A = ℕ} 0 5 = ap (λ c. c.refusal) q in absurd (omega arith)

  pub charge-over : {over : OverBudget} → r ≡ Err over → fits a n ≡ false
  unfolding charge_of
  charge-over {over} e = go (fits a n) refl (sym (ap (charge_is a) e) ∙ d)
    where
      go : (t : Bool) → fits a n ≡ t → ◌≡◌ {A = Charge} (charge_is a (Err over)) record { refusal = cond t 0 5; next = cond t (charged a n) a } → fits a n ≡ false
      go true p q = let z : ◌≡◌ {A = ℕ} 5 0 = ap (λ c. c.refusal) q in absurd (omega arith)
      go false p q = p
