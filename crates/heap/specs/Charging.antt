-- The charge of nothing (document 01, "Account").
use Rattle.std.specs.Prelude.{◌≡◌, Bool}
use Rattle.account.specs.declared.Account.{Account}
use Rattle.account.specs.Account.{charged, fits}

-- "zero bytes is a charge too": whether it is accepted; the account stays
pub record ZeroCharge (a : Account) (r : Bool) : Type 0 where
  pub is : r ≡ fits a 0
  pub same : a ≡ charged a 0
