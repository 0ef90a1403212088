-- Cases on numbers. Assumes nothing.
use mathlib.Core.Logic.{◌⊎◌, ⊎_elim}
pub use Rattle.std.proofs.lemmas.Bool.{cases_lt as lt_or_le, cases_eq as same_or_not}

-- the sum first, so that the arms' types are known where they stand
pub by_cases {ℓ ℓ' ℓ''} : {A : Type ℓ} {B : Type ℓ'} {C : Type ℓ''} → A ⊎ B → (A → C) → (B → C) → C
by_cases w f g = ⊎_elim f g w
