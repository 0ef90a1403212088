-- Calls on signed numbers. Assumes nothing.
use mathlib.Core.Path.{◌≡◌, refl}
use Prim.Native.Nat.{ℕ}
use lib.IntN.{ℤ}
use Rattle.model.specs.Calls.{new_array, new_integer, note}
use Rattle.commands.specs.Rows.{make}

module _ {z v : ℤ} (e : z ≡ v) where
  pub integer-signed : make (new_integer v) ≡ make (new_integer z)
  integer-signed = rw e

  pub array-signed : {a : ℕ} → make (new_array a v) ≡ make (new_array a z)
  array-signed = rw e

  pub note-signed : {a : ℕ} → make (note a v) ≡ make (note a z)
  note-signed = rw e
