-- An entry that was read by its position. Assumes nothing.
use Prim.Native.Nat.{ℕ, ◌≤◌, ◌<◌}
use mathlib.Core.Path.{◌≡◌, refl, ap, sym, ◌∙◌}
use mathlib.Core.Bool.{Bool, true, false, cond}
use mathlib.Core.Option.{none, some}
use native.Mathlib.Omega.{arith}
use lib.Dec.{ltb}
use borrow.Author.Tests.{ltb-false, ltb-true}
use Rattle.map_store.specs.Store as Maps
use Rattle.map_store.specs.View.{EntryAnswer, entry_answer, stored_entry, got_is}
use Rattle.std.specs.Prelude as Prelude
use Rattle.map_store.specs.declared.Stored.{Stored}

pub entry-inside : (pos : ℕ) (s : Maps.Store) {r : Prelude.Option Stored} {v : Stored} → got_is r ≡ entry_answer pos s → r ≡ Prelude.Some v → (pos < Maps.places s) × (Maps.entry_of s pos ≡ stored_entry v)
unfolding Maps.entry_read
entry-inside pos s {v = v} d e = go (ltb pos (Maps.places s)) refl (ap (λ (a : EntryAnswer). a.entry) (sym (ap got_is e) ∙ d))
  where
    go : (b : Bool) → ltb pos (Maps.places s) ≡ b → some (stored_entry v) ≡ cond b (some (Maps.entry_of s pos)) none → (pos < Maps.places s) × (Maps.entry_of s pos ≡ stored_entry v)
    go true z h = (ltb-true pos (Maps.places s) z, (cc))
    go false z h = absurd (let y : ◌≡◌ {A = ℕ} 0 1 = cc in omega arith)

pub entry_beyond : (pos : ℕ) (s : Maps.Store) {r : Prelude.Option Stored} → got_is r ≡ entry_answer pos s → r ≡ Prelude.None → Maps.places s ≤ pos
entry_beyond pos s d e = go (ltb pos (Maps.places s)) refl (ap (λ (a : EntryAnswer). a.refusal) (sym (ap got_is e) ∙ d))
  where
    go : (b : Bool) → ltb pos (Maps.places s) ≡ b → ◌≡◌ {A = ℕ} 3 (cond b 0 3) → Maps.places s ≤ pos
    go true z h = absurd (omega arith)
    go false z h = ltb-false pos (Maps.places s) z
