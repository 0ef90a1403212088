-- The search for the first later sequence number, from the last entry backwards (document 02, (ii)).
use Rattle.std.specs.Prelude.{ℕ, ◌+◌, min, List, [], ◌∷◌, nat_le, nat_lt}
use Rattle.map_store.specs.Store.{Entry, one}

-- how many entries, dead ones included, have a later sequence number than q, and how many have not
unfoldable pub later : ℕ → List Entry → ℕ
later q [] = 0
later q (e ∷ es) = one (nat_lt q e.seq) + later q es

unfoldable pub not_later : ℕ → List Entry → ℕ
not_later q [] = 0
not_later q (e ∷ es) = one (nat_le e.seq q) + not_later q es

-- pos: where the first later entry stands; the number of places if there is none
pub record Search : Type 0 where
  pub pos : ℕ
  pub looked : ℕ

-- Sequence numbers rise, so just the entries that are not later stand before the first later one. Looked at are "all later ones, dead
-- included, and one more if any is not later".
abbrev pub searched : ℕ → List Entry → Search
searched q es = record { pos = not_later q es; looked = later q es + min 1 (not_later q es) }
