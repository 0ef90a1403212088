-- What the steps of a change come to.
use Rattle.std.specs.Prelude.{◌≡◌, ℕ, ◌+◌, ◌-◌, ◌%◌, ◌<◌, ◌≤◌, cond, List, length, ◌==◌, slice_index, slice_index_or, slice_set}
use Rattle.map_store.specs.Store as S
use Rattle.map_store.specs.View.{entries_in}
use Rattle.map_store.specs.Map.{Indexed, live_in}
use Rattle.map_store.specs.declared.MapStore.{MapStore}

-- The w cells from a on stand from b on; those before b and behind are as they were.
pub record Lifted (cells cells' : List ℕ) (a b w : ℕ) : Type 0 where
  pub same_length : length cells' ≡ length cells
  pub before : (i : ℕ) → i < b → slice_index cells' i ≡ slice_index cells i
  pub lifted : (j : ℕ) → j < w → slice_index cells' (b + j) ≡ slice_index cells (a + j)
  pub behind : (i : ℕ) → b + w ≤ i → slice_index cells' i ≡ slice_index cells i

-- The live entries of the first m stand in the first r, and their index was built.
pub record Tightened (cells cells' : List ℕ) (ib n m r : ℕ) : Type 0 where
  pub same_length : length cells' ≡ length cells
  pub fewer : r ≤ m
  pub entries : entries_in cells' 0 r ≡ S.live_only (entries_in cells 0 m)
  pub indexed : Indexed cells' ib n r (live_in cells m)

abbrev pub killed_at : ℕ → List S.Entry → List S.Entry
killed_at p es = slice_set es p (S.killed (slice_index_or es p S.blank))

-- The entry at pos was taken out of l live ones.
pub record Taken (cells cells' : List ℕ) (ib n m l pos r : ℕ) : Type 0 where
  pub same_length : length cells' ≡ length cells
  pub places : r ≡ cond (S.compacts (m - (l - 1)) (l - 1)) (l - 1) m
  pub entries : entries_in cells' 0 r ≡ cond (S.compacts (m - (l - 1)) (l - 1)) (S.live_only (killed_at pos (entries_in cells 0 m))) (killed_at pos (entries_in cells 0 m))
  pub indexed : Indexed cells' ib n r (l - 1)

-- The record after a removal that left len places.
abbrev pub lessened_to : MapStore → ℕ → MapStore
lessened_to s len = record {
  noted = s.noted;
  len = len;
  live = s.live - 1;
  fresh = s.fresh;
  capacity = s.capacity;
  index = s.index;
  epoch = cond (len == s.len) s.epoch ((s.epoch + 1) % 4294967296);
  hashed = s.hashed;
}
