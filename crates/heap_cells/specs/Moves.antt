-- Cells copied and filled; the bytes of a string in cells.
use Rattle.std.specs.Prelude.{ℕ, zero, suc, ◌+◌, ◌/◌, ◌%◌, ◌^◌, ◌≤◌, ◌<◌, ◌≡◌, ◌⊎◌, List, [], ◌∷◌, length, get_or, take, drop}

-- n cells from `from` copied to `to`
pub record Moved (c c' : List ℕ) (from to n : ℕ) : Type 0 where
  pub len : length c' ≡ length c
  pub inside : (r : ℕ) → r < n → get_or c' (to + r) 0 ≡ get_or c (from + r) 0
  pub outside : (q : ℕ) → (q < to) ⊎ (to + n ≤ q) → get_or c' q 0 ≡ get_or c q 0

-- n cells from `from` on are 0, the others as they were
pub record Filled (c c' : List ℕ) (from n : ℕ) : Type 0 where
  pub len : length c' ≡ length c
  pub inside : (r : ℕ) → r < n → get_or c' (from + r) 0 ≡ 0
  pub outside : (q : ℕ) → (q < from) ⊎ (from + n ≤ q) → get_or c' q 0 ≡ get_or c q 0

-- the words ws from `from` on, the others as they were
pub record Copied (ws c c' : List ℕ) (from : ℕ) : Type 0 where
  pub len : length c' ≡ length c
  pub inside : take (length ws) (drop from c') ≡ ws
  pub outside : (q : ℕ) → (q < from) ⊎ (from + length ws ≤ q) → get_or c' q 0 ≡ get_or c q 0

-- byte k of a string: eight to a cell, the lowest first
unfoldable pub byte_at : List ℕ → ℕ → ℕ
byte_at ws k = get_or ws (k / 8) 0 / 256 ^ (k % 8) % 256

-- n bytes from byte k on
unfoldable pub bytes_from : List ℕ → ℕ → ℕ → List ℕ
bytes_from ws k zero = []
bytes_from ws k (suc n) = byte_at ws k ∷ bytes_from ws (suc k) n

-- the n bytes of a string in these cells
abbrev pub string_bytes : List ℕ → ℕ → List ℕ
string_bytes ws n = bytes_from ws 0 n

abbrev pub string_cells : ℕ → ℕ
string_cells n = (n + 7) / 8

-- a cell whose bytes are those from `at` on, as far as there are any
pub record Packs (bs : List ℕ) (at w : ℕ) : Type 0 where
  pub each : (k : ℕ) → k < 8 → at + k < length bs → w / 256 ^ k % 256 ≡ get_or bs (at + k) 0

-- the first n bytes of a cell, from `at` on
pub record Unpacked (w : ℕ) (b b' : List ℕ) (at n : ℕ) : Type 0 where
  pub len : length b' ≡ length b
  pub inside : (k : ℕ) → k < n → get_or b' (at + k) 0 ≡ w / 256 ^ k % 256
  pub outside : (q : ℕ) → (q < at) ⊎ (at + n ≤ q) → get_or b' q 0 ≡ get_or b q 0

-- the string bs in the cells from `from` on, the others as they were
pub record Written (bs c c' : List ℕ) (from : ℕ) : Type 0 where
  pub len : length c' ≡ length c
  pub inside : string_bytes (take (string_cells (length bs)) (drop from c')) (length bs) ≡ bs
  pub outside : (q : ℕ) → (q < from) ⊎ (from + string_cells (length bs) ≤ q) → get_or c' q 0 ≡ get_or c q 0
