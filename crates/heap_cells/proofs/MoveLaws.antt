-- Words stored one after another; a region filled with zeros is a list of zeros. Assumes nothing.
use Prim.Native.Nat.{◌+◌, ◌≤◌, ◌<◌}
use mathlib.Core.Path.{◌≡◌, sym, ◌∙◌}
use mathlib.Core.Logic.{◌⊎◌}
use mathlib.Core.List.{List}
use native.Mathlib.Omega.{arith}
use lib.ListN.{length, get_or, take, drop, replicate, length-take, length-drop, length-replicate, get_or-replicate}
use lib.Seq.{get_or-take, get_or-drop, ext_get_or}
use Rattle.std.proofs.Common.{ℕ}
use Rattle.heap_cells.specs.Moves.{Filled}

pub filled-region : {c c' : List ℕ} {from n : ℕ} → Filled c c' from n → from + n ≤ length c → take n (drop from c') ≡ replicate n 0
filled-region {c} {c'} {from} {n} f fits =
    let l : length (take n (drop from c')) ≡ n = simp (length-take, length-drop) (omega (arith, f.len)) in
    ext_get_or 0 (take n (drop from c')) (replicate n 0) (l ∙ sym (length-replicate n 0))
    (λ r lr.
    let rn : r < n = omega arith in
    get_or-take n (drop from c') r 0 rn ∙ get_or-drop from c' r 0 ∙ f.inside r rn ∙ sym (get_or-replicate n r 0 0 rn))

-- ---- words copied

-- the first j of the words ws stand from `from` on, the others are as they were
pub record Copying (ws c c' : List ℕ) (from j : ℕ) : Type 0 where
  pub len : length c' ≡ length c
  pub inside : (r : ℕ) → r < j → get_or c' (from + r) 0 ≡ get_or ws r 0
  pub outside : (q : ℕ) → (q < from) ⊎ (from + j ≤ q) → get_or c' q 0 ≡ get_or c q 0
