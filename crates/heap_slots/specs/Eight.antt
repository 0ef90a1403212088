-- Eight words of a lent slice stored at once.
use Rattle.std.specs.Prelude.{ℕ, suc, ◌+◌, ◌*◌, List, [], ◌∷◌, set}
use Rattle.heap_slots.specs.Limits.{SLOT_WORDS}

-- the words vs stored from the place p + k on
abbrev pub stores : List ℕ → ℕ → ℕ → List ℕ → List ℕ
stores s p k [] = s
stores s p k (v ∷ vs) = stores (set s (p + k) v) p (suc k) vs

-- eight words in the place of slot i
abbrev pub set_eight : List ℕ → ℕ → ℕ → List ℕ → List ℕ
set_eight s i v vs = stores (set s (i * SLOT_WORDS) v) (i * SLOT_WORDS) 1 vs
