-- Reachability over n slots, and the marking that reckons it (document 01, "Kept set"). `hit w` is the slot that a word reaches, n where it
-- reaches none; `kids i` are the traced words of slot i.
use Rattle.std.specs.Prelude.{◌≡◌, ℕ, zero, suc, ◌+◌, ◌<◌, min, length, get_or, set}
use mathlib.Core.List.{List, [], ◌∷◌, ◌++◌, Memᴰ}

-- the least set that holds what the roots reach and is closed under traced words
pub data SlotReach (n : ℕ) (hit : ℕ → ℕ) (kids : ℕ → List ℕ) (roots : List ℕ) : ℕ → Type 0 where
  by_root : {w i : ℕ} → Memᴰ w roots → hit w ≡ i → i < n → SlotReach n hit kids roots i
  by_object : {i w j : ℕ} → SlotReach n hit kids roots i → Memᴰ w (kids i) → hit w ≡ j → j < n → SlotReach n hit kids roots j

-- a number for each slot, 0 where the slot is not marked
abbrev pub Marked : List ℕ → ℕ → Type 0
Marked m s = 0 < get_or m s 0

-- how many slots are marked
unfoldable pub ones : List ℕ → ℕ
ones [] = 0
ones (x ∷ xs) = min x 1 + ones xs

-- The marks, and the slots newly marked, after slot s, whose mark was b, is marked. A slot past the end counts as marked.
unfoldable pub put : ℕ → List ℕ → ℕ → List ℕ
put zero m s = set m s 1
put (suc b) m s = m

unfoldable pub new : ℕ → ℕ → List ℕ
new zero s = s ∷ []
new (suc b) s = []

-- the same after each of a list of words is marked, in order
unfoldable pub after : (ℕ → ℕ) → List ℕ → List ℕ → List ℕ
after hit [] m = m
after hit (w ∷ ws) m = after hit ws (put (get_or m (hit w) 1) m (hit w))

unfoldable pub queued : (ℕ → ℕ) → List ℕ → List ℕ → List ℕ
queued hit [] m = []
queued hit (w ∷ ws) m = new (get_or m (hit w) 1) (hit w) ++ queued hit ws (put (get_or m (hit w) 1) m (hit w))

-- The marks after the queue t is scanned, first in, first out, at most f slots of it.
unfoldable pub run : (ℕ → ℕ) → (ℕ → List ℕ) → ℕ → List ℕ → List ℕ → List ℕ
run hit kids zero m t = m
run hit kids (suc f) m [] = m
run hit kids (suc f) m (s ∷ t) = run hit kids f (after hit (kids s) m) (t ++ queued hit (kids s) m)

-- the marks after the words ws are marked and all that they reach
unfoldable pub phase : ℕ → (ℕ → ℕ) → (ℕ → List ℕ) → List ℕ → List ℕ → List ℕ
phase n hit kids ws m = run hit kids n (after hit ws m) (queued hit ws m)

-- the marks are those of the slots that the roots reach
pub record Exact (n : ℕ) (hit : ℕ → ℕ) (kids : ℕ → List ℕ) (roots : List ℕ) (m : List ℕ) : Type 0 where
  pub len : length m ≡ n
  pub sound : (s : ℕ) → Marked m s → SlotReach n hit kids roots s
  pub whole : (s : ℕ) → SlotReach n hit kids roots s → Marked m s
