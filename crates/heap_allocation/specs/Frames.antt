-- Frames in cells (document 01: a coroutine's cells are "registers + 4 × frames"): function, counter, base, closure, one frame after the other.
use Rattle.std.specs.Prelude.{ℕ, ◌+◌, List, [], ◌∷◌, set}
use Rattle.model.specs.declared.Frame.{Frame}

-- one frame's four words from `at` on
abbrev pub put_frame : List ℕ → ℕ → Frame → List ℕ
put_frame cells at f = set (set (set (set cells at f.function) (at + 1) f.counter) (at + 2) f.base) (at + 3) f.closure

-- those of each frame of a list
unfoldable pub copied : List Frame → List ℕ → ℕ → List ℕ
copied [] cells at = cells
copied (f ∷ fs) cells at = copied fs (put_frame cells at f) (at + 4)
