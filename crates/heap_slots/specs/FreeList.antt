-- The free list (document 01's pile): the first `free` words of a lent list, the last of them on top.
use Rattle.std.specs.Prelude.{ℕ, zero, suc, ◌+◌, ◌-◌, ◌≤◌, ◌<◌, ◌≡◌, cond, List, [], ◌∷◌, eqb, get_or}
use Rattle.heap_slots.specs.Header.{header_at}
use Rattle.heap_slots.specs.Kinds.{NONE}
use Rattle.heap_slots.specs.Limits.{BOX_HALF, HALF}
use Rattle.heap_slots.specs.declared.TakenSlot.{TakenSlot}

-- its top first
unfoldable pub free_list : List ℕ → ℕ → List ℕ
free_list list zero = []
free_list list (suc n) = get_or list n 0 ∷ free_list list n

-- the listed slots are used ones without an object, each listed once, and not retired: the tag is the next generation
pub record Listed (s list : List ℕ) (fresh free : ℕ) : Type 0 where
  pub inside : (k : ℕ) → k < free → get_or list k 0 < fresh
  pub empty : (k : ℕ) → k < free → (header_at s (get_or list k 0)).kind ≡ NONE
  pub low : (k : ℕ) → k < free → HALF ≤ (header_at s (get_or list k 0)).half
  pub high : (k : ℕ) → k < free → (header_at s (get_or list k 0)).half < BOX_HALF
  pub once : (a b : ℕ) → a < b → b < free → get_or list a 0 ≡ get_or list b 0 → ⊥

-- "the slot freed last is used first; otherwise the next never-used slot"
unfoldable pub taken_slot : List ℕ → ℕ → ℕ → ℕ
taken_slot list fresh free = cond (eqb free 0) fresh (get_or list (free - 1) 0)

unfoldable pub taken_half : List ℕ → List ℕ → ℕ → ℕ
taken_half s list free = cond (eqb free 0) HALF (header_at s (get_or list (free - 1) 0)).half

pub record Takes (s list : List ℕ) (fresh free flag : ℕ) (t : TakenSlot) : Type 0 where
  pub slot : t.slot ≡ taken_slot list fresh free
  pub half : t.half ≡ taken_half s list free + flag
  pub fresh_is : t.fresh ≡ cond (eqb free 0) (fresh + 1) fresh
  pub free_is : t.free ≡ free - 1
