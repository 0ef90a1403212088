-- Regions that grow (document 01, "Slot and object").
use Rattle.std.specs.Prelude.{ℕ, ◌+◌, ◌-◌, ◌≤◌, ◌<◌, ◌≡◌, List, length}
use Rattle.heap_slots.specs.Header.{header_at}
use Rattle.account.specs.declared.Account.{Account}
use Rattle.heap_cells.specs.Regions.{Grown}
use Rattle.heap_cells.specs.declared.Top.{Top}
use Rattle.heap.specs.declared.Heap.{Heap}
use Rattle.heap.specs.State.{State, with_regions}

-- what a longer region asks: the cells of all regions fit
pub record Lengthening (t : State) (i size : ℕ) : Type 0 where
  pub within : i < t.heap.fresh
  pub more : (header_at t.slots i).size ≤ size
  pub fits : t.heap.taken + size ≤ length t.cells + (header_at t.slots i).size

abbrev pub top_of : Heap → Top
top_of h = record { cells = h.top; entries = h.entries }

-- from b to a: the region of slot i has `size` cells, its first ones those that it had; of the record only the regions' top changed
pub record Longer (b : State) (i size : ℕ) (a : State) : Type 0 where
  pub heap : a.heap ≡ with_regions b.heap b.heap.account a.heap.top a.heap.entries b.heap.taken
  pub grown : Grown b.heap.fresh i size (top_of a.heap) b.slots b.directory b.cells a.slots a.directory a.cells

-- the region of slot i has `size` cells, its first ones those that it had; the record h
pub record Lengthened (b : State) (i size : ℕ) (account : Account) (h : Heap) (s dir c : List ℕ) : Type 0 where
  pub heap : h ≡ with_regions b.heap account h.top h.entries (b.heap.taken + (size - (header_at b.slots i).size))
  pub grown : Grown b.heap.fresh i size (top_of h) b.slots b.directory b.cells s dir c
