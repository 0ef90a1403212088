-- A slot with its cells, the kind left open; the place in the cells and in the directory is not part of it. Each raw slot that differs from another is written here.
use Rattle.std.specs.Prelude.{ℕ, List, take, drop}
use Rattle.heap_slots.specs.Header.{header_at}
use Rattle.heap_slots.specs.declared.Header.{Header}

pub record RawSlot : Type 0 where
  pub half : ℕ
  pub kind : ℕ
  pub value : ℕ
  pub mode : ℕ
  pub len : ℕ
  pub size : ℕ
  pub cells : List ℕ

abbrev pub raw_of : Header → List ℕ → RawSlot
raw_of h l = record { half = h.half; kind = h.kind; value = h.value; mode = h.mode; len = h.len; size = h.size; cells = l }

abbrev pub region_of : Header → List ℕ → List ℕ
region_of h c = take h.size (drop h.start c)

unfoldable pub raw_at : List ℕ → List ℕ → ℕ → RawSlot
raw_at s c i = raw_of (header_at s i) (region_of (header_at s i) c)

-- the header of such a slot whose region has this size and place
abbrev pub header_from : RawSlot → ℕ → ℕ → ℕ → Header
header_from r size start entry = record { half = r.half; kind = r.kind; value = r.value; mode = r.mode; len = r.len; size = size; start = start; entry = entry }

-- the slot as if of kind k
abbrev pub of_kind : RawSlot → ℕ → RawSlot
of_kind r k = record { half = r.half; kind = k; value = r.value; mode = r.mode; len = r.len; size = r.size; cells = r.cells }

-- with other words of the kind's own, other cells, a larger region
abbrev pub raw_words : RawSlot → ℕ → ℕ → ℕ → RawSlot
raw_words r value mode len = record { half = r.half; kind = r.kind; value = value; mode = mode; len = len; size = r.size; cells = r.cells }

abbrev pub raw_cells : RawSlot → List ℕ → RawSlot
raw_cells r c = record { half = r.half; kind = r.kind; value = r.value; mode = r.mode; len = r.len; size = r.size; cells = c }

abbrev pub raw_grown : RawSlot → ℕ → List ℕ → RawSlot
raw_grown r size c = record { half = r.half; kind = r.kind; value = r.value; mode = r.mode; len = r.len; size = size; cells = c }
