-- Headers: eight words of a lent slice to a slot. Each header that differs from another, or is made from nothing, is written here.
use Rattle.std.specs.Prelude.{ℕ, ◌+◌, ◌*◌, List, [], ◌∷◌, get_or}
use Rattle.heap_slots.specs.declared.Header.{Header}
use Rattle.heap_slots.specs.Kinds.{NONE}
use Rattle.heap_slots.specs.Limits.{SLOT_WORDS}
use Rattle.heap_slots.specs.Eight.{set_eight}
pub use Rattle.heap_slots.specs.Scalars.{scalar_words, scalars_of, with_scalar}
unfoldable pub use Rattle.heap_slots.specs.Scalars.{scalars_at, set_scalars}

unfoldable pub header_at : List ℕ → ℕ → Header
header_at s i = record {
  half = get_or s (i * SLOT_WORDS) 0;
  kind = get_or s (i * SLOT_WORDS + 1) 0;
  value = get_or s (i * SLOT_WORDS + 2) 0;
  mode = get_or s (i * SLOT_WORDS + 3) 0;
  len = get_or s (i * SLOT_WORDS + 4) 0;
  size = get_or s (i * SLOT_WORDS + 5) 0;
  start = get_or s (i * SLOT_WORDS + 6) 0;
  entry = get_or s (i * SLOT_WORDS + 7) 0;
}

unfoldable pub set_header : List ℕ → ℕ → Header → List ℕ
set_header s i h = set_eight s i h.half (h.kind ∷ h.value ∷ h.mode ∷ h.len ∷ h.size ∷ h.start ∷ h.entry ∷ [])

-- a new object's: half, start and entry come with the placing
abbrev pub fresh_header : ℕ → ℕ → ℕ → ℕ → ℕ → Header
fresh_header kind value mode len size = record { half = 0; kind = kind; value = value; mode = mode; len = len; size = size; start = 0; entry = 0 }

-- the slot without its object; the other words stay
abbrev pub emptied_header : Header → ℕ → Header
emptied_header h half = record { half = half; kind = NONE; value = h.value; mode = h.mode; len = h.len; size = 0; start = h.start; entry = h.entry }

-- headers that differ in one thing
abbrev pub with_half : Header → ℕ → Header
with_half h v = record { half = v; kind = h.kind; value = h.value; mode = h.mode; len = h.len; size = h.size; start = h.start; entry = h.entry }

-- the kind's own words
abbrev pub with_words : Header → ℕ → ℕ → ℕ → Header
with_words h value mode len = record { half = h.half; kind = h.kind; value = value; mode = mode; len = len; size = h.size; start = h.start; entry = h.entry }

abbrev pub with_value : Header → ℕ → Header
with_value h v = with_words h v h.mode h.len

abbrev pub with_mode : Header → ℕ → Header
with_mode h v = with_words h h.value v h.len

abbrev pub with_len : Header → ℕ → Header
with_len h v = with_words h h.value h.mode v

-- the region at another place, of another size
abbrev pub with_region : Header → ℕ → ℕ → ℕ → Header
with_region h size start entry = record { half = h.half; kind = h.kind; value = h.value; mode = h.mode; len = h.len; size = size; start = start; entry = entry }

-- under another half, the region at another place
abbrev pub with_place : Header → ℕ → ℕ → ℕ → Header
with_place h half start entry = record { half = half; kind = h.kind; value = h.value; mode = h.mode; len = h.len; size = h.size; start = start; entry = entry }
