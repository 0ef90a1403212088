-- A map's record and its cells, written. Assumes nothing.
use Prim.Native.Nat.{ℕ, ◌+◌, ◌-◌, ◌*◌, ◌≤◌, ◌<◌}
use mathlib.Core.Path.{◌≡◌, refl, ap, ◌∙◌}
use mathlib.Core.Bool.{Bool, true, false}
use mir.Val.{bool_byte}
use mathlib.Core.List.{List}
use lib.ListN.{length}
use borrow.Rule.Slice.PartMut.{mid_of, put_mid}
use Rattle.heap_slots.specs.Header.{header_at, scalars_at, set_header, set_scalars}
use Rattle.heap_slots.specs.Limits.{SLOT_WORDS}
use Rattle.std.specs.Prelude.{is_some}
use Rattle.heap.specs.Kinds.{noted_from}
use Rattle.heap_slots.specs.declared.Header.{Header}
use Rattle.heap_slots.specs.Scalars.{map_part, scalars_of_map}
use Rattle.heap_slots.specs.declared.MapScalars.{MapScalars}
use Rattle.heap_slots.specs.declared.Scalars.{Scalars}
use Rattle.heap_cells.specs.Regions.{region_of}
use Rattle.map_store.specs.Map as Map
use Rattle.map_store.specs.declared.MapStore.{MapStore}
use Rattle.heap.proofs.StepLaws.{OwnCells, own-header, own-scalars, own_words}
use Rattle.collections_maps.specs.Written.{MapWritten, flag_of, noted_bits}
use Rattle.collections_growth.proofs.RegionLaws.{put-own, put-region, region-part}

abbrev scalars_with : MapScalars → ℕ → ℕ → ℕ → MapStore → MapScalars
scalars_with x hashed known noted s = record { keys = x.keys; values = x.values; hashed = hashed; known = known; noted = noted; next = s.fresh; epoch = s.epoch; live = s.live }

-- a flag as a word
pub flag_word : (b : Bool) → bool_byte b ≡ flag_of b
flag_word true = refl
flag_word false = refl

pub map-written : {slots scalars slots' scalars' : List ℕ} {i c d e : ℕ} {h : Header} {x : MapScalars} {y : Scalars} {s : MapStore} → i * SLOT_WORDS + SLOT_WORDS ≤ length slots → i * SLOT_WORDS + SLOT_WORDS ≤ length scalars →
    h ≡ header_at slots i → x ≡ map_part (scalars_at scalars i) → c ≡ flag_of s.hashed → d ≡ flag_of (is_some s.noted) → e ≡ noted_bits s.noted → noted_from (flag_of (is_some s.noted)) (noted_bits s.noted) ≡ s.noted → s.epoch < 4294967296 →
    slots' ≡ set_header slots i (own_words h s.capacity s.index s.len) → y ≡ scalars_of_map (scalars_with x c d e s) → scalars' ≡ set_scalars scalars i y → MapWritten slots scalars slots' scalars' i s
map-written {slots} {scalars} {i = i} {s = s} fits fits' eh ex ec ed ee f g es ey exs = record {
  header = own-header fits (es ∙ ap (λ (z : Header). set_header slots i (own_words z s.capacity s.index s.len)) eh);
  words = own-scalars fits' (exs ∙ rw (ey, ex, ec, ed, ee));
  noted = f;
  epoch = g;
}

-- an entry's value, set in the map's cells
pub valued_in : (h : Header) (c : List ℕ) {pos v : ℕ} {s : MapStore} (ys : List ℕ) → h.start + h.size ≤ length c → length ys ≡ length (mid_of h.start (h.start + h.size - h.start) c) →
    Map.Valued pos v s (mid_of h.start (h.start + h.size - h.start) c) ys →
    OwnCells c (put_mid h.start (h.start + h.size - h.start) c ys) h.start h.size × Map.Valued pos v s (region_of h c) (region_of h (put_mid h.start (h.start + h.size - h.start) c ys))
valued_in h c {pos} {v} {s} ys inside same w = (put-own h c ys inside same, rw (put-region h c ys inside same) (rw (region-part h c) at w))
