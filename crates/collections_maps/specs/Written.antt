-- A map's record in its slot's header and scalars.
use Rattle.std.specs.Prelude.{ℕ, ◌<◌, ◌≡◌, Bool, true, false, List, ℤ, Option, Some, None, is_some}
use Rattle.heap_slots.specs.Header.{scalars_at}
use Rattle.words.specs.Word.{bits_of_signed}
use Rattle.heap.specs.Kinds.{noted_from}
use Rattle.heap_slots.specs.Scalars.{map_part, scalars_of_map}
use Rattle.heap_slots.specs.declared.Scalars.{Scalars}
use Rattle.map_store.specs.declared.MapStore.{MapStore}
use Rattle.heap.proofs.StepLaws.{OwnScalars, OwnWords}

abbrev pub flag_of : Bool → ℕ
flag_of true = 1
flag_of false = 0

abbrev pub noted_bits : Option ℤ → ℕ
noted_bits (Some k) = bits_of_signed k
noted_bits None = 0

abbrev pub map_scalars : Scalars → MapStore → Scalars
map_scalars x s = let k = map_part x in scalars_of_map record { keys = k.keys; values = k.values; hashed = flag_of s.hashed; known = flag_of (is_some s.noted); noted = noted_bits s.noted; next = s.fresh; epoch = s.epoch; live = s.live }

-- the map's record was written to slot i, and is read back the same
pub record MapWritten (slots scalars slots' scalars' : List ℕ) (i : ℕ) (s : MapStore) : Type 0 where
  pub header : OwnWords slots slots' i s.capacity s.index s.len
  pub words : OwnScalars scalars scalars' i (map_scalars (scalars_at scalars i) s)
  pub noted : noted_from (flag_of (is_some s.noted)) (noted_bits s.noted) ≡ s.noted
  pub epoch : s.epoch < 4294967296
