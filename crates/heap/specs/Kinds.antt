-- What a slot's header, scalars and cells mean, by kind (document 01, "Slot and object", the table of kinds).
use Rattle.std.specs.Prelude.{ℕ, zero, suc, ◌+◌, ◌*◌, Bool, cond, not, List, [], ◌∷◌, ℤ, eqb, get_or, take, drop}
use Rattle.std.specs.Prelude as Prelude
use Rattle.std.proofs.Math.Option.{Option, none, some}
use Rattle.words.specs.Word.{signed_bits}
use Rattle.heap_slots.specs.Kinds.{ARRAY, BOX, CELL, COROUTINE, ERROR, FUNCTION, INTEGER, ITERATOR, MAP, NONE, STRING, STRUCT}
use Rattle.heap_slots.specs.Scalars.{coroutine_part, iterator_part, map_part}
use Rattle.heap_slots.specs.declared.Scalars.{Scalars}
use Rattle.heap_cells.specs.Moves.{string_bytes}
use Rattle.heap_cells.specs.Regions.{RawSlot}
use Rattle.map_store.specs.Store.{Cursor, Room}
use Rattle.map_store.specs.View.{store_of}
use Rattle.map_store.specs.declared.MapStore.{MapStore}
use Rattle.model.specs.declared.Frame.{Frame}
use Rattle.model.specs.Content.{Content, string, integer, cell, error, box, array, map_object, struct, closure, iterator, coroutine}
use Rattle.model.specs.Slots.{Object}

-- a flag in a word, and a word that may be absent
abbrev pub yes : ℕ → Bool
yes n = not (eqb n 0)

abbrev pub perhaps : ℕ → ℕ → Option ℕ
perhaps n w = cond (eqb n 0) none (some w)

-- the last row of the table
abbrev pub LAST_ROW : ℕ
LAST_ROW = COROUTINE

-- one of eleven, by the row in the table
abbrev pub by_row {ℓ} : {A : Type ℓ} → ℕ → A → A → A → A → A → A → A → A → A → A → A → A
by_row k a1 a2 a3 a4 a5 a6 a7 a8 a9 a10 a11 =
    cond (eqb k STRING) a1 (cond (eqb k INTEGER) a2 (cond (eqb k CELL) a3 (cond (eqb k ERROR) a4 (cond (eqb k BOX) a5 (cond (eqb k ARRAY) a6 (cond (eqb k MAP) a7
    (cond (eqb k STRUCT) a8 (cond (eqb k FUNCTION) a9 (cond (eqb k ITERATOR) a10 a11)))))))))

-- a map's noted key in two words
abbrev pub noted_from : ℕ → ℕ → Prelude.Option ℤ
noted_from known w = cond (eqb known 0) Prelude.None (Prelude.Some (signed_bits w))

-- the map's record: capacity in value, index length in mode, places in len
abbrev pub map_of : RawSlot → Scalars → MapStore
map_of r x = let m = map_part x in record { noted = noted_from m.known m.noted; len = r.len; live = m.live; fresh = m.next; capacity = r.value; index = r.mode; epoch = m.epoch; hashed = yes m.hashed }

abbrev pub cursor_of : Scalars → Cursor
cursor_of x = let k = iterator_part x in record { last = perhaps k.stepped k.last; pos = k.position; epoch = k.epoch }

-- the k-th frame behind the registers: four cells, function, counter, base, closure
abbrev pub frame_at : List ℕ → ℕ → Frame
frame_at ws k = record { function = get_or ws (k * 4) 0; counter = get_or ws (k * 4 + 1) 0; base = get_or ws (k * 4 + 2) 0; closure = get_or ws (k * 4 + 3) 0 }

-- n frames from the k-th on
unfoldable pub frames_in : List ℕ → ℕ → ℕ → List Frame
frames_in ws k zero = []
frames_in ws k (suc n) = frame_at ws k ∷ frames_in ws (suc k) n

unfoldable pub content_of : RawSlot → Scalars → Content
content_of r x = by_row r.kind
    (string (string_bytes r.cells r.len))
    (integer (signed_bits r.value))
    (cell record { type = r.mode; word = r.value })
    (error record { kind = r.mode; word = r.value })
    (box r.value)
    (array record { type = r.mode; items = take r.len r.cells })
    (map_object record { key_type = (map_part x).keys; value_type = (map_part x).values; store = store_of (map_of r x) r.cells })
    (struct record { number = r.value; fields = take r.len r.cells })
    (closure record { is_import_of = yes r.mode; number = r.value; captures = take r.len r.cells })
    (iterator record { source = r.value; key_type = r.mode; ended = yes (iterator_part x).ended; key = perhaps (iterator_part x).keyed (iterator_part x).key; cursor = cursor_of x })
    (coroutine record {
      state = r.mode;
      finalized = yes (coroutine_part x).finalized;
      sequence = r.value;
      payload = (coroutine_part x).payload;
      key = (coroutine_part x).key;
      result = (coroutine_part x).result;
      signal = (coroutine_part x).signal;
      registers = take r.len r.cells;
      frames = frames_in (drop r.len r.cells) 0 (coroutine_part x).frames;
    })

-- capacity of an array or entry list, length of a map's index
unfoldable pub room_of : RawSlot → Room
room_of r = record {
  capacity = cond (eqb r.kind ARRAY) r.size (cond (eqb r.kind MAP) r.value 0);
  index = cond (eqb r.kind MAP) r.mode 0;
}

unfoldable pub object_of : RawSlot → Scalars → Option Object
object_of r x = cond (eqb r.kind NONE) none (some record { content = content_of r x; room = room_of r })
