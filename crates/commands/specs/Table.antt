-- The commands of a script: one row for each (docs/SCRIPTS.md), in groups.
use Rattle.std.specs.Prelude.{ℕ, ◌/◌, ◌%◌, cond, not, List, [], ◌∷◌, eqb, get_or, length}
use Rattle.std.proofs.Math.Option.{Option, none, some}
use Rattle.std.specs.Float.Ieee.{of_bits}
use Rattle.std.specs.Float.{binary64}
use Rattle.words.specs.Word.{signed_bits}
use Rattle.map_store.specs.Store.{Cursor}
use Rattle.heap.specs.Kinds.{frames_in}
use Rattle.model.specs.Rules.{payload, key, result, signal}
use Rattle.model.specs.Opening.{Opening}
use Rattle.model.specs.Calls.{Call, truth_word, char_word, float_word, integer_word, reference_word, read_word, same_words, charge, fits_bytes, wants_gc, new_string, new_integer, new_cell, new_error, new_box, new_array, new_map, new_struct, new_function, new_iter, new_coroutine, get, deref_word, kind_of_word, read_string, string_length, read_integer, read_cell, cell_type, error_kind, error_word, read_box, array_type, array_length, array_capacity, read_item, struct_number, field_count, read_field, is_import, function_number, capture_count, read_capture, read_state, read_part, coroutine_sequence, coroutine_finalized, register_count, frame_count, read_frame, read_register, store_cell, store_box, store_item, push, pop, store_field, store_capture, store_register, store_part, set_state, put, insert_entry, find, remove, remove_at, read_entry, set_value, note, next_key, next, live_count, place_count, is_hashed, key_type, value_type, map_epoch, next_sequence, noted_key, entry_capacity, index_length, growth_bytes, iter_next, iter_key, iter_source, iter_key_type, iter_ended, iter_cursor, collect, collection_count, freed_count, present_count, cells_in_use}
use Rattle.commands.specs.declared.Operands.{Operands}
use Rattle.commands.specs.declared.Shape.{Shape}
use Rattle.commands.specs.Rows.{Act, Field, Lists, Row, F, S, W, add_root, b, c, choose, coded, d, group_in, h, joined, make, make_both, no_act, opens_with, q, row}
use Rattle.commands.specs.declared.Form.{Form}
use Rattle.commands.specs.declared.Form.TheVariants.{WordAlone, Second, EntryFields, FrameFields, IteratorCursor, LentCursor}
use Rattle.commands.specs.declared.Memory.{Memory}
use Rattle.commands.specs.declared.Memory.TheVariants.{Own, Buffer, Places, Roots}

-- ---- operands of some rows

-- 00: slots, cells, limit, weights, and the layout's bytes
abbrev pub opening_in : Operands → List ℕ → Opening
opening_in o layout = record { slots = o.a; cells = o.b; limit = o.c; weights = record { slot = o.d; entry = o.e; iterator = o.f; coroutine = o.g; frame = o.h }; layout = layout }

-- 20: payload, key, result, signal, sequence number, finalized, registers, frames
unfoldable pub coroutine_part : ℕ → ℕ → Act
coroutine_part r n =
    cond (eqb n 0) (make (read_part r payload))
    (cond (eqb n 1) (make (read_part r key))
    (cond (eqb n 2) (make (read_part r result))
    (cond (eqb n 3) (make (read_part r signal))
    (cond (eqb n 4) (make (coroutine_sequence r))
    (cond (eqb n 5) (make (coroutine_finalized r))
    (cond (eqb n 6) (make (register_count r))
    (cond (eqb n 7) (make (frame_count r))
    no_act)))))))

-- 21: payload, key, result, signal
unfoldable pub part_store : ℕ → ℕ → ℕ → Act
part_store r n w =
    cond (eqb n 0) (make (store_part r payload w))
    (cond (eqb n 1) (make (store_part r key w))
    (cond (eqb n 2) (make (store_part r result w))
    (cond (eqb n 3) (make (store_part r signal w))
    no_act)))

-- 3A: yielded yet, last sequence number, position, epoch
unfoldable pub cursor_in : Operands → Cursor
cursor_in o = record { last = cond (eqb o.b 0) none (some o.c); pos = o.d; epoch = o.e % 4294967296 }

-- 0E: state, sequence number, payload, key, result, signal; function, counter, base and closure of each frame, one frame after the other
abbrev pub coroutine_made : Operands → Lists → Call
coroutine_made o t = new_coroutine o.a o.b o.c o.d o.e o.f t.words (frames_in t.frames 0 (length t.frames / 4))

-- ---- the rows

-- a heap opened, a root given
unfoldable pub session_rows : List Row
session_rows =
    row 0x00 (q ∷ q ∷ q ∷ q ∷ q ∷ q ∷ q ∷ q ∷ S ∷ []) WordAlone Own (λ o t. opens_with (opening_in o t.bytes)) ∷
    row 0x0B (q ∷ []) WordAlone Own (λ o t. add_root o.a) ∷
    []

-- words
unfoldable pub word_rows : List Row
word_rows =
    row 0x60 (b ∷ []) WordAlone Own (λ o t. make (truth_word (not (eqb o.a 0)))) ∷
    row 0x61 (q ∷ []) WordAlone Own (λ o t. make (char_word (o.a % 4294967296))) ∷
    row 0x62 (q ∷ []) WordAlone Own (λ o t. make (float_word (of_bits binary64 o.a))) ∷
    row 0x63 (q ∷ []) Second Own (λ o t. make (integer_word (signed_bits o.a))) ∷
    row 0x64 (q ∷ q ∷ []) WordAlone Own (λ o t. make (reference_word (o.a % 4294967296) (o.b % 65536))) ∷
    row 0x65 (q ∷ []) Second Own (λ o t. make (read_word o.a)) ∷
    row 0x66 (q ∷ q ∷ []) WordAlone Own (λ o t. make (same_words o.a o.b)) ∷
    []

-- boxes, cells, errors, integers, strings, and what a word reaches
unfoldable pub plain_rows : List Row
plain_rows =
    row 0x06 (q ∷ []) WordAlone Own (λ o t. make (read_box o.a)) ∷
    row 0x16 (q ∷ []) WordAlone Own (λ o t. make (read_cell o.a)) ∷
    row 0x2F (q ∷ []) WordAlone Own (λ o t. make (cell_type o.a)) ∷
    row 0x22 (q ∷ []) WordAlone Own (λ o t. make (error_kind o.a)) ∷
    row 0x23 (q ∷ []) WordAlone Own (λ o t. make (error_word o.a)) ∷
    row 0x24 (q ∷ []) WordAlone Own (λ o t. make (read_integer o.a)) ∷
    row 0x25 (q ∷ []) WordAlone Own (λ o t. make (string_length o.a)) ∷
    row 0x27 (q ∷ []) WordAlone Own (λ o t. make (get o.a)) ∷
    row 0x28 (q ∷ []) WordAlone Own (λ o t. make (deref_word o.a)) ∷
    row 0x4E (q ∷ []) WordAlone Own (λ o t. make (kind_of_word o.a)) ∷
    []

-- arrays, structs, functions
unfoldable pub list_rows : List Row
list_rows =
    row 0x10 (q ∷ []) WordAlone Own (λ o t. make (array_length o.a)) ∷
    row 0x11 (q ∷ q ∷ []) WordAlone Own (λ o t. make (read_item o.a o.b)) ∷
    row 0x2D (q ∷ []) WordAlone Own (λ o t. make (array_type o.a)) ∷
    row 0x2E (q ∷ []) WordAlone Own (λ o t. make (array_capacity o.a)) ∷
    row 0x18 (q ∷ q ∷ []) WordAlone Own (λ o t. make (read_field o.a o.b)) ∷
    row 0x29 (q ∷ []) WordAlone Own (λ o t. make (struct_number o.a)) ∷
    row 0x2A (q ∷ []) WordAlone Own (λ o t. make (field_count o.a)) ∷
    row 0x1A (q ∷ q ∷ []) WordAlone Own (λ o t. make (read_capture o.a o.b)) ∷
    row 0x2B (q ∷ []) Second Own (λ o t. make_both (function_number o.a) (is_import o.a)) ∷
    row 0x2C (q ∷ []) WordAlone Own (λ o t. make (capture_count o.a)) ∷
    []

-- coroutines
unfoldable pub coroutine_rows : List Row
coroutine_rows =
    row 0x1C (q ∷ q ∷ []) WordAlone Own (λ o t. make (read_register o.a o.b)) ∷
    row 0x1E (q ∷ []) WordAlone Own (λ o t. make (read_state o.a)) ∷
    row 0x20 (q ∷ c ∷ []) WordAlone Own (λ o t. coroutine_part o.a o.b) ∷
    row 0x4D (q ∷ q ∷ []) FrameFields Own (λ o t. make (read_frame o.a o.b)) ∷
    []

-- maps
unfoldable pub map_rows : List Row
map_rows =
    row 0x31 (q ∷ q ∷ q ∷ []) Second Own (λ o t. make (find o.a o.b o.c)) ∷
    row 0x33 (q ∷ q ∷ []) EntryFields Own (λ o t. make (read_entry o.a o.b)) ∷
    row 0x36 (q ∷ []) WordAlone Own (λ o t. make (live_count o.a)) ∷
    row 0x37 (q ∷ []) WordAlone Own (λ o t. make (is_hashed o.a)) ∷
    row 0x39 (q ∷ []) Second Own (λ o t. make (next_key o.a)) ∷
    row 0x3A (q ∷ b ∷ q ∷ q ∷ q ∷ []) LentCursor Own (λ o t. make (next o.a (cursor_in o))) ∷
    row 0x3C (q ∷ q ∷ []) WordAlone Own (λ o t. make (growth_bytes o.a o.b)) ∷
    row 0x3D (q ∷ []) WordAlone Own (λ o t. make (place_count o.a)) ∷
    []

-- numbers of a map
unfoldable pub map_number_rows : List Row
map_number_rows =
    row 0x3E (q ∷ []) WordAlone Own (λ o t. make (key_type o.a)) ∷
    row 0x3F (q ∷ []) WordAlone Own (λ o t. make (value_type o.a)) ∷
    row 0x48 (q ∷ []) WordAlone Own (λ o t. make (map_epoch o.a)) ∷
    row 0x49 (q ∷ []) WordAlone Own (λ o t. make (next_sequence o.a)) ∷
    row 0x4A (q ∷ []) Second Own (λ o t. make (noted_key o.a)) ∷
    row 0x4B (q ∷ []) WordAlone Own (λ o t. make (entry_capacity o.a)) ∷
    row 0x4C (q ∷ []) WordAlone Own (λ o t. make (index_length o.a)) ∷
    []

-- iterators
unfoldable pub iterator_rows : List Row
iterator_rows =
    row 0x41 (q ∷ []) Second Own (λ o t. make (iter_key o.a)) ∷
    row 0x42 (q ∷ []) WordAlone Own (λ o t. make (iter_source o.a)) ∷
    row 0x43 (q ∷ []) WordAlone Own (λ o t. make (iter_key_type o.a)) ∷
    row 0x44 (q ∷ []) WordAlone Own (λ o t. make (iter_ended o.a)) ∷
    row 0x45 (q ∷ []) IteratorCursor Own (λ o t. make (iter_cursor o.a)) ∷
    []

-- the heap as a whole
unfoldable pub heap_rows : List Row
heap_rows =
    row 0x51 (q ∷ []) WordAlone Own (λ o t. make (wants_gc o.a)) ∷
    row 0x52 (q ∷ []) WordAlone Own (λ o t. make (fits_bytes o.a)) ∷
    row 0x53 [] WordAlone Own (λ o t. make collection_count) ∷
    row 0x54 [] WordAlone Own (λ o t. make freed_count) ∷
    row 0x55 [] WordAlone Own (λ o t. make present_count) ∷
    row 0x56 [] WordAlone Own (λ o t. make cells_in_use) ∷
    []

-- new objects without lists
unfoldable pub new_rows : List Row
new_rows =
    row 0x01 (q ∷ []) WordAlone Own (λ o t. make (new_box o.a)) ∷
    row 0x02 (b ∷ q ∷ []) WordAlone Own (λ o t. make (new_array o.a (signed_bits o.b))) ∷
    row 0x03 (b ∷ b ∷ []) WordAlone Own (λ o t. make (new_map o.a o.b)) ∷
    row 0x05 (q ∷ []) WordAlone Own (λ o t. make (new_integer (signed_bits o.a))) ∷
    row 0x07 (b ∷ q ∷ []) WordAlone Own (λ o t. make (new_cell o.a o.b)) ∷
    row 0x08 (h ∷ q ∷ []) WordAlone Own (λ o t. make (new_error (o.a % 65536) o.b)) ∷
    row 0x0D (q ∷ []) WordAlone Own (λ o t. make (new_iter o.a)) ∷
    []

-- stores that keep an object's length
unfoldable pub store_rows : List Row
store_rows =
    row 0x12 (q ∷ q ∷ q ∷ []) WordAlone Own (λ o t. make (store_item o.a o.b o.c)) ∷
    row 0x15 (q ∷ q ∷ []) WordAlone Own (λ o t. make (store_box o.a o.b)) ∷
    row 0x17 (q ∷ q ∷ []) WordAlone Own (λ o t. make (store_cell o.a o.b)) ∷
    row 0x19 (q ∷ q ∷ q ∷ []) WordAlone Own (λ o t. make (store_field o.a o.b o.c)) ∷
    row 0x1B (q ∷ q ∷ q ∷ []) WordAlone Own (λ o t. make (store_capture o.a o.b o.c)) ∷
    row 0x1D (q ∷ q ∷ q ∷ []) WordAlone Own (λ o t. make (store_register o.a o.b o.c)) ∷
    row 0x1F (q ∷ b ∷ []) WordAlone Own (λ o t. make (set_state o.a o.b)) ∷
    row 0x21 (q ∷ d ∷ q ∷ []) WordAlone Own (λ o t. part_store o.a o.b o.c) ∷
    []

-- push, pop, the step of an iterator, a charge
unfoldable pub grow_rows : List Row
grow_rows =
    row 0x13 (q ∷ q ∷ []) WordAlone Own (λ o t. make (push o.a o.b)) ∷
    row 0x14 (q ∷ []) WordAlone Own (λ o t. make (pop o.a)) ∷
    row 0x40 (q ∷ []) Second Own (λ o t. make (iter_next o.a)) ∷
    row 0x50 (q ∷ []) WordAlone Own (λ o t. make (charge o.a)) ∷
    []

-- changes of a map
unfoldable pub map_change_rows : List Row
map_change_rows =
    row 0x30 (q ∷ q ∷ q ∷ q ∷ []) WordAlone Own (λ o t. make (put o.a o.b o.c o.d)) ∷
    row 0x3B (q ∷ q ∷ q ∷ q ∷ []) WordAlone Own (λ o t. make (insert_entry o.a o.b o.c o.d)) ∷
    row 0x32 (q ∷ q ∷ q ∷ []) WordAlone Own (λ o t. make (remove o.a o.b o.c)) ∷
    row 0x34 (q ∷ q ∷ q ∷ []) WordAlone Own (λ o t. make (set_value o.a o.b o.c)) ∷
    row 0x35 (q ∷ q ∷ []) WordAlone Own (λ o t. make (remove_at o.a o.b)) ∷
    row 0x38 (q ∷ q ∷ []) WordAlone Own (λ o t. make (note o.a (signed_bits o.b))) ∷
    []

-- new objects with lists
unfoldable pub new_list_rows : List Row
new_list_rows =
    row 0x04 (S ∷ []) WordAlone Own (λ o t. make (new_string t.bytes)) ∷
    row 0x09 (q ∷ W ∷ []) WordAlone Own (λ o t. make (new_struct o.a t.words)) ∷
    row 0x0A (b ∷ q ∷ W ∷ []) WordAlone Own (λ o t. make (new_function (not (eqb o.a 0)) o.b t.words)) ∷
    row 0x0E (b ∷ q ∷ q ∷ q ∷ q ∷ q ∷ W ∷ F ∷ []) WordAlone Own (λ o t. make (coroutine_made o t)) ∷
    []

-- a collection, and a string read: calls that are lent a list
unfoldable pub lent_rows : List Row
lent_rows =
    row 0x0C [] WordAlone Roots (λ o t. make (collect t.words t.places)) ∷
    row 0x0F (W ∷ q ∷ []) WordAlone Places (λ o t. make (collect t.words t.places)) ∷
    row 0x26 (q ∷ q ∷ []) WordAlone Buffer (λ o t. make (read_string o.a t.bytes)) ∷
    []

unfoldable pub groups : List (List Row)
groups = session_rows ∷ word_rows ∷ plain_rows ∷ list_rows ∷ coroutine_rows ∷ map_rows ∷ map_number_rows ∷ iterator_rows ∷ heap_rows ∷ new_rows ∷ store_rows ∷ grow_rows ∷ map_change_rows ∷ new_list_rows ∷ lent_rows ∷ []

unfoldable pub table : List Row
table = joined groups

-- the readings of a group, and the changes without lists; other groups have none
unfoldable pub read_rows : ℕ → List Row
read_rows g =
    cond (eqb g 2) word_rows (cond (eqb g 3) plain_rows (cond (eqb g 4) list_rows (cond (eqb g 5) coroutine_rows (cond (eqb g 6) map_rows (cond (eqb g 7) map_number_rows (cond (eqb g 8) iterator_rows (cond (eqb g 9) heap_rows [])))))))

unfoldable pub change_rows : ℕ → List Row
change_rows g = cond (eqb g 10) new_rows (cond (eqb g 11) store_rows (cond (eqb g 12) grow_rows (cond (eqb g 13) map_change_rows [])))

-- ---- a command by its number

-- what the command n of these rows does
unfoldable pub act_in : List Row → ℕ → Operands → Lists → Act
act_in rows n o t = choose (λ r. r.act o t) no_act rows n

unfoldable pub act_of : ℕ → Operands → Lists → Act
act_of n o t = act_in table n o t

-- none: there is no such command
unfoldable pub fields_of : ℕ → Option (List Field)
fields_of n = choose (λ r. some r.fields) none table n

unfoldable pub form_of : ℕ → Form
form_of n = choose (λ r. r.form) WordAlone table n

unfoldable pub memory_of : ℕ → Memory
memory_of n = choose (λ r. r.memory) Own table n

unfoldable pub group_of : ℕ → ℕ
group_of n = group_in 1 groups n

-- 15: there is no such command
unfoldable pub fields_code : Option (List Field) → ℕ
fields_code none = 15
fields_code (some fs) = coded fs

-- what the code's table has of the command n
unfoldable pub shape_of : ℕ → Shape
shape_of n = record { fields = fields_code (fields_of n); form = form_of n; memory = memory_of n; group = group_of n }

-- a form and a memory by their digits in that table
unfoldable pub form_at : ℕ → Form
form_at n = get_or (WordAlone ∷ Second ∷ EntryFields ∷ FrameFields ∷ IteratorCursor ∷ LentCursor ∷ []) n LentCursor

unfoldable pub memory_at : ℕ → Memory
memory_at n = get_or (Own ∷ Buffer ∷ Places ∷ Roots ∷ []) n Roots
