-- Every call's effect, by its shape: which rule changes contents, what is added, what a collection rewrites. One row for each call; what
-- holds of every call is proved from the shapes.
use Prim.Native.Nat.{ℕ}
use mathlib.Core.Path.{◌≡◌, refl}
use mathlib.Core.Bool.{false}
use mathlib.Core.List.{List}
use mathlib.Core.Option.{Option, none, some}
use lib.IntN.{ℤ}
use Rattle.map_store.specs.Store as Maps
use Rattle.map_store.specs.Store.{Room}
use Rattle.model.specs.Content.{Content, Map, case_iterator, case_map, iterator, map_object}
use Rattle.model.specs.View.{View, look}
use Rattle.model.specs.Kept.{finalizable, kept, swept}
use Rattle.model.specs.Rules.{Part, advance, key_type_of, on_map, pop_item, push_item, put_box, put_capture, put_cell, put_field, put_item, put_part, put_register, put_state, start_cursor}
use Rattle.model.specs.Calls.{Call, Effect, add, array_capacity, array_length, array_type, capture_count, cell_type, cells_in_use, change, char_word, charge, collect, collection_count, coroutine_finalized, coroutine_sequence, deref_word, effect, entry_capacity, error_kind, error_word, field_count, find, fits_bytes, float_word, frame_count, freed_count, function_number, get, growth_bytes, index_length, insert_entry, integer_word, is_hashed, is_import, iter_cursor, iter_ended, iter_key, iter_key_type, iter_next, iter_source, key_type, kind_of_word, live_count, map_epoch, new_array, new_box, new_cell, new_coroutine, new_error, new_function, new_integer, new_iter, new_map, new_string, new_struct, next, next_key, next_sequence, note, noted_key, place_count, pop, present_count, push, put, read_box, read_capture, read_cell, read_entry, read_field, read_frame, read_integer, read_item, read_part, read_register, read_state, read_string, read_word, reference_word, register_count, remove, remove_at, rewrite, same, same_words, set_state, set_value, store_box, store_capture, store_cell, store_field, store_item, store_part, store_register, string_length, struct_number, truth_word, used_bytes, value_type, wants_gc}

-- what an iterator iterates; a map
unfoldable pub source_of : Content → Option ℕ
source_of c = case_iterator none (λ i. some i.source) c

unfoldable pub map_of : Content → Option Map
map_of c = case_map none (λ m. some m) c

-- the rules by which a call changes an object's contents
pub data Rule (v : View) : Call → (Content → Content) → Type 0 where
  by-box : {k : Call} (w : ℕ) → Rule v k (put_box w)
  by-cell : {k : Call} (w : ℕ) → Rule v k (put_cell w)
  by-item : {k : Call} (i w : ℕ) → Rule v k (put_item i w)
  by-push : {k : Call} (w : ℕ) → Rule v k (push_item v w)
  by-pop : {k : Call} → Rule v k pop_item
  by_field : {k : Call} (i w : ℕ) → Rule v k (put_field i w)
  by-capture : {k : Call} (i w : ℕ) → Rule v k (put_capture i w)
  by_register : {k : Call} (i w : ℕ) → Rule v k (put_register i w)
  by_part : {k : Call} (p : Part) (w : ℕ) → Rule v k (put_part p w)
  by_state : {k : Call} (s : ℕ) → Rule v k (put_state s)
  by-advance : {k : Call} → Rule v k (advance v)
  by-put : {k : Call} (h x w : ℕ) → Rule v k (on_map (λ t. Maps.put t h x w))
  by-insert : {r : ℕ} (h x w : ℕ) → Rule v (insert_entry r h x w) (on_map (λ t. Maps.inserted t h x w))
  by-remove : {k : Call} (h x : ℕ) → Rule v k (on_map (λ t. Maps.removed_key t h x))
  by-remove-at : {k : Call} (p : ℕ) → Rule v k (on_map (λ t. Maps.removed_at p))
  by_value : {k : Call} (p w : ℕ) → Rule v k (on_map (λ t. Maps.with_value p w))
  by-note : {k : Call} (z : ℤ) → Rule v k (on_map (λ t. Maps.noted_key_of z))

pub data Shape (v : View) : Call → Effect → Type 0 where
  keeps : {k : Call} → Shape v k same
  adds : {k : Call} {c : Content} {q : Room} → source_of c ≡ none → map_of c ≡ none → Shape v k (add c q)
  adds_map : {k : Call} {t u : ℕ} {q : Room} → Shape v k (add (map_object record { key_type = t; value_type = u; store = Maps.empty_store }) q)
  adds_iterator : {r : ℕ} {q : Room} → Shape v (new_iter r) (add (iterator record { source = r; key_type = key_type_of (look v r); ended = false; key = none; cursor = start_cursor }) q)
  changes : {k : Call} {r : ℕ} {g : Content → Content} {h : Content → Room → Room} → Rule v k g → Shape v k (change r g h)
  sweeps : {k : Call} (roots : List ℕ) → Shape v k (rewrite (swept (kept v roots) (finalizable v roots)))

pub shape : (v : View) (k : Call) → Shape v k (effect v k)
unfolding effect source_of map_of
shape v (truth_word b) = keeps
shape v (char_word n) = keeps
shape v (float_word x) = keeps
shape v (integer_word z) = keeps
shape v (reference_word s t) = keeps
shape v (read_word w) = keeps
shape v (same_words a b) = keeps
shape v (charge n) = keeps
shape v (fits_bytes n) = keeps
shape v (wants_gc n) = keeps
shape v (new_string bs) = adds refl refl
shape v (new_integer z) = adds refl refl
shape v (new_cell t w) = adds refl refl
shape v (new_error k w) = adds refl refl
shape v (new_box w) = adds refl refl
shape v (new_array t z) = adds refl refl
shape v (new_map k t) = adds_map
shape v (new_struct n ws) = adds refl refl
shape v (new_function i n ws) = adds refl refl
shape v (new_iter r) = adds_iterator
shape v (new_coroutine s n p k q g ws fs) = adds refl refl
shape v (get w) = keeps
shape v (deref_word w) = keeps
shape v (kind_of_word w) = keeps
shape v (read_string r bs) = keeps
shape v (string_length r) = keeps
shape v (read_integer r) = keeps
shape v (read_cell r) = keeps
shape v (cell_type r) = keeps
shape v (error_kind r) = keeps
shape v (error_word r) = keeps
shape v (read_box r) = keeps
shape v (array_length r) = keeps
shape v (array_type r) = keeps
shape v (array_capacity r) = keeps
shape v (read_item r i) = keeps
shape v (struct_number r) = keeps
shape v (field_count r) = keeps
shape v (read_field r i) = keeps
shape v (is_import r) = keeps
shape v (function_number r) = keeps
shape v (capture_count r) = keeps
shape v (read_capture r i) = keeps
shape v (read_state r) = keeps
shape v (read_part r p) = keeps
shape v (coroutine_sequence r) = keeps
shape v (coroutine_finalized r) = keeps
shape v (register_count r) = keeps
shape v (frame_count r) = keeps
shape v (read_frame r i) = keeps
shape v (read_register r i) = keeps
shape v (store_cell r w) = changes (by-cell w)
shape v (store_box r w) = changes (by-box w)
shape v (store_item r i w) = changes (by-item i w)
shape v (push r w) = changes (by-push w)
shape v (pop r) = changes by-pop
shape v (store_field r i w) = changes (by_field i w)
shape v (store_capture r i w) = changes (by-capture i w)
shape v (store_register r i w) = changes (by_register i w)
shape v (store_part r p w) = changes (by_part p w)
shape v (set_state r s) = changes (by_state s)
shape v (put r h k w) = changes (by-put h k w)
shape v (insert_entry r h k w) = changes (by-insert h k w)
shape v (find r h k) = keeps
shape v (remove r h k) = changes (by-remove h k)
shape v (remove_at r p) = changes (by-remove-at p)
shape v (read_entry r p) = keeps
shape v (set_value r p w) = changes (by_value p w)
shape v (note r z) = changes (by-note z)
shape v (next_key r) = keeps
shape v (next r c) = keeps
shape v (live_count r) = keeps
shape v (place_count r) = keeps
shape v (is_hashed r) = keeps
shape v (key_type r) = keeps
shape v (value_type r) = keeps
shape v (map_epoch r) = keeps
shape v (next_sequence r) = keeps
shape v (noted_key r) = keeps
shape v (entry_capacity r) = keeps
shape v (index_length r) = keeps
shape v (growth_bytes r k) = keeps
shape v (iter_next r) = changes by-advance
shape v (iter_key r) = keeps
shape v (iter_source r) = keeps
shape v (iter_key_type r) = keeps
shape v (iter_ended r) = keeps
shape v (iter_cursor r) = keeps
shape v (collect roots list) = sweeps roots
shape v collection_count = keeps
shape v freed_count = keeps
shape v used_bytes = keeps
shape v present_count = keeps
shape v cells_in_use = keeps
