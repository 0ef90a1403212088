-- The promises of the readings, a law for each call. Assumes nothing.
use Rattle.std.proofs.Common.{Result}
use Rattle.heap.specs.declared.Refusal.{Refusal}
use Prim.Native.Nat.{ℕ, ◌+◌, ◌*◌}
use mathlib.Core.Path.{◌≡◌, refl, ap, ◌∙◌}
use mathlib.Core.Bool.{false}
use mathlib.Core.Option.{some}
use lib.ListN.{get_or, length}
use Rattle.heap_slots.specs.Limits.{SLOT_WORDS}
use Rattle.heap_slots.specs.Header.{header_at, scalars_at}
use Rattle.words.specs.Word.{signed_bits}
use Rattle.heap_slots.specs.declared.Header.{Header}
use Rattle.heap_slots.specs.Scalars.{coroutine_part}
use Rattle.heap_cells.specs.Regions.{raw_at}
use Rattle.heap_cells.proofs.StringLaws.{length-string}
use Rattle.layout.specs.Layout.{Layout}
use Rattle.map_store.specs.Store.{Room}
use Rattle.model.specs.Content.{case_coroutine}
use Rattle.model.specs.Rules.{Part, key, part, payload, result, signal}
use Rattle.model.specs.Calls.{effect}
use Rattle.model.specs.Calls as Calls
use Rattle.model.specs.View.{look, unboxed}
use Rattle.model.specs.Model.{view_of}
use Rattle.model.specs.Slots.{room_of}
use Rattle.model.specs.Replies.{nothing, number, reply, signed, truth}
use Rattle.model.specs.Terms.{bytes, read_or, terms}
use Rattle.heap.specs.Answers.{reading_is, seen_by}
use Rattle.heap.specs.Kinds.{yes}
use Rattle.heap.specs.Locating.{Locates}
use Rattle.heap.specs.State.{State, model_of, more_of, raw_of}
use Rattle.heap.specs.Good.{Good}
use Rattle.heap.specs.Promise.{Reads}
use Rattle.heap.proofs.KindLaws.{content-box, room-array, says_array, says_box, says_cell, says_coroutine, says_error, says_function, says_integer, says_string, says_struct}
use Rattle.heap.proofs.ReachLaws.{Target, reached-look, reached-room}
use Rattle.heap.proofs.ReadLaws.{reads_array, reads_bytes, reads_cell, reads_coroutine, reads_error, reads_function, reads_integer, reads_struct}
use Rattle.heap_access.specs.Objects.{ReadsHeader, ReadsScalar, ReadsWord}
use Rattle.heap_access.proofs.FrameLaws.{frame_count}
use Rattle.heap_access.proofs.ObjectLaws.{object_slot}
use Rattle.heap_access.proofs.ReadingLaws.{capture-words, count_read, field-words, item-words, number_read, reads_shown, register-words, word_read}

-- ---- what the model reads, as it stands in the buffers

module _ (l : Layout) {t : State} {w i : ℕ} where
  box-word : Target t w i 5 → unboxed (look (view_of (model_of l t)) w) ≡ (header_at t.slots i).value
  unfolding unboxed raw_at
  box-word o = ap unboxed (reached-look o.reached l ∙ ap some (content-box (raw_of t i) (more_of t i) o.kind-is))

  capacity : Target t w i 6 → (room_of (model_of l t).table w).capacity ≡ (header_at t.slots i).size
  unfolding raw_at
  capacity o = ap (λ (q : Room). q.capacity) (reached-room o.reached l ∙ room-array (raw_of t i) o.kind-is)

  pub byte-count : Target t w i 1 → length (bytes (model_of l t) w) ≡ (header_at t.slots i).len
  unfolding raw_at
  byte-count o = ap length (reads_bytes l o) ∙ length-string (raw_of t i).cells (raw_of t i).len

-- the place of a coroutine's word among its scalars
abbrev pub place : Part → ℕ
place payload = 1
place key = 2
place result = 3
place signal = 4

part-word : (l : Layout) {t : State} {w i : ℕ} (p : Part) → Target t w i 11 → read_or 0 (case_coroutine 0 (λ k. part p k)) (look (view_of (model_of l t)) w) ≡ get_or t.scalars (i * SLOT_WORDS + place p) 0
unfolding part scalars_at
part-word l payload o = reads_coroutine l 0 (λ k. part payload k) o
part-word l key o = reads_coroutine l 0 (λ k. part key k) o
part-word l result o = reads_coroutine l 0 (λ k. part result k) o
part-word l signal o = reads_coroutine l 0 (λ k. part signal k) o

-- ---- the calls

module _ {t : State} {w : ℕ} {x : Result Header Refusal} (g : Good t) where
  pub box_read : ReadsHeader t.slots t.heap.fresh w 5 x → Reads (Calls.read_box w) t (seen_by (λ h. reply (number h.value)) x)
  unfolding terms effect raw_at scalars_at
  box_read d = number_read g says_box (Calls.read_box w) (λ h. h.value) d (λ l. refl) (λ l. refl) (λ l i o. box-word l o)

  pub cell_read : ReadsHeader t.slots t.heap.fresh w 3 x → Reads (Calls.read_cell w) t (seen_by (λ h. reply (number h.value)) x)
  unfolding terms effect raw_at scalars_at
  cell_read d = number_read g says_cell (Calls.read_cell w) (λ h. h.value) d (λ l. refl) (λ l. refl) (λ l i o. reads_cell l 0 (λ x. x.word) o)

  pub cell-type_read : ReadsHeader t.slots t.heap.fresh w 3 x → Reads (Calls.cell_type w) t (seen_by (λ h. reply (number h.mode)) x)
  unfolding terms effect raw_at scalars_at
  cell-type_read d = number_read g says_cell (Calls.cell_type w) (λ h. h.mode) d (λ l. refl) (λ l. refl) (λ l i o. reads_cell l 0 (λ x. x.type) o)

  pub error-kind_read : ReadsHeader t.slots t.heap.fresh w 4 x → Reads (Calls.error_kind w) t (seen_by (λ h. reply (number h.mode)) x)
  unfolding terms effect raw_at scalars_at
  error-kind_read d = number_read g says_error (Calls.error_kind w) (λ h. h.mode) d (λ l. refl) (λ l. refl) (λ l i o. reads_error l 0 (λ x. x.kind) o)

  pub error-word_read : ReadsHeader t.slots t.heap.fresh w 4 x → Reads (Calls.error_word w) t (seen_by (λ h. reply (number h.value)) x)
  unfolding terms effect raw_at scalars_at
  error-word_read d = number_read g says_error (Calls.error_word w) (λ h. h.value) d (λ l. refl) (λ l. refl) (λ l i o. reads_error l 0 (λ x. x.word) o)

  pub string-length_read : ReadsHeader t.slots t.heap.fresh w 1 x → Reads (Calls.string_length w) t (seen_by (λ h. reply (number h.len)) x)
  unfolding terms effect raw_at scalars_at
  string-length_read d = number_read g says_string (Calls.string_length w) (λ h. h.len) d (λ l. refl) (λ l. refl) (λ l i o. byte-count l o)

  pub array-type_read : ReadsHeader t.slots t.heap.fresh w 6 x → Reads (Calls.array_type w) t (seen_by (λ h. reply (number h.mode)) x)
  unfolding terms effect raw_at scalars_at
  array-type_read d = number_read g says_array (Calls.array_type w) (λ h. h.mode) d (λ l. refl) (λ l. refl) (λ l i o. reads_array l 0 (λ x. x.type) o)

  pub array-capacity_read : ReadsHeader t.slots t.heap.fresh w 6 x → Reads (Calls.array_capacity w) t (seen_by (λ h. reply (number h.size)) x)
  unfolding terms effect raw_at scalars_at
  array-capacity_read d = number_read g says_array (Calls.array_capacity w) (λ h. h.size) d (λ l. refl) (λ l. refl) (λ l i o. capacity l o)

  pub struct-number_read : ReadsHeader t.slots t.heap.fresh w 8 x → Reads (Calls.struct_number w) t (seen_by (λ h. reply (number h.value)) x)
  unfolding terms effect raw_at scalars_at
  struct-number_read d = number_read g says_struct (Calls.struct_number w) (λ h. h.value) d (λ l. refl) (λ l. refl) (λ l i o. reads_struct l 0 (λ x. x.number) o)

  pub function-number_read : ReadsHeader t.slots t.heap.fresh w 9 x → Reads (Calls.function_number w) t (seen_by (λ h. reply (number h.value)) x)
  unfolding terms effect raw_at scalars_at
  function-number_read d = number_read g says_function (Calls.function_number w) (λ h. h.value) d (λ l. refl) (λ l. refl) (λ l i o. reads_function l 0 (λ x. x.number) o)

  pub state_read : ReadsHeader t.slots t.heap.fresh w 11 x → Reads (Calls.read_state w) t (seen_by (λ h. reply (number h.mode)) x)
  unfolding terms effect raw_at scalars_at
  state_read d = number_read g says_coroutine (Calls.read_state w) (λ h. h.mode) d (λ l. refl) (λ l. refl) (λ l i o. reads_coroutine l 0 (λ x. x.state) o)

  pub sequence_read : ReadsHeader t.slots t.heap.fresh w 11 x → Reads (Calls.coroutine_sequence w) t (seen_by (λ h. reply (number h.value)) x)
  unfolding terms effect raw_at scalars_at
  sequence_read d = number_read g says_coroutine (Calls.coroutine_sequence w) (λ h. h.value) d (λ l. refl) (λ l. refl) (λ l i o. reads_coroutine l 0 (λ x. x.sequence) o)

  pub array-length_read : ReadsHeader t.slots t.heap.fresh w 6 x → Reads (Calls.array_length w) t (seen_by (λ h. reply (number h.len)) x)
  unfolding terms effect raw_at scalars_at
  array-length_read d = count_read g item-words (Calls.array_length w) (λ l. refl) d (λ l. refl)

  pub field-count_read : ReadsHeader t.slots t.heap.fresh w 8 x → Reads (Calls.field_count w) t (seen_by (λ h. reply (number h.len)) x)
  unfolding terms effect raw_at scalars_at
  field-count_read d = count_read g field-words (Calls.field_count w) (λ l. refl) d (λ l. refl)

  pub capture-count_read : ReadsHeader t.slots t.heap.fresh w 9 x → Reads (Calls.capture_count w) t (seen_by (λ h. reply (number h.len)) x)
  unfolding terms effect raw_at scalars_at
  capture-count_read d = count_read g capture-words (Calls.capture_count w) (λ l. refl) d (λ l. refl)

  pub register-count_read : ReadsHeader t.slots t.heap.fresh w 11 x → Reads (Calls.register_count w) t (seen_by (λ h. reply (number h.len)) x)
  unfolding terms effect raw_at scalars_at
  register-count_read d = count_read g register-words (Calls.register_count w) (λ l. refl) d (λ l. refl)

module _ {t : State} {w : ℕ} {r : Result ℕ Refusal} (g : Good t) where
  pub frame-count_read : ReadsScalar t.slots t.scalars t.heap.fresh w 5 r → Reads (Calls.frame_count w) t (reading_is r)
  unfolding terms effect raw_at scalars_at
  frame-count_read d = number_read g says_coroutine (Calls.frame_count w) (λ n. n) d (λ l. refl) (λ l. refl) (λ l i o. frame_count l o)

  pub part_read : (p : Part) → ReadsScalar t.slots t.scalars t.heap.fresh w (place p) r → Reads (Calls.read_part w p) t (reading_is r)
  unfolding terms effect
  part_read p d = number_read g says_coroutine (Calls.read_part w p) (λ n. n) d (λ l. refl) (λ l. refl) (λ l i o. part-word l p o)

  pub item_read : (p : ℕ) → ReadsWord t.slots t.cells t.heap.fresh w 6 p r → Reads (Calls.read_item w p) t (reading_is r)
  unfolding terms effect
  item_read p d = word_read g item-words (Calls.read_item w p) (λ l. refl) p d (λ l. refl)

  pub field_read : (p : ℕ) → ReadsWord t.slots t.cells t.heap.fresh w 8 p r → Reads (Calls.read_field w p) t (reading_is r)
  unfolding terms effect
  field_read p d = word_read g field-words (Calls.read_field w p) (λ l. refl) p d (λ l. refl)

  pub capture_read : (p : ℕ) → ReadsWord t.slots t.cells t.heap.fresh w 9 p r → Reads (Calls.read_capture w p) t (reading_is r)
  unfolding terms effect
  capture_read p d = word_read g capture-words (Calls.read_capture w p) (λ l. refl) p d (λ l. refl)

  pub register_read : (p : ℕ) → ReadsWord t.slots t.cells t.heap.fresh w 11 p r → Reads (Calls.read_register w p) t (reading_is r)
  unfolding terms effect
  register_read p d = word_read g register-words (Calls.read_register w p) (λ l. refl) p d (λ l. refl)

-- ---- an integer; yes or no

module _ {t : State} {w : ℕ} {x : Result Header Refusal} (g : Good t) where
  pub integer_read : ReadsHeader t.slots t.heap.fresh w 2 x → Reads (Calls.read_integer w) t (seen_by (λ h. reply (signed (signed_bits h.value))) x)
  unfolding terms effect raw_at
  integer_read d = reads_shown g says_integer (Calls.read_integer w) (λ h. signed (signed_bits h.value)) d (λ l. refl) (λ l. refl) (λ l i o. reads_integer l nothing (λ z. signed z) o)

  pub import_read : ReadsHeader t.slots t.heap.fresh w 9 x → Reads (Calls.is_import w) t (seen_by (λ h. reply (truth (yes h.mode))) x)
  unfolding terms effect raw_at
  import_read d = reads_shown g says_function (Calls.is_import w) (λ h. truth (yes h.mode)) d (λ l. refl) (λ l. refl) (λ l i o. ap truth (reads_function l false (λ f. f.is_import_of) o))

pub finalized_read : {t : State} {w : ℕ} {r : Result ℕ Refusal} → Good t → Locates t.slots t.heap.fresh w 11 r → Reads (Calls.coroutine_finalized w) t (seen_by (λ i. reply (truth (yes (coroutine_part (more_of t i)).finalized))) r)
unfolding terms effect
finalized_read {t} {w} {r} g d = reads_shown g says_coroutine (Calls.coroutine_finalized w) (λ i. truth (yes (coroutine_part (more_of t i)).finalized)) (object_slot d) (λ l. refl) (λ l. refl) (λ l i o. ap truth (reads_coroutine l false (λ k. k.finalized) o))
