-- Readings of one object: the refusals, and what the model reads of the object that a word reaches. Assumes nothing.
use Rattle.std.proofs.Common.{Result, Err}
use Prim.Native.Nat.{ℕ, ◌≤◌, ◌<◌}
use mathlib.Core.Path.{◌≡◌, ap, ◌∙◌}
use mathlib.Core.Bool.{Bool, false}
use mathlib.Core.List.{List, [], ◌∷◌}
use mathlib.Core.Option.{none}
use lib.IntN.{ℤ}
use lib.ListN.{take, drop}
use Rattle.words.specs.Word.{signed_bits}
use Rattle.heap_cells.specs.Moves.{string_bytes}
use Rattle.map_store.specs.Store.{empty_store}
use Rattle.map_store.specs.View.{store_of}
use Rattle.layout.specs.Layout.{Layout, is_traced}
use Rattle.model.specs.Content.{Array, Cell, Closure, Content, Coroutine, Error, Iterator, Map, Struct, case_array, case_box, case_cell, case_closure, case_coroutine, case_error, case_integer, case_iterator, case_map, case_string, case_struct}
use Rattle.model.specs.Calls.{Call, effect, same}
use Rattle.model.specs.View.{look}
use Rattle.model.specs.Replies.{Lent, Reply, nothing, reply}
use Rattle.model.specs.Model.{view_of}
use Rattle.model.specs.Refusals.{first, inside, target}
use Rattle.model.specs.Terms.{bytes, captures, fields, frames, items, key_traced, map_store, read_or, registers, terms}
use Rattle.heap.specs.declared.Refusal.{Refusal}
use Rattle.heap.specs.declared.Refusal.TheVariants as No
use Rattle.heap.specs.Answers.{number_of}
use Rattle.heap.specs.Kinds.{content_of, cursor_of, frames_in, map_of, perhaps, yes}
use Rattle.heap.specs.Locating.{Locates}
use Rattle.heap.specs.State.{State, model_of, more_of, raw_of}
use Rattle.heap.specs.Good.{Good}
use Rattle.heap.specs.Promise.{Does}
use Rattle.heap.proofs.KindLaws.{Says, content-array, content-box, content-cell, content-coroutine, content-error, content-function, content-integer, content-iterator, content-map, content-string, content-struct}
use Rattle.heap.proofs.ReachLaws.{Reached, Target, located_refused, reached-look, target_met}
use Rattle.heap.proofs.DoesLaws.{does-answered, does-own, first_none, first_passes, first_refuses, inside_not, inside_so}

-- ---- the promise of a reading

module _ (l : Layout) {t : State} (g : Good t) (k : Call) where
  -- 1, 11 or 2
  pub object-refused : {w kind : ℕ} {r : Result ℕ Refusal} {q : Refusal} {is : Content → Bool} {rest : List ℕ} {x : Lent} → Locates t.slots t.heap.fresh w kind r → r ≡ Err q → Says is kind →
      (terms (model_of l t) k).refusals ≡ target (view_of (model_of l t)) is w ∷ rest → (terms (model_of l t) k).lent_before ≡ x → Does l k t record { refusal = number_of q; answer = reply nothing; lent = x } t
  object-refused {q = q} {rest = rest} d e s h b = does-own l g k q b (rw h (first_refuses rest q (located_refused g d e l s)))

  module _ {w i kind : ℕ} {is : Content → Bool} (o : Target t w i kind) (s : Says is kind) where
    pub object_passes : (terms (model_of l t) k).refusals ≡ target (view_of (model_of l t)) is w ∷ [] → first (terms (model_of l t) k).refusals ≡ 0
    object_passes h = rw h (first_passes [] (target_met l g o s) ∙ first_none)

    pub object_passes_inside : {p n : ℕ} → (terms (model_of l t) k).refusals ≡ target (view_of (model_of l t)) is w ∷ inside p n ∷ [] → p < n → first (terms (model_of l t) k).refusals ≡ 0
    object_passes_inside {p} {n} h z = rw h (first_passes (inside p n ∷ []) (target_met l g o s) ∙ first_passes [] (inside_so p n z) ∙ first_none)

    pub object-answered : {a : Reply} {x : Lent} → (terms (model_of l t) k).refusals ≡ target (view_of (model_of l t)) is w ∷ [] → effect (view_of (model_of l t)) k ≡ same → (terms (model_of l t) k).charge ≡ none →
        (terms (model_of l t) k).lent_after ≡ x → (terms (model_of l t) k).answer ≡ a → Does l k t record { refusal = 0; answer = reply a; lent = x } t
    object-answered h f c b a = does-answered l g k b f c (object_passes h) a

    -- 3: a position outside
    pub object-outside : {p n : ℕ} {x : Lent} → (terms (model_of l t) k).refusals ≡ target (view_of (model_of l t)) is w ∷ inside p n ∷ [] → n ≤ p → (terms (model_of l t) k).lent_before ≡ x →
        Does l k t record { refusal = number_of No.Outside; answer = reply nothing; lent = x } t
    object-outside {p} {n} h z b = does-own l g k No.Outside b (rw h (first_passes (inside p n ∷ []) (target_met l g o s) ∙ first_refuses [] No.Outside (inside_not p n z)))

    pub object-inside : {p n : ℕ} {a : Reply} {x : Lent} → (terms (model_of l t) k).refusals ≡ target (view_of (model_of l t)) is w ∷ inside p n ∷ [] → p < n → effect (view_of (model_of l t)) k ≡ same →
        (terms (model_of l t) k).charge ≡ none → (terms (model_of l t) k).lent_after ≡ x → (terms (model_of l t) k).answer ≡ a → Does l k t record { refusal = 0; answer = reply a; lent = x } t
    object-inside h z f c b a = does-answered l g k b f c (object_passes_inside h z) a

-- ---- what the model reads of the object

pub reads_content : (l : Layout) {t : State} {w i : ℕ} {A : Type 0} (d : A) (f : Content → A) → Reached t w i → read_or d f (look (view_of (model_of l t)) w) ≡ f (content_of (raw_of t i) (more_of t i))
unfolding read_or
reads_content l d f h = rw (reached-look h l)

pub reads_string : (l : Layout) {t : State} {w i : ℕ} {A : Type 0} (d : A) (f : List ℕ → A) → Target t w i 1 → read_or d (case_string d f) (look (view_of (model_of l t)) w) ≡ f (string_bytes (raw_of t i).cells (raw_of t i).len)
reads_string l {t} {i = i} d f o = reads_content l d (case_string d f) o.reached ∙ ap (case_string d f) (content-string (raw_of t i) (more_of t i) o.kind-is)

pub reads_integer : (l : Layout) {t : State} {w i : ℕ} {A : Type 0} (d : A) (f : ℤ → A) → Target t w i 2 → read_or d (case_integer d f) (look (view_of (model_of l t)) w) ≡ f (signed_bits (raw_of t i).value)
reads_integer l {t} {i = i} d f o = reads_content l d (case_integer d f) o.reached ∙ ap (case_integer d f) (content-integer (raw_of t i) (more_of t i) o.kind-is)

pub reads_cell : (l : Layout) {t : State} {w i : ℕ} {A : Type 0} (d : A) (f : Cell → A) → Target t w i 3 → read_or d (case_cell d f) (look (view_of (model_of l t)) w) ≡ f record { type = (raw_of t i).mode; word = (raw_of t i).value }
reads_cell l {t} {i = i} d f o = reads_content l d (case_cell d f) o.reached ∙ ap (case_cell d f) (content-cell (raw_of t i) (more_of t i) o.kind-is)

pub reads_error : (l : Layout) {t : State} {w i : ℕ} {A : Type 0} (d : A) (f : Error → A) → Target t w i 4 → read_or d (case_error d f) (look (view_of (model_of l t)) w) ≡ f record { kind = (raw_of t i).mode; word = (raw_of t i).value }
reads_error l {t} {i = i} d f o = reads_content l d (case_error d f) o.reached ∙ ap (case_error d f) (content-error (raw_of t i) (more_of t i) o.kind-is)

pub reads_box : (l : Layout) {t : State} {w i : ℕ} {A : Type 0} (d : A) (f : ℕ → A) → Target t w i 5 → read_or d (case_box d f) (look (view_of (model_of l t)) w) ≡ f (raw_of t i).value
reads_box l {t} {i = i} d f o = reads_content l d (case_box d f) o.reached ∙ ap (case_box d f) (content-box (raw_of t i) (more_of t i) o.kind-is)

pub reads_array : (l : Layout) {t : State} {w i : ℕ} {A : Type 0} (d : A) (f : Array → A) → Target t w i 6 → read_or d (case_array d f) (look (view_of (model_of l t)) w) ≡ f record { type = (raw_of t i).mode; items = take (raw_of t i).len (raw_of t i).cells }
reads_array l {t} {i = i} d f o = reads_content l d (case_array d f) o.reached ∙ ap (case_array d f) (content-array (raw_of t i) (more_of t i) o.kind-is)

pub reads_map : (l : Layout) {t : State} {w i : ℕ} {A : Type 0} (d : A) (f : Map → A) → Target t w i 7 → read_or d (case_map d f) (look (view_of (model_of l t)) w) ≡ f record { key_type = (more_of t i).a; value_type = (more_of t i).b; store = store_of (map_of (raw_of t i) (more_of t i)) (raw_of t i).cells }
reads_map l {t} {i = i} d f o = reads_content l d (case_map d f) o.reached ∙ ap (case_map d f) (content-map (raw_of t i) (more_of t i) o.kind-is)

pub reads_struct : (l : Layout) {t : State} {w i : ℕ} {A : Type 0} (d : A) (f : Struct → A) → Target t w i 8 → read_or d (case_struct d f) (look (view_of (model_of l t)) w) ≡ f record { number = (raw_of t i).value; fields = take (raw_of t i).len (raw_of t i).cells }
reads_struct l {t} {i = i} d f o = reads_content l d (case_struct d f) o.reached ∙ ap (case_struct d f) (content-struct (raw_of t i) (more_of t i) o.kind-is)

pub reads_function : (l : Layout) {t : State} {w i : ℕ} {A : Type 0} (d : A) (f : Closure → A) → Target t w i 9 → read_or d (case_closure d f) (look (view_of (model_of l t)) w) ≡ f record { is_import_of = yes (raw_of t i).mode; number = (raw_of t i).value; captures = take (raw_of t i).len (raw_of t i).cells }
reads_function l {t} {i = i} d f o = reads_content l d (case_closure d f) o.reached ∙ ap (case_closure d f) (content-function (raw_of t i) (more_of t i) o.kind-is)

pub reads_iterator : (l : Layout) {t : State} {w i : ℕ} {A : Type 0} (d : A) (f : Iterator → A) → Target t w i 10 → read_or d (case_iterator d f) (look (view_of (model_of l t)) w) ≡ f record { source = (raw_of t i).value; key_type = (raw_of t i).mode; ended = yes (more_of t i).a; key = perhaps (more_of t i).b (more_of t i).c; cursor = cursor_of (more_of t i) }
reads_iterator l {t} {i = i} d f o = reads_content l d (case_iterator d f) o.reached ∙ ap (case_iterator d f) (content-iterator (raw_of t i) (more_of t i) o.kind-is)

pub reads_coroutine : (l : Layout) {t : State} {w i : ℕ} {A : Type 0} (d : A) (f : Coroutine → A) → Target t w i 11 → read_or d (case_coroutine d f) (look (view_of (model_of l t)) w) ≡ f record {
  state = (raw_of t i).mode;
  finalized = yes (more_of t i).a;
  sequence = (raw_of t i).value;
  payload = (more_of t i).b;
  key = (more_of t i).c;
  result = (more_of t i).d;
  signal = (more_of t i).e;
  registers = take (raw_of t i).len (raw_of t i).cells;
  frames = frames_in (drop (raw_of t i).len (raw_of t i).cells) 0 (more_of t i).f;
}
reads_coroutine l {t} {i = i} d f o = reads_content l d (case_coroutine d f) o.reached ∙ ap (case_coroutine d f) (content-coroutine (raw_of t i) (more_of t i) o.kind-is)

pub reads_items : (l : Layout) {t : State} {w i : ℕ} → Target t w i 6 → items (model_of l t) w ≡ take (raw_of t i).len (raw_of t i).cells
unfolding items
reads_items l o = reads_array l [] (λ a. a.items) o

pub reads_fields : (l : Layout) {t : State} {w i : ℕ} → Target t w i 8 → fields (model_of l t) w ≡ take (raw_of t i).len (raw_of t i).cells
unfolding fields
reads_fields l o = reads_struct l [] (λ s. s.fields) o

pub reads_captures : (l : Layout) {t : State} {w i : ℕ} → Target t w i 9 → captures (model_of l t) w ≡ take (raw_of t i).len (raw_of t i).cells
unfolding captures
reads_captures l o = reads_function l [] (λ f. f.captures) o

pub reads_registers : (l : Layout) {t : State} {w i : ℕ} → Target t w i 11 → registers (model_of l t) w ≡ take (raw_of t i).len (raw_of t i).cells
unfolding registers
reads_registers l o = reads_coroutine l [] (λ k. k.registers) o

pub reads_frames : (l : Layout) {t : State} {w i : ℕ} → Target t w i 11 → frames (model_of l t) w ≡ frames_in (drop (raw_of t i).len (raw_of t i).cells) 0 (more_of t i).f
unfolding frames
reads_frames l o = reads_coroutine l [] (λ k. k.frames) o

pub reads_bytes : (l : Layout) {t : State} {w i : ℕ} → Target t w i 1 → bytes (model_of l t) w ≡ string_bytes (raw_of t i).cells (raw_of t i).len
unfolding bytes
reads_bytes l o = reads_string l [] (λ s. s) o

pub reads_map_store : (l : Layout) {t : State} {w i : ℕ} → Target t w i 7 → map_store (model_of l t) w ≡ store_of (map_of (raw_of t i) (more_of t i)) (raw_of t i).cells
unfolding map_store
reads_map_store l o = reads_map l empty_store (λ m. m.store) o

pub reads_key_traced : (l : Layout) {t : State} {w i : ℕ} → Target t w i 7 → key_traced (model_of l t) w ≡ is_traced (more_of t i).a
unfolding key_traced
reads_key_traced l o = reads_map l false (λ m. is_traced m.key_type) o
