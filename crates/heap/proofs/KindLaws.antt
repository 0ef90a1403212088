-- What a slot holds, by its kind: contents, room and cells. Assumes nothing.
use Prim.Native.Nat.{ℕ, zero, suc, ◌≤◌}
use mathlib.Core.Path.{◌≡◌, refl, ap, sym, ◌∙◌}
use mathlib.Core.Bool.{Bool, true, false, cond, ◌||◌}
use mathlib.Core.List.{List}
use mathlib.Core.Option.{none, some}
use native.Mathlib.Omega.{arith}
use lib.Dec.{eqb}
use lib.IntN.{ℤ}
use lib.ListN.{length, take, drop}
use lib.Seq.{length-take-le}
use Rattle.history.proofs.Facts.{eqb_yes, eqb_no}
use Rattle.heap_slots.proofs.Cases.{by_cases, same_or_not}
use Rattle.words.specs.Word.{signed_bits}
use Rattle.heap_slots.specs.declared.Scalars.{Scalars}
use Rattle.heap_cells.specs.Moves.{string_bytes, bytes_from}
use Rattle.heap_cells.specs.Regions.{RawSlot}
use Rattle.map_store.specs.View.{store_of}
use Rattle.model.specs.Content.{Array, Cell, Closure, Content, Coroutine, Error, Iterator, Map, Struct, array, box, case_coroutine, cell, cells_of, closure, coroutine, error, integer, is_box, iterator, map_object, row, string, struct}
use Rattle.model.specs.Slots.{one}
use Rattle.model.specs.Calls.{no_room}
use Rattle.model.specs.Model.{cells_in, occupied}
use Rattle.model.specs.Terms.{a_box, a_cell, a_coroutine, a_function, a_map, a_string, a_struct, an_array, an_error, an_integer, an_iterator, iterable}
use Rattle.heap.specs.Kinds.{LAST_ROW, content_of, cursor_of, frames_in, map_of, object_of, perhaps, room_of, yes}
use Rattle.heap.specs.Good.{SlotGood}
use Rattle.heap.proofs.GoodLaws.{holds_as}
pub use Rattle.heap_cells.specs.Raw.{of_kind, raw_cells, raw_grown, raw_words}
pub use Rattle.heap.proofs.RowLaws.{by_row, row-none}

-- ---- contents by kind

module _ (r : RawSlot) (x : Scalars) where
  pub content-string : r.kind ≡ 1 → content_of r x ≡ string (string_bytes r.cells r.len)
  unfolding content_of
  content-string e = ap (λ (k : ℕ). content_of (of_kind r k) x) e

  pub content-integer : r.kind ≡ 2 → content_of r x ≡ integer (signed_bits r.value)
  unfolding content_of
  content-integer e = ap (λ (k : ℕ). content_of (of_kind r k) x) e

  pub content-cell : r.kind ≡ 3 → content_of r x ≡ cell record { type = r.mode; word = r.value }
  unfolding content_of
  content-cell e = ap (λ (k : ℕ). content_of (of_kind r k) x) e

  pub content-error : r.kind ≡ 4 → content_of r x ≡ error record { kind = r.mode; word = r.value }
  unfolding content_of
  content-error e = ap (λ (k : ℕ). content_of (of_kind r k) x) e

  pub content-box : r.kind ≡ 5 → content_of r x ≡ box r.value
  unfolding content_of
  content-box e = ap (λ (k : ℕ). content_of (of_kind r k) x) e

  pub content-array : r.kind ≡ 6 → content_of r x ≡ array record { type = r.mode; items = take r.len r.cells }
  unfolding content_of
  content-array e = ap (λ (k : ℕ). content_of (of_kind r k) x) e

  pub content-map : r.kind ≡ 7 → content_of r x ≡ map_object record { key_type = x.a; value_type = x.b; store = store_of (map_of r x) r.cells }
  unfolding content_of
  content-map e = ap (λ (k : ℕ). content_of (of_kind r k) x) e

  pub content-struct : r.kind ≡ 8 → content_of r x ≡ struct record { number = r.value; fields = take r.len r.cells }
  unfolding content_of
  content-struct e = ap (λ (k : ℕ). content_of (of_kind r k) x) e

  pub content-function : r.kind ≡ 9 → content_of r x ≡ closure record { is_import_of = yes r.mode; number = r.value; captures = take r.len r.cells }
  unfolding content_of
  content-function e = ap (λ (k : ℕ). content_of (of_kind r k) x) e

  pub content-iterator : r.kind ≡ 10 → content_of r x ≡ iterator record { source = r.value; key_type = r.mode; ended = yes x.a; key = perhaps x.b x.c; cursor = cursor_of x }
  unfolding content_of
  content-iterator e = ap (λ (k : ℕ). content_of (of_kind r k) x) e

  pub content-coroutine : r.kind ≡ 11 → content_of r x ≡ coroutine record {
    state = r.mode;
    finalized = yes x.a;
    sequence = r.value;
    payload = x.b;
    key = x.c;
    result = x.d;
    signal = x.e;
    registers = take r.len r.cells;
    frames = frames_in (drop r.len r.cells) 0 x.f;
  }
  unfolding content_of
  content-coroutine e = ap (λ (k : ℕ). content_of (of_kind r k) x) e

  -- the contents' row is the kind
  pub row_of_content : 1 ≤ r.kind → r.kind ≤ LAST_ROW → row (content_of r x) ≡ r.kind
  unfolding content_of row
  row_of_content lo hi = by_row (λ (k : ℕ). row (content_of (of_kind r k) x) ≡ k) refl refl refl refl refl refl refl refl refl refl refl r.kind lo hi

-- ---- the kind's test

-- a test of the contents that says whether they are of kind n
pub record Says (is : Content → Bool) (n : ℕ) : Type 0 where
  pub says : (c : Content) → is c ≡ eqb (row c) n

-- contents by kind, one induction for all laws
pub by-content : (P : Content → Type 0) → ((x : List ℕ) → P (string x)) → ((x : ℤ) → P (integer x)) → ((x : Cell) → P (cell x)) → ((x : Error) → P (error x)) → ((x : ℕ) → P (box x)) → ((x : Array) → P (array x)) →
    ((x : Map) → P (map_object x)) → ((x : Struct) → P (struct x)) → ((x : Closure) → P (closure x)) → ((x : Iterator) → P (iterator x)) → ((x : Coroutine) → P (coroutine x)) → (c : Content) → P c
by-content P a b c d e f g h i j k (string x) = a x
by-content P a b c d e f g h i j k (integer x) = b x
by-content P a b c d e f g h i j k (cell x) = c x
by-content P a b c d e f g h i j k (error x) = d x
by-content P a b c d e f g h i j k (box x) = e x
by-content P a b c d e f g h i j k (array x) = f x
by-content P a b c d e f g h i j k (map_object x) = g x
by-content P a b c d e f g h i j k (struct x) = h x
by-content P a b c d e f g h i j k (closure x) = i x
by-content P a b c d e f g h i j k (iterator x) = j x
by-content P a b c d e f g h i j k (coroutine x) = k x

pub says_string : Says a_string 1
unfolding row
says_string = record { says = search (by-content (λ (c : Content). a_string c ≡ eqb (row c) 1)) }

pub says_integer : Says an_integer 2
unfolding row
says_integer = record { says = search (by-content (λ (c : Content). an_integer c ≡ eqb (row c) 2)) }

pub says_cell : Says a_cell 3
unfolding row
says_cell = record { says = search (by-content (λ (c : Content). a_cell c ≡ eqb (row c) 3)) }

pub says_error : Says an_error 4
unfolding row
says_error = record { says = search (by-content (λ (c : Content). an_error c ≡ eqb (row c) 4)) }

pub says_box : Says a_box 5
unfolding row
says_box = record { says = search (by-content (λ (c : Content). a_box c ≡ eqb (row c) 5)) }

pub says_array : Says an_array 6
unfolding row
says_array = record { says = search (by-content (λ (c : Content). an_array c ≡ eqb (row c) 6)) }

pub says_map : Says a_map 7
unfolding row
says_map = record { says = search (by-content (λ (c : Content). a_map c ≡ eqb (row c) 7)) }

pub says_struct : Says a_struct 8
unfolding row
says_struct = record { says = search (by-content (λ (c : Content). a_struct c ≡ eqb (row c) 8)) }

pub says_function : Says a_function 9
unfolding row
says_function = record { says = search (by-content (λ (c : Content). a_function c ≡ eqb (row c) 9)) }

pub says_iterator : Says an_iterator 10
unfolding row
says_iterator = record { says = search (by-content (λ (c : Content). an_iterator c ≡ eqb (row c) 10)) }

pub says_coroutine : Says a_coroutine 11
unfolding row
says_coroutine = record { says = search (by-content (λ (c : Content). a_coroutine c ≡ eqb (row c) 11)) }

-- what is not a coroutine is read as anything but one
pub not_coroutine : {A : Type 0} (d : A) (f : Coroutine → A) (c : Content) → (row c ≡ 11 → ⊥) → case_coroutine d f c ≡ d
unfolding row
not_coroutine d f =
    by-content (λ (c : Content). (row c ≡ 11 → ⊥) → case_coroutine d f c ≡ d) (λ x h. refl) (λ x h. refl) (λ x h. refl) (λ x h. refl) (λ x h. refl) (λ x h. refl) (λ x h. refl) (λ x h. refl) (λ x h. refl) (λ x h. refl)
    (λ x h. absurd (h refl))

-- "the object a call is to iterate": an array or a map
pub says_iterable : (c : Content) → iterable c ≡ (eqb (row c) 6 || eqb (row c) 7)
says_iterable c = rw (says_array.says c, says_map.says c)

module _ (r : RawSlot) (x : Scalars) (lo : 1 ≤ r.kind) (hi : r.kind ≤ LAST_ROW) where
  pub kind_test : {is : Content → Bool} {n : ℕ} → Says is n → is (content_of r x) ≡ eqb r.kind n
  kind_test {n = n} p = p.says (content_of r x) ∙ ap (λ (k : ℕ). eqb k n) (row_of_content r x lo hi)

  pub iterable_test : iterable (content_of r x) ≡ (eqb r.kind 6 || eqb r.kind 7)
  iterable_test = says_iterable (content_of r x) ∙ ap (λ (k : ℕ). eqb k 6 || eqb k 7) (row_of_content r x lo hi)

  pub box_test : is_box (content_of r x) ≡ eqb r.kind 5
  unfolding is_box
  box_test = kind_test says_box

-- ---- room by kind

pub room-array : (r : RawSlot) → r.kind ≡ 6 → room_of r ≡ record { capacity = r.size; index = 0 }
unfolding room_of
room-array r e = ap (λ (k : ℕ). room_of (of_kind r k)) e

pub room-map : (r : RawSlot) → r.kind ≡ 7 → room_of r ≡ record { capacity = r.value; index = r.mode }
unfolding room_of
room-map r e = ap (λ (k : ℕ). room_of (of_kind r k)) e

pub room-none : (r : RawSlot) → (r.kind ≡ 6 → ⊥) → (r.kind ≡ 7 → ⊥) → room_of r ≡ no_room
unfolding room_of
room-none r a b = rw (eqb_no r.kind 6 a, eqb_no r.kind 7 b)

-- ---- the object of a slot

pub object-none : (r : RawSlot) (x : Scalars) → r.kind ≡ 0 → object_of r x ≡ none
unfolding object_of
object-none r x e = rw (eqb_yes r.kind 0 e)

pub object-some : (r : RawSlot) (x : Scalars) → (r.kind ≡ 0 → ⊥) → object_of r x ≡ some record { content = content_of r x; room = room_of r }
unfolding object_of
object-some r x h = rw (eqb_no r.kind 0 h)

pub object-filled : (r : RawSlot) (x : Scalars) → one (occupied (object_of r x)) ≡ cond (eqb r.kind 0) 0 1
unfolding object_of occupied
object-filled r x = go (eqb r.kind 0)
  where
    go : (b : Bool) → one (occupied (cond b none (some record { content = content_of r x; room = room_of r }))) ≡ cond b 0 1
    go true = unfold occupied in refl
    go false = unfold occupied in refl

-- ---- cells (document 01's column "cells")

pub length-bytes_from : (ws : List ℕ) (k n : ℕ) → length (bytes_from ws k n) ≡ n
unfolding bytes_from
length-bytes_from ws k zero = refl
length-bytes_from ws k (suc n) = ap suc (length-bytes_from ws (suc k) n)

pub length-frames_in : (ws : List ℕ) (k n : ℕ) → length (frames_in ws k n) ≡ n
unfolding frames_in
length-frames_in ws k zero = refl
length-frames_in ws k (suc n) = ap suc (length-frames_in ws (suc k) n)

module _ (r : RawSlot) (x : Scalars) (g : SlotGood r x) (full : length r.cells ≡ r.size) where
  -- the words of an array, struct, function or coroutine
  pub words-length : r.len ≤ r.size → length (take r.len r.cells) ≡ r.len
  words-length h = length-take-le r.len r.cells (omega arith)

  cells-by : (k : ℕ) → r.kind ≡ k → 1 ≤ k → k ≤ LAST_ROW → cells_of (content_of r x) (room_of r) ≡ r.size
  unfolding cells_of
  cells-by k e lo hi =
      by_row (λ (k : ℕ). r.kind ≡ k → cells_of (content_of r x) (room_of r) ≡ r.size)
      (λ e. rw (content-string r x e, length-bytes_from r.cells 0 r.len) (sym (holds_as 1 e g)))
      (λ e. rw (content-integer r x e) (sym (holds_as 2 e g)))
      (λ e. rw (content-cell r x e) (sym (holds_as 3 e g)))
      (λ e. rw (content-error r x e) (sym (holds_as 4 e g)))
      (λ e. rw (content-box r x e) (sym (holds_as 5 e g)))
      (λ e. rw (content-array r x e, room-array r e))
      (λ e. rw (content-map r x e, room-map r e) (omega (arith, (holds_as 7 e g).1)))
      (λ e. rw (content-struct r x e) (words-length (omega (arith, holds_as 8 e g)) ∙ holds_as 8 e g))
      (λ e. rw (content-function r x e) (words-length (omega (arith, holds_as 9 e g)) ∙ holds_as 9 e g))
      (λ e. rw (content-iterator r x e) (sym (holds_as 10 e g).0))
      (λ e. rw (content-coroutine r x e, length-frames_in (drop r.len r.cells) 0 x.f) (omega (arith, holds_as 11 e g, words-length (omega (arith, holds_as 11 e g)))))
      k lo hi e

  pub cells_of_content : (r.kind ≡ 0 → ⊥) → cells_of (content_of r x) (room_of r) ≡ r.size
  cells_of_content h = cells-by r.kind refl (omega (arith, h)) g.kind

  pub cells_of_object : cells_in (object_of r x) ≡ r.size
  unfolding cells_in
  cells_of_object =
      by_cases (same_or_not r.kind 0)
      (λ e. rw (object-none r x e) (sym (holds_as 0 e g).1))
      (λ h. rw (object-some r x h) (cells_of_content h))
