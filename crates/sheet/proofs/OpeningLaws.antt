-- The heap that document 01's program opens. Assumes nothing.
use Prim.Native.Nat.{ℕ, ◌*◌, ◌≤◌, ◌<◌, min}
use mathlib.Core.Path.{◌≡◌, refl, sym, ap, ap₂, subst, ◌∙◌}
use mathlib.Core.Bool.{Bool, true, false}
use mathlib.Core.List.{List, [], ◌∷◌}
use mathlib.Core.Option.{some}
use native.Mathlib.Omega.{arith}
use lib.Dec.{leb}
use lib.ListN.{length, take, length-take}
use lib.Seq.{length-take-le, take_all, take-take}
use Rattle.std.proofs.Common as Std
use Rattle.std.proofs.Common.{Result, Ok, Err, Some, None}
use Rattle.history.proofs.Facts.{leb_no, leb_yes}
use Rattle.heap_slots.proofs.Cases.{by_cases, lt_or_le}
use Rattle.layout.specs.Layout as Layout-
use Rattle.layout.specs.Sections.{Tabled, layout_of}
use Rattle.model.specs.Opening.{Opening, open_heap, open_with, sizes_fit}
use Rattle.model.specs.Terms.{is_some}
use Rattle.model.specs.Callsheet.{sheet_heap, sheet_opening, sheet_text}
use Rattle.heap.specs.Good.{Good}
use Rattle.heap.specs.State.{model_of}
use Rattle.heap.specs.Opens.{accepts, beside, new_heap, opened_by, opening_of, room_for}
use Rattle.heap.specs.declared.Heap.{Heap}
use Rattle.heap.specs.declared.Refusal.{Refusal}
use Rattle.sheet.specs.Turns.{text_from}
use Rattle.sheet.specs.Promise.{Answers, OpensHeap, Printout, Prints, printout_is, printout_of, sheet_room}
use Rattle.sheet.specs.Whole.{Whole, held_in}
use Rattle.sheet.specs.declared.state.Buffers.{Buffers}

sheet-opens : open_heap sheet_opening ≡ some sheet_heap
unfolding open_heap open_with sizes_fit sheet_heap Layout-.at_last Layout-.with_struct Layout-.with_field Layout-.with_function Layout-.with_register Layout-.with_capture Layout-.when Layout-.command Layout-.byte Layout-.proceed Layout-.reading Layout-.parse
sheet-opens = refl

abbrev sheet_record : Heap
sheet_record = new_heap 256 1048576 sheet_opening.weights

-- as long as 256 slots need
pub record Long (b : Buffers) : Type 0 where
  pub slots : length b.slots ≡ 2048
  pub scalars : length b.scalars ≡ 2048
  pub list : length b.list ≡ 256
  pub directory : length b.directory ≡ 512
  pub cells : length b.cells ≡ 2048
  pub marks : length b.marks ≡ 256
  pub order : length b.order ≡ 512

module _ {b a : Buffers} {t t' : List ℕ} {r : Result Heap Refusal} (x : Long b) (n : length t ≡ 514) (p : OpensHeap (0 ∷ []) b t r a t') where
  abbrev opening : Opening
  opening = opening_of 256 (length b.cells) 1048576 sheet_opening.weights (0 ∷ [])

  accepted : accepts opening (held_in sheet_record b) (beside t b.marks b.order) ≡ true
  unfolding accepts room_for is_some
  accepted = rw (x.slots, x.scalars, x.list, x.directory, x.cells, x.marks, x.order, n, sheet-opens)

  ready : r ≡ Ok sheet_record
  unfolding opened_by
  ready = p.opens.answer ∙ rw accepted

  pub never_refused : ((h : Heap) → r ≡ Ok h → ⊥) → ⊥
  never_refused e = e sheet_record ready

  opened-model : model_of (layout_of (0 ∷ [])) (held_in sheet_record b) ≡ sheet_heap
  opened-model =
      let m : open_heap opening ≡ some (model_of (layout_of (0 ∷ [])) (held_in sheet_record b)) = (p.opens.accepted accepted).model in
      let n : open_heap sheet_opening ≡ some (model_of (layout_of (0 ∷ [])) (held_in sheet_record b)) = rw x.cells at m in
      let s = sheet-opens in
      cc

  module _ (h : Heap) (e : r ≡ Ok h) where
    opened-heap : h ≡ sheet_record
    opened-heap = let f = ready in cc

    pub opened-tabled : Tabled (0 ∷ []) t'
    opened-tabled = (p.opens.accepted accepted).tabled

    pub opened-whole : Whole h a 0
    opened-whole =
        let q = p.opens.accepted accepted in
        rw opened-heap record { good = subst Good (sym (p.kept sheet_record)) q.good; rested = q.rested; few = omega arith }

    pub opened_prints : (input : List ℕ) {out out' : List ℕ} {end : ℕ} → length input ≤ 65536 → Prints (text_from (record { heap = model_of (layout_of (0 ∷ [])) (held_in h a); roots = [] }) input) out out' end → Prints (sheet_text input) out out' end
    unfolding sheet_text text_from
    opened_prints input {out} {out'} {end} l q =
        let m : model_of (layout_of (0 ∷ [])) (held_in h a) ≡ sheet_heap = ap (λ (k : Heap). model_of (layout_of (0 ∷ [])) (held_in k a)) opened-heap ∙ ap (model_of (layout_of (0 ∷ []))) (p.kept sheet_record) ∙ opened-model in
        let w : take 65536 input ≡ input = take_all 65536 input l in
        rw (w, ← m) q

-- ---- the first 65,536 bytes

module _ (input : List ℕ) (n : ℕ) (e : n ≡ min (length input) 65536) where
  first-bytes : take n input ≡ take 65536 input
  first-bytes =
      by_cases (lt_or_le 65536 (length input))
      (λ l. let a : n ≡ 65536 = omega arith in rw a)
      (λ l. take_all n input (omega arith) ∙ sym (take_all 65536 input l))

  pub first-within : n ≤ length input
  first-within = omega arith

  pub first-few : length (take n input) ≤ 65536
  first-few = omega (arith, length-take-le n input first-within)

  pub first-room : (room : ℕ) → n * 62 ≤ room → length (take n input) * 62 ≤ room
  first-room room h = omega (arith, length-take-le n input first-within)

  first-text : sheet_text (take n input) ≡ sheet_text input
  unfolding sheet_text
  first-text = rw (first-bytes, take-take 65536 65536 input (omega arith))

  pub short-answers : {out : List ℕ} → length out < n * 62 → Answers input out None out
  unfolding printout_is printout_of
  short-answers {out} h =
      let z : leb (sheet_room input) (length out) ≡ false = leb_no (sheet_room input) (length out) (omega arith) in
      record { printout = rw z; rest = refl }

  pub text-answers : {out out' : List ℕ} (end : ℕ) → n * 62 ≤ length out → Prints (sheet_text (take n input)) out out' end → Answers input out (Some end) out'
  unfolding printout_is printout_of
  text-answers {out} {out'} end h p =
      let z : leb (sheet_room input) (length out) ≡ true = leb_yes (sheet_room input) (length out) (omega arith) in
      let t : take end out' ≡ sheet_text input = p.text ∙ first-text in
      let e : end ≡ length (sheet_text input) = p.ends ∙ ap length t in
      record { printout = rw z (ap₂ (λ (x : ℕ) (y : List ℕ). record { refusal = 0; size = x; text = y }) e t); rest = p.rest }

-- the text lies in the buffer
pub text-within : {input out out' : List ℕ} {r : Std.Option ℕ} (n : ℕ) → Answers input out r out' → r ≡ Some n → n ≤ length out'
unfolding printout_is printout_of
text-within {input} {out} {out'} n a e = go (leb (sheet_room input) (length out)) refl
  where
    same : printout_is (Some n) out' ≡ printout_of input (length out)
    same = ap (λ (x : Std.Option ℕ). printout_is x out') (sym e) ∙ a.printout

    go : (t : Bool) → leb (sheet_room input) (length out) ≡ t → n ≤ length out'
    go true z =
        let p : printout_of input (length out) ≡ record { refusal = 0; size = length (sheet_text input); text = sheet_text input } = rw z in
        let q = same ∙ p in
        omega (arith, ap (λ (x : Printout). x.size) q, ap (λ (x : Printout). length x.text) q, length-take n out')
    go false z =
        let p : printout_of input (length out) ≡ record { refusal = 8; size = 0; text = [] } = rw z in
        omega (arith, ap (λ (x : Printout). x.size) (same ∙ p))
