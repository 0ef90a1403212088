-- A string read into a lent buffer. Assumes nothing.
use Rattle.std.proofs.Common.{Result, Ok, Err}
use Rattle.std.specs.Result.{IsErrAnd}
use Rattle.std.proofs.lemmas.Result.{err_from_is_err_and}
use Prim.Native.Nat.{ℕ, ◌+◌, ◌≤◌, ◌<◌}
use mathlib.Core.Path.{◌≡◌, refl, ap, sym, ◌∙◌}
use mathlib.Core.List.{List, [], ◌∷◌, ◌++◌}
use native.Mathlib.Omega.{arith}
use lib.Dec.{leb}
use lib.ListN.{drop, length, take}
use Rattle.heap_slots.specs.Limits.{CELLS_MAX}
use Rattle.heap_slots.specs.Header.{header_at}
use Rattle.heap_slots.specs.declared.Header.{Header}
use Rattle.heap_cells.specs.Moves.{string_bytes, string_cells}
use Rattle.heap_cells.specs.Regions.{raw_at}
use Rattle.history.proofs.Facts.{leb_no, leb_yes}
use Rattle.layout.specs.Layout.{Layout}
use Rattle.model.specs.Calls.{effect}
use Rattle.model.specs.Calls as Calls
use Rattle.model.specs.Replies.{list, number, written}
use Rattle.model.specs.Refusals.{unless}
use Rattle.model.specs.Terms.{bytes, terms}
use Rattle.heap.specs.Answers.{number_of}
use Rattle.heap.specs.State.{State, model_of}
use Rattle.heap.specs.Good.{Good}
use Rattle.heap.specs.Promise.{Reads}
use Rattle.heap.specs.declared.Refusal.{Refusal}
use Rattle.heap.specs.declared.Refusal.TheVariants as No
use Rattle.heap.proofs.GoodLaws.{holds_as}
use Rattle.heap.proofs.KindLaws.{says_string}
use Rattle.heap.proofs.LocateLaws.{locates_so}
use Rattle.heap.proofs.ReachLaws.{Target, located_at, target_met}
use Rattle.heap.proofs.DoesLaws.{does-answered, does-own, first_none, first_passes, first_refuses}
use Rattle.heap.proofs.ReadLaws.{object-refused, reads_bytes}
use Rattle.heap_access.specs.Answers.{lent_reading}
use Rattle.heap_access.specs.Objects.{ReadsHeader}
use Rattle.heap_access.proofs.ObjectLaws.{header_found, header_lost}
use Rattle.heap_access.proofs.ReadCalls.{byte-count}

module _ {t : State} {w i : ℕ} {h : Header} (g : Good t) (o : Target t w i 1) (p : h ≡ header_at t.slots i) where
  string-size : (header_at t.slots i).size ≡ string_cells (header_at t.slots i).len
  unfolding raw_at
  string-size = holds_as 1 o.kind-is (g.each i o.reached.within)

  cells-inside : (h.start + string_cells h.len ≤ length t.cells) × (length t.cells ≤ CELLS_MAX)
  cells-inside = rw (p, ← string-size) (g.laid.inside i o.reached.within, g.laid.cells_max)

  length-is : (l : Layout) → length (bytes (model_of l t) w) ≡ h.len
  length-is l = byte-count l o ∙ ap (λ (x : Header). x.len) (sym p)

  bytes_are : (l : Layout) → bytes (model_of l t) w ≡ string_bytes (take (string_cells h.len) (drop h.start t.cells)) h.len
  unfolding raw_at
  bytes_are l = reads_bytes l o ∙ rw (p, ← string-size)

module _ {t : State} {w : ℕ} {x : Result Header Refusal} (g : Good t) (d : ReadsHeader t.slots t.heap.fresh w 1 x) where
  string_refused : (bs : List ℕ) {q : Refusal} → x ≡ Err q → Reads (Calls.read_string w bs) t (lent_reading (Err q) bs)
  unfolding terms lent_reading
  string_refused bs e l = object-refused l g (Calls.read_string w bs) (locates_so refl) (header_lost d e) says_string refl refl

  pub string_lost : (bs : List ℕ) {q : Refusal} (r : Result ℕ Refusal) → x ≡ Err q → IsErrAnd r (λ e. e ≡ q) → Reads (Calls.read_string w bs) t (lent_reading r bs)
  string_lost bs r e h = let p = err_from_is_err_and r h in rw (p.1, p.2) (string_refused bs e)

  module _ {h : Header} (e : x ≡ Ok h) where
    pub string_inside : (h.start + string_cells h.len ≤ length t.cells) × (length t.cells ≤ CELLS_MAX)
    string_inside = let f = header_found d e in cells-inside g (located_at g (locates_so refl) f.1) f.2

    -- 8: the buffer is shorter than the string
    pub string_short : (bs : List ℕ) → length bs < h.len → Reads (Calls.read_string w bs) t (lent_reading (Err No.TooShort) bs)
    unfolding terms lent_reading unless number_of
    string_short bs z l =
        let f = header_found d e in
        let o = located_at g (locates_so refl) f.1 in
        does-own l g (Calls.read_string w bs) No.TooShort refl
        (first_passes (unless (leb (length (bytes (model_of l t) w)) (length bs)) 8 ∷ []) (target_met l g o says_string)
        ∙ first_refuses [] No.TooShort (rw (leb_no (length (bytes (model_of l t) w)) (length bs) (omega (arith, length-is g o f.2 l)))))

    -- the string's bytes in the buffer's first places; the others stay
    pub string_read : (bs : List ℕ) {after : List ℕ} → h.len ≤ length bs → after ≡ string_bytes (take (string_cells h.len) (drop h.start t.cells)) h.len ++ drop h.len bs →
        Reads (Calls.read_string w bs) t (lent_reading (Ok h.len) after)
    unfolding terms effect lent_reading unless written
    string_read bs z q l =
        let f = header_found d e in
        let o = located_at g (locates_so refl) f.1 in
        does-answered l g (Calls.read_string w bs) (rw (length-is g o f.2 l, bytes_are g o f.2 l) (ap list (sym q))) refl refl
        (first_passes (unless (leb (length (bytes (model_of l t) w)) (length bs)) 8 ∷ []) (target_met l g o says_string)
        ∙ first_passes [] (rw (leb_yes (length (bytes (model_of l t) w)) (length bs) (omega (arith, length-is g o f.2 l)))) ∙ first_none)
        (ap number (length-is g o f.2 l))
