-- Strings, arrays, structs and functions: objects with cells. Assumes nothing.
use Rattle.std.proofs.Common.{Result, Err}
use Prim.Native.Nat.{ℕ, ◌+◌, ◌*◌, ◌/◌, ◌%◌, ◌≤◌, ◌<◌}
use mathlib.Core.Path.{◌≡◌, refl, ap, subst, sym, ◌∙◌}
use mathlib.Core.Logic.{◌≢◌, inl}
use mathlib.Core.Bool.{Bool, true, false}
use mathlib.Core.List.{List, [], ◌∷◌}
use native.Mathlib.Omega.{arith}
use lib.ListN.{length, replicate, length-replicate}
use lib.Seq.{take_all, take-length}
use lib.Dec.{T}
use lib.Signed.{lt_z, non_neg}
use mir.Syntax.{w64}
use mir.Val.{Fits, SFits, bool_byte}
use borrow.Author.Tests.{ltb-true}
use lib.IntN.{ℤ, pos, negsuc, nat_abs}
use Rattle.heap_slots.specs.Limits.{HALF}
use Rattle.account.specs.Account.{saturated}
use Rattle.heap_slots.specs.declared.Header.{Header}
use Rattle.heap_slots.specs.declared.Scalars.{Scalars}
use Rattle.heap_cells.specs.Moves.{Copied, Filled, Written, string_cells}
use Rattle.map_store.specs.Store.{Room}
use Rattle.model.specs.Calls as Calls
use Rattle.model.specs.Calls.{Call, effect, no_room}
use Rattle.model.specs.Content.{Content, bytes_of, cells_of, string}
use Rattle.model.specs.Rules.{magnitude}
use Rattle.model.specs.Refusals.{first, negative, type_4}
use Rattle.model.specs.Terms.{terms}
use Rattle.heap.specs.declared.Refusal.{Refusal}
use Rattle.heap.specs.declared.Refusal.TheVariants as No
use Rattle.heap.specs.Answers.{accepted, made_is, number_of}
use Rattle.heap.specs.Kinds.{content_of, room_of, yes}
use Rattle.heap.specs.State.{State, more_of, with_cells}
use Rattle.heap.specs.Good.{Good}
use Rattle.heap.specs.Promise.{Performs}
use Rattle.heap.specs.Placing.{new_raw, next_region, next_slot}
use Rattle.heap.proofs.GoodLaws.{good_as, good-words}
use Rattle.heap.proofs.KindLaws.{content-array, content-function, content-string, content-struct, room-array, room-none}
use Rattle.heap.proofs.DoesLaws.{first_none, first_passes, first_refuses}
use Rattle.heap_allocation.specs.Making.{Finishes, MadeWords, Prepared, Scalarless, headerOf, made_in, refused_as}
use Rattle.heap_allocation.proofs.MakeLaws.{Above, Makes, Means, above_4, makes, new-refused, ready-cells, refused-own, region-made, region-refused, weight_of, within_4}

-- ---- what is written above the top

pub above_copied : {ws c c' : List ℕ} {top : ℕ} → Copied ws c c' top → Above c c' top
above_copied w = record { len = w.len; below = λ q l. w.outside q (inl l) }

pub above_filled : {c c' : List ℕ} {top n : ℕ} → Filled c c' top n → Above c c' top
above_filled w = record { len = w.len; below = λ q l. w.outside q (inl l) }

pub above_written : {bs c c' : List ℕ} {top : ℕ} → Written bs c c' top → Above c c' top
above_written w = record { len = w.len; below = λ q l. w.outside q (inl l) }

-- ---- objects of words

module _ {t m : State} {bytes n : ℕ} {d : Result Unit Refusal} (p : Prepared t bytes n d m) where
  pub words-refused : {q : Refusal} (kind value mode : ℕ) (ws : List ℕ) {b : ℕ} → d ≡ Err q → bytes ≡ b → MadeWords t (headerOf kind value mode n n) b ws (Err q) m × Good m
  words-refused {q} kind value mode ws f e = (rw (← e) (refused_as q (sym p.judged ∙ f) refl (p.refused q f)), p.good)

  -- the words ws written above the top
  pub words-made : {h : Header} {b : ℕ} {ws c' : List ℕ} {r : Result ℕ Refusal} {a : State} (kind value mode : ℕ) → d ≡ accepted → Above m.cells c' m.heap.top → next_region (with_cells m c') n ≡ ws →
      h ≡ headerOf kind value mode n n → bytes ≡ b → Finishes (with_cells m c') h bytes r a → MadeWords t (headerOf kind value mode n n) b ws r a × Good a
  words-made {c' = c'} kind value mode f o w h-is e done =
      (rw (← e) (made_in (with_cells m c') (ready-cells (p.accepted f) o) w (done.answer ∙ rw h-is) (done.after ∙ rw h-is)), done.good)

-- one of the three rows, whatever its words are
pub words-object : (kind value mode n : ℕ) (ws : List ℕ) → 6 ≤ kind → kind ≤ 9 → kind ≢ 7 → Scalarless (headerOf kind value mode n n) ws
words-object kind value mode n ws lo hi no-map x = record {
  some_kind = λ z. absurd (omega (arith, z));
  fit = good-words (omega (arith, lo)) (omega (arith, hi)) no-map (omega arith) (omega arith) refl;
}

words_mean : (kind value mode n : ℕ) (ws : List ℕ) {c : Content} {s : Room} (x : Scalars) → 6 ≤ kind → kind ≤ 9 → (kind ≡ 7 → ⊥) → content_of (new_raw HALF (headerOf kind value mode n n) ws) x ≡ c →
    room_of (new_raw HALF (headerOf kind value mode n n) ws) ≡ s → Means (headerOf kind value mode n n) ws x c s
words_mean kind value mode n ws x lo hi no-map content room = record {
  object = words-object kind value mode n ws lo hi no-map x;
  content = content;
  room = room;
}

module _ {t a : State} {r : Result ℕ Refusal} {ws : List ℕ} {bytes : ℕ} (g : Good t) {k : Call} {c : Content} {s : Room} (w : Makes t k c s) (kind value mode n : ℕ) (lo : 6 ≤ kind) (hi : kind ≤ 9) (no-map : kind ≡ 7 → ⊥)
    (bytes_are : bytes ≡ saturated (weight_of t c s)) (cells_are : cells_of c s ≡ n) (content : (x : Scalars) → content_of (new_raw HALF (headerOf kind value mode n n) ws) x ≡ c)
    (room : room_of (new_raw HALF (headerOf kind value mode n n) ws) ≡ s) where
  pub words_performs : MadeWords t (headerOf kind value mode n n) bytes ws r a → Performs k t (made_is r) a
  words_performs (refused_as q e f z) = rw (f, z) (new-refused g w bytes_are cells_are e)
  words_performs (made_in m y e f z) =
      let x = more_of m (next_slot m) in
      region-made g w bytes_are (headerOf kind value mode n n) y (rw e (words_mean kind value mode n ws x lo hi no-map (content x) room)) (z, f)

module _ {t a : State} {r : Result ℕ Refusal} {ws : List ℕ} (g : Good t) where
  pub struct_made : {number : ℕ} → MadeWords t (headerOf 8 number 0 (length ws) (length ws)) (saturated (t.heap.weights.slot + 8 * length ws)) ws r a → Performs (Calls.new_struct number ws) t (made_is r) a
  unfolding effect terms bytes_of cells_of
  struct_made {number} d =
      let raw = new_raw HALF (headerOf 8 number 0 (length ws) (length ws)) ws in
      words_performs g (makes (λ l. []) (λ l. refl) (λ l. refl) (λ l. first_none)) 8 number 0 (length ws) (omega arith) (omega arith) (λ z. absurd (omega (arith, z))) refl refl
      (λ x. content-struct raw x refl ∙ rw (take-length ws)) (room-none raw (λ z. absurd (omega (arith, z))) (λ z. absurd (omega (arith, z)))) d

  pub function-made : {number mode : ℕ} {import : Bool} → yes mode ≡ import → MadeWords t (headerOf 9 number mode (length ws) (length ws)) (saturated (t.heap.weights.slot + 8 * length ws)) ws r a →
      Performs (Calls.new_function import number ws) t (made_is r) a
  unfolding effect terms bytes_of cells_of
  function-made {number} {mode} e d =
      let raw = new_raw HALF (headerOf 9 number mode (length ws) (length ws)) ws in
      words_performs g (makes (λ l. []) (λ l. refl) (λ l. refl) (λ l. first_none)) 9 number mode (length ws) (omega arith) (omega arith) (λ z. absurd (omega (arith, z))) refl refl
      (λ x. content-function raw x refl ∙ rw (take-length ws, e)) (room-none raw (λ z. absurd (omega (arith, z))) (λ z. absurd (omega (arith, z)))) d

-- a flag read back
pub flag_read : (b : Bool) → yes (bool_byte b) ≡ b
flag_read true = refl
flag_read false = refl

-- ---- arrays

-- a length that is not negative
pub length-fits : (z : ℤ) → SFits w64 z → lt_z z (pos 0) ≡ false → T (non_neg z) × Fits w64 (nat_abs z)
length-fits (pos n) f e = (tt, record { fits = omega (arith, f.sfits) })
length-fits (negsuc n) f e = absurd (subst T e tt)

array_tests : (z : ℤ) (t : ℕ) → t ≤ 2 → lt_z z (pos 0) ≡ false → (first (type_4 t ∷ negative z ∷ []) ≡ 0) × (magnitude z ≡ nat_abs z)
unfolding negative magnitude
array_tests (pos n) t le e = (first_passes (0 ∷ []) (within_4 t 2 le) ∙ first_passes [] refl ∙ first_none, refl)
array_tests (negsuc n) t le e = absurd (subst T e tt)

pub array_made : {t a : State} {r : Result ℕ Refusal} (g : Good t) (z : ℤ) {ty : ℕ} → ty ≤ 2 → lt_z z (pos 0) ≡ false →
    MadeWords t (headerOf 6 0 ty (nat_abs z) (nat_abs z)) (saturated (t.heap.weights.slot + 8 * nat_abs z)) (replicate (nat_abs z) 0) r a → Performs (Calls.new_array ty z) t (made_is r) a
unfolding effect terms bytes_of cells_of
array_made {t} g z {ty} le e d =
    let n = nat_abs z in
    let v = array_tests z ty le e in
    let raw = new_raw HALF (headerOf 6 0 ty n n) (replicate n 0) in
    words_performs g (makes (λ l. type_4 ty ∷ negative z ∷ []) (λ l. refl) (λ l. refl) (λ l. v.0)) 6 0 ty n (omega arith) (omega arith) (λ q. absurd (omega (arith, q))) (rw v.1) v.1
    (λ x. content-array raw x refl ∙ rw (v.1, take_all {A = ℕ} n (replicate n 0) (omega (arith, length-replicate {A = ℕ} n 0)))) (room-array raw refl ∙ rw v.1) d

pub array-type-refused : {t : State} → Good t → (ty : ℕ) (z : ℤ) → 2 < ty → Performs (Calls.new_array ty z) t (made_is (Err No.BadType)) t
unfolding effect terms
array-type-refused g ty z lt = refused-own No.BadType (λ l. type_4 ty ∷ negative z ∷ []) g (λ l. refl) (λ l. refl) (λ l. first_refuses (negative z ∷ []) No.BadType (above_4 ty 2 lt))

negative_3 : (z : ℤ) → lt_z z (pos 0) ≡ true → negative z ≡ number_of No.Outside
unfolding negative number_of
negative_3 (pos n) e = absurd (let h : n < 0 = ltb-true n 0 e in omega arith)
negative_3 (negsuc n) e = refl

pub array-length-refused : {t : State} → Good t → (ty : ℕ) (z : ℤ) → ty ≤ 2 → lt_z z (pos 0) ≡ true → Performs (Calls.new_array ty z) t (made_is (Err No.Outside)) t
unfolding effect terms
array-length-refused g ty z le e =
    refused-own No.Outside (λ l. type_4 ty ∷ negative z ∷ []) g (λ l. refl) (λ l. refl)
    (λ l. first_passes (negative z ∷ []) (within_4 ty 2 le) ∙ first_refuses [] No.Outside (negative_3 z e))

-- ---- strings

pub string-size : (n : ℕ) → n / 8 + (n % 8 + 7) / 8 ≡ string_cells n
string-size n = omega arith

pub string-object : {n size : ℕ} (region : List ℕ) → size ≡ string_cells n → Scalarless (headerOf 1 0 0 n size) region
string-object {n} {size} region size_is x = record {
  some_kind = λ z. absurd (omega (arith, z));
  fit = good_as 1 refl (omega arith) (omega arith) (omega arith) size_is;
}

module _ {t m : State} {bs : List ℕ} {bytes size : ℕ} {d : Result Unit Refusal} (g : Good t) (bytes_are : bytes ≡ saturated (t.heap.weights.slot + length bs)) (size_is : size ≡ string_cells (length bs)) (p : Prepared t bytes size d m) where
  string-makes : Makes t (Calls.new_string bs) (string bs) no_room
  unfolding effect terms
  string-makes = makes (λ l. []) (λ l. refl) (λ l. refl) (λ l. first_none)

  pub string-refused : {q : Refusal} → d ≡ Err q → Performs (Calls.new_string bs) t (made_is (Err q)) m
  unfolding bytes_of cells_of
  string-refused f = region-refused g string-makes bytes_are (sym size_is) p f

  pub string-made : {a : State} {h : Header} {r : Result ℕ Refusal} {c' : List ℕ} → d ≡ accepted → Written bs m.cells c' m.heap.top → h ≡ headerOf 1 0 0 (length bs) size →
      Finishes (with_cells m c') h bytes r a → Performs (Calls.new_string bs) t (made_is r) a
  unfolding bytes_of cells_of
  string-made {c' = c'} f w h-is done =
      let h = headerOf 1 0 0 (length bs) size in
      let region = next_region (with_cells m c') size in
      let x = more_of m (next_slot m) in
      let content : content_of (new_raw HALF h region) x ≡ string bs = content-string (new_raw HALF h region) x refl ∙ rw size_is (ap string w.inside) in
      region-made g string-makes bytes_are h (ready-cells (p.accepted f) (above_written w))
      record {
        object = string-object region size_is x;
        content = content;
        room = room-none (new_raw HALF h region) (λ z. absurd (omega (arith, z))) (λ z. absurd (omega (arith, z)));
      }
      (done.after ∙ rw h-is, done.answer ∙ rw h-is)
