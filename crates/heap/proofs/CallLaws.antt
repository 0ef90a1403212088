-- The promises of the heap's own calls, one law for each answer. Assumes nothing.
use Rattle.std.proofs.Common.{Result, Ok, Err}
use Prim.Native.Nat.{ℕ, ◌/◌}
use mathlib.Core.Path.{◌≡◌, refl, ap, sym, ◌∙◌, fun_ext}
use mathlib.Core.Logic.{◌≢◌, inl, inr}
use mathlib.Core.Bool.{Bool, true, false, cond}
use mathlib.Core.List.{[]}
use mathlib.Core.Option.{Option, none, some}
use native.Mathlib.Omega.{arith}
use lib.Dec.{eqb, leb}
use lib.IntN.{ℤ}
use lib.Ieee.{Float}
use Rattle.words.specs.Word.{decode_word, float_base, int_base, is_box_word, is_ref_word, low_raw, ref_base, ref_slot, ref_tag}
use Rattle.words.specs.Word as Words
use Rattle.words.specs.WordLaws.{and_left, and_right, decode_float_range, decode_int_range, decode_low_range, ref_reads}
use Rattle.words.specs.declared.Raw.{Raw}
use Rattle.words.specs.declared.Raw.TheVariants as R
use Rattle.account.specs.declared.Account.{Account}
use Rattle.account.specs.declared.OverBudget.{OverBudget}
use Rattle.std.specs.Prelude.{Result, Ok, Err}
use Rattle.account.specs.Account.{charge_is, charge_of, charged, fits, wants_collection}
use Rattle.account.specs.AccountLaws.{charge-next, charge-over}
use Rattle.heap_slots.specs.Header.{header_at}
use Rattle.heap_slots.specs.Lookup.{Finds, hit_first}
use Rattle.heap_slots.proofs.LookupLaws.{finds_so, found_wrong}
use Rattle.heap_slots.specs.declared.Miss.{Miss}
use Rattle.heap_slots.specs.declared.Miss.TheVariants as F
use Rattle.heap_slots.specs.declared.Header.{Header}
use Rattle.heap_slots.proofs.Cases.{by_cases, lt_or_le}
use Rattle.heap_cells.specs.Regions.{raw_at}
use Rattle.history.proofs.Facts.{leb_yes, ltb_yes}
use Rattle.history.proofs.Judging.{fits_so, no-cells-added, says_none}
use Rattle.history.proofs.Lift.{seen}
use Rattle.layout.specs.Layout.{Layout}
use Rattle.model.specs.Calls as Calls
use Rattle.model.specs.Calls.{Call, effect, same}
use Rattle.model.specs.Content.{Content, array, box, cell, closure, coroutine, error, integer, iterator, map_object, row, string, struct}
use Rattle.model.specs.Reference.{ref_in, ref_of}
use Rattle.model.specs.View.{View, deref_as, look, look_ref, unboxed}
use Rattle.model.specs.View as View
use Rattle.model.specs.Replies.{Reply, nothing, number, truth}
use Rattle.model.specs.Model.{view_of}
use Rattle.model.specs.Refusals.{added, slotless, target, unless, kind_test}
use Rattle.model.specs.Terms.{a_box, charging, kind_of, read_or, row_of, uncharged, terms}
use Rattle.model.specs.Step.{accept, account_after, answer_of, collections_after, finish, judged, paid, step}
use Rattle.model.specs.Slots.{apply}
use Rattle.heap.specs.declared.Heap.{Heap}
use Rattle.heap.specs.declared.Refusal.{Refusal}
use Rattle.heap.specs.declared.Refusal.TheVariants as No
use Rattle.heap.specs.Answers.{answered, refused}
use Rattle.heap.specs.Locating.{Locates, Ranks, RowOrDead, row_by}
use Rattle.heap.specs.State.{State, model_of, more_of, raw_of, slot_of, with_heap, with_regions}
use Rattle.heap.specs.Good.{Good}
use Rattle.heap.specs.Promise.{Performs, Reads}
use Rattle.heap.proofs.KindLaws.{content-box, row_of_content, says_box}
use Rattle.heap.proofs.SlotLaws.{cells-used, counts-present, halves}
use Rattle.heap.proofs.ReachLaws.{found-reached, located_at, located_refused, dead-look, dead_reads, nil_reads, reached-look}
use Rattle.heap.proofs.DoesLaws.{does_5, does-answered, first_none, number_not_0}
use Rattle.heap.proofs.ReadLaws.{reads_content}

-- ---- a reading of the whole heap, or of a word

-- it is never refused
pub reads_so : {t : State} (k : Call) {a : Reply} → Good t → ((l : Layout) → effect (view_of (model_of l t)) k ≡ same) → ((l : Layout) → terms (model_of l t) k ≡ uncharged [] a) → Reads k t (answered a)
unfolding uncharged
reads_so k g e h l = does-answered l g k (rw (h l)) (e l) (rw (h l)) (rw (h l) first_none) (rw (h l))

pub collections_read : {t : State} → Good t → Reads Calls.collection_count t (answered (number t.heap.collections))
unfolding terms effect model_of
collections_read g = reads_so Calls.collection_count g (λ l. refl) (λ l. refl)

pub freed_read : {t : State} → Good t → Reads Calls.freed_count t (answered (number t.heap.freed))
unfolding terms effect model_of
freed_read g = reads_so Calls.freed_count g (λ l. refl) (λ l. refl)

pub used_read : {t : State} → Good t → Reads Calls.used_bytes t (answered (number t.heap.account.used))
unfolding terms effect model_of
used_read g = reads_so Calls.used_bytes g (λ l. refl) (λ l. refl)

pub present_read : {t : State} → Good t → Reads Calls.present_count t (answered (number t.heap.present))
unfolding terms effect
present_read {t} g = reads_so Calls.present_count g (λ l. refl) (λ l. ap (λ (n : ℕ). uncharged [] (number n)) (counts-present l t g))

pub cells_read : {t : State} → Good t → Reads Calls.cells_in_use t (answered (number t.heap.taken))
unfolding terms effect
cells_read {t} g = reads_so Calls.cells_in_use g (λ l. refl) (λ l. ap (λ (n : ℕ). uncharged [] (number n)) (cells-used l t g))

pub fits_read : {t : State} {bytes : ℕ} {r : Bool} → Good t → r ≡ fits t.heap.account bytes → Reads (Calls.fits_bytes bytes) t (answered (truth r))
unfolding terms effect model_of
fits_read {bytes = bytes} g e = reads_so (Calls.fits_bytes bytes) g (λ l. refl) (λ l. ap (λ (b : Bool). uncharged [] (truth b)) (sym e))

pub wants_read : {t : State} {extra : ℕ} {r : Bool} → Good t → r ≡ wants_collection t.heap.account extra → Reads (Calls.wants_gc extra) t (answered (truth r))
unfolding terms effect model_of
wants_read {extra = extra} g e = reads_so (Calls.wants_gc extra) g (λ l. refl) (λ l. ap (λ (b : Bool). uncharged [] (truth b)) (sym e))

-- ---- `get`

-- whether it is an array can be read off the row: 15 is no object's
pub row-array : (v : View) (w : ℕ) → eqb (row_of v w) 6 ≡ eqb (read_or 0 row (look v w)) 6
unfolding row_of read_or look look_ref ref_in
row-array v w = go (decode_word w) refl
  where
    at : (o : Option Content) → eqb (read_or 15 row o) 6 ≡ eqb (read_or 0 row o) 6
    at none = refl
    at (some c) = refl

    go : (x : Raw) → decode_word w ≡ x → eqb (row_of v w) 6 ≡ eqb (read_or 0 row (look v w)) 6
    go R.Nil e = rw e
    go (R.Bool b) e = rw e
    go (R.Int z) e = rw e
    go (R.Float x) e = rw e
    go (R.Char k) e = rw e
    go (R.Ref s t) e = rw e (at (look_ref v (some (ref_of s t))))

row-by : (l : Layout) {t : State} {w : ℕ} (f : Result ℕ Miss) → Good t → Finds t.slots t.heap.fresh w f → row_of (view_of (model_of l t)) w ≡ row_by t.slots f
unfolding row_of row_by read_or raw_at
row-by l {t} {w} (Ok i) g d =
    let h = found-reached g d refl in
    rw h.reads (reads_content l 15 row h ∙ row_of_content (raw_of t i) (more_of t i) (omega (arith, h.present)) (g.each i h.within).kind)
row-by l (Err F.Nil) g d = rw (nil_reads l g d refl)
row-by l (Err F.Dead) g d = rw (dead_reads l g d refl, dead-look l g d refl)
row-by l (Err F.Wrong) g d = found_wrong (halves g) d 0 0 _ refl

pub row_read : (l : Layout) {t : State} {w r : ℕ} → Good t → Ranks t.slots t.heap.fresh w r → row_of (view_of (model_of l t)) w ≡ r
row_read l {t} {w} g d = row-by l (hit_first t.slots t.heap.fresh w) g (finds_so refl) ∙ sym d.is

pub get_read : {t : State} {w r : ℕ} → Good t → Ranks t.slots t.heap.fresh w r → Reads (Calls.get w) t (answered (number r))
unfolding terms effect
get_read {w = w} g d = reads_so (Calls.get w) g (λ l. refl) (λ l. ap (λ (n : ℕ). uncharged [] (number n)) (row_read l g d))

row-max-by : {t : State} {w : ℕ} (f : Result ℕ Miss) → Good t → Finds t.slots t.heap.fresh w f → RowOrDead (row_by t.slots f)
unfolding row_by raw_at
row-max-by (Ok i) g d = inl (g.each i (found-reached g d refl).within).kind
row-max-by (Err F.Nil) g d = inl (omega arith)
row-max-by (Err F.Dead) g d = inr refl
row-max-by (Err F.Wrong) g d = inl (omega arith)

pub row-max : {t : State} {w r : ℕ} → Good t → Ranks t.slots t.heap.fresh w r → RowOrDead r
row-max {t} {w} g d = rw d.is (row-max-by (hit_first t.slots t.heap.fresh w) g (finds_so refl))

-- ---- `kind` of heap.rs

module _ {t : State} {w : ℕ} (g : Good t) where
  kind_read : {n : ℕ} → ((l : Layout) → kind_of (view_of (model_of l t)) w ≡ n) → Reads (Calls.kind_of_word w) t (answered (number n))
  unfolding terms effect
  kind_read h = reads_so (Calls.kind_of_word w) g (λ l. refl) (λ l. ap (λ (n : ℕ). uncharged [] (number n)) (h l))

  pub kind-nil : R.Nil ≡ decode_word w → Reads (Calls.kind_of_word w) t (answered (number 0))
  unfolding kind_of
  kind-nil e = kind_read (λ l. rw (← e))

  pub kind-truth : {b : Bool} → R.Bool b ≡ decode_word w → Reads (Calls.kind_of_word w) t (answered (number 12))
  unfolding kind_of
  kind-truth e = kind_read (λ l. rw (← e))

  pub kind-integer : {z : ℤ} → R.Int z ≡ decode_word w → Reads (Calls.kind_of_word w) t (answered (number 2))
  unfolding kind_of
  kind-integer e = kind_read (λ l. rw (← e))

  pub kind_float : {x : Float} → R.Float x ≡ decode_word w → Reads (Calls.kind_of_word w) t (answered (number 13))
  unfolding kind_of
  kind_float e = kind_read (λ l. rw (← e))

  pub kind_character : {c : ℕ} → R.Char c ≡ decode_word w → Reads (Calls.kind_of_word w) t (answered (number 14))
  unfolding kind_of
  kind_character e = kind_read (λ l. rw (← e))

  pub kind-object : {slot tag r : ℕ} → R.Ref slot tag ≡ decode_word w → Ranks t.slots t.heap.fresh w r → Reads (Calls.kind_of_word w) t (answered (number r))
  unfolding kind_of row_of
  kind-object e d = kind_read (λ l. rw (← e) (rw (← e) at (row_read l g d)))

-- ---- a word seen through a box

not_ref-low : (a b t : Bool) (k : ℕ) → Words.by_kind none (λ b. none) (λ z. none) (λ x. none) (λ k. none) (λ slot tag. some (ref_of slot tag)) (cond a (R.Bool t) (cond b (R.Char k) R.Nil)) ≡ none
not_ref-low true b t k = refl
not_ref-low false true t k = refl
not_ref-low false false t k = refl

not_ref : (w : ℕ) → is_ref_word w ≡ false → ref_in w ≡ none
unfolding ref_in low_raw
not_ref w e =
    by_cases (lt_or_le w ref_base)
    (λ l. rw (decode_low_range w l) (not_ref-low (eqb (w / 0x100000000) 1) (eqb (w / 0x100000000) 2) _ _))
    (λ l.
    by_cases (lt_or_le w float_base)
    (λ h. absurd (let x : true ≡ false = rw (leb_yes ref_base w l, ltb_yes w float_base h) at e in let z : ◌≡◌ {A = ℕ} 0 1 = cc in omega arith))
    (λ h.
    by_cases (lt_or_le w int_base)
    (λ i. rw (decode_float_range w h i))
    (λ i. rw (decode_int_range w i))))

plain_word : (v : View) (w : ℕ) (a : Bool) → is_ref_word w ≡ a → is_box_word w ≡ false → View.deref v w ≡ w
unfolding View.deref deref_as ref_in ref_of is_box_word
plain_word v w true e h = rw (ref_reads w e, (rw e at h))
plain_word v w false e h = rw (not_ref w e)

pub deref_plain : {t : State} {w : ℕ} {b : Bool} → Good t → b ≡ is_box_word w → b ≡ false → Reads (Calls.deref_word w) t (answered (number w))
unfolding terms effect
deref_plain {w = w} g e f = reads_so (Calls.deref_word w) g (λ l. refl) (λ l. ap (λ (n : ℕ). uncharged [] (number n)) (plain_word (view_of (model_of l _)) w (is_ref_word w) refl (sym e ∙ f)))

boxed-word : (v : View) (w : ℕ) → is_box_word w ≡ true → (decode_word w ≡ R.Ref (ref_slot w) (ref_tag w)) × (View.deref v w ≡ unboxed (look v w))
unfolding View.deref deref_as ref_in ref_of is_box_word
boxed-word v w h =
    let r = ref_reads w (and_left (is_ref_word w) (leb 0x8000 (ref_tag w)) h) in
    (r, rw (r, and_right (is_ref_word w) (leb 0x8000 (ref_tag w)) h))

-- what is no box gives nil
unboxed_else : (o : Option Content) → kind_test a_box o ≢ 0 → unboxed o ≡ 0
unfolding kind_test unless unboxed
unboxed_else none h = refl
unboxed_else (some (string x)) h = refl
unboxed_else (some (integer x)) h = refl
unboxed_else (some (cell x)) h = refl
unboxed_else (some (error x)) h = refl
unboxed_else (some (box x)) h = absurd (h refl)
unboxed_else (some (array x)) h = refl
unboxed_else (some (map_object x)) h = refl
unboxed_else (some (struct x)) h = refl
unboxed_else (some (closure x)) h = refl
unboxed_else (some (iterator x)) h = refl
unboxed_else (some (coroutine x)) h = refl

module _ {t : State} {w : ℕ} {b : Bool} {r : Result ℕ Refusal} (g : Good t) (e : b ≡ is_box_word w) (f : b ≡ true) (d : Locates t.slots t.heap.fresh w 5 r) where
  boxed_read : {n : ℕ} → ((l : Layout) → unboxed (look (view_of (model_of l t)) w) ≡ n) → Reads (Calls.deref_word w) t (answered (number n))
  unfolding terms effect
  boxed_read h =
      reads_so (Calls.deref_word w) g (λ l. refl) (λ l. ap (λ (n : ℕ). uncharged [] (number n)) ((boxed-word (view_of (model_of l t)) w (sym e ∙ f)).1 ∙ h l))

  pub deref-refused : {q : Refusal} → r ≡ Err q → Reads (Calls.deref_word w) t (answered (number 0))
  unfolding target
  deref-refused {q} z =
      boxed_read
      (λ l.
      let v = view_of (model_of l t) in
      let c = (boxed-word v w (sym e ∙ f)).0 in
      unboxed_else (look v w) (λ y. number_not_0 q (sym (located_refused g d z l says_box) ∙ rw c y)))

  pub deref-at : {i : ℕ} {h : Header} → r ≡ Ok i → h ≡ header_at t.slots i → Reads (Calls.deref_word w) t (answered (number h.value))
  unfolding unboxed raw_at
  deref-at {i} z p =
      boxed_read
      (λ l.
      let o = located_at g d z in
      ap unboxed (reached-look o.reached l ∙ ap some (content-box (raw_of t i) (more_of t i) o.kind-is)) ∙ ap (λ (x : Header). x.value) (sym p))

-- ---- a charge

abbrev pub with_account : Heap → Account → Heap
with_account h a = with_regions h a h.top h.entries h.taken

slot-account : (t : State) (a : Account) (j : ℕ) → slot_of (with_heap t (with_account t.heap a)) j ≡ slot_of t j
unfolding slot_of
slot-account t a j = refl

-- the invariant says nothing of the account
pub good-account : {t : State} → Good t → (a : Account) → Good (with_heap t (with_account t.heap a))
good-account g a = record {
  some_slot = g.some_slot;
  slots_max = g.slots_max;
  slots_fit = g.slots_fit;
  scalars_fit = g.scalars_fit;
  list_fit = g.list_fit;
  directory_fit = g.directory_fit;
  weights = g.weights;
  fresh = g.fresh;
  each = g.each;
  laid = g.laid;
  taken = g.taken;
  cells_fit = g.cells_fit;
  listed = g.listed;
  present = g.present;
  coroutines = g.coroutines;
  room = g.room;
}

module _ {t : State} {bytes : ℕ} {r : Result Account OverBudget} (g : Good t) (d : charge_is t.heap.account r ≡ charge_of t.heap.account bytes) where
  pub charge-refused : {over : OverBudget} → r ≡ Err over → Performs (Calls.charge bytes) t (refused No.OverBudget) t
  unfolding terms charging effect
  charge-refused e l = does_5 l g (Calls.charge bytes) first_none refl (charge-over t.heap.account bytes d e) refl

  pub charge-accepted : {a : Account} → r ≡ Ok a → Performs (Calls.charge bytes) t (answered nothing) (with_heap t (with_account t.heap a))
  unfolding terms charging effect seen step judged finish accept apply answer_of account_after paid collections_after slotless added model_of
  charge-accepted {a} e l =
      let m = model_of l t in
      let k = Calls.charge bytes in
      let c = charge-next t.heap.account bytes d e in
      let s = says_none m (terms m k) (effect (view_of m) k) first_none (fits_so t.heap.account bytes c.0) refl (no-cells-added m 0 refl) in
      record { shows = rw s; next = rw (s, c.1, fun_ext (slot-account t (charged t.heap.account bytes))); good = good-account g a; kept = λ z. absurd (z refl) }
