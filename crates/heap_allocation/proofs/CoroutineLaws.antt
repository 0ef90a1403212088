-- Coroutines: placed with scalars and registers, then the frames are copied in. Assumes nothing.
use Rattle.std.proofs.Common.{Result, Ok, Err}
use Prim.Native.Nat.{ℕ, zero, suc, ◌+◌, ◌*◌, ◌/◌, ◌≤◌, ◌<◌}
use mathlib.Core.Path.{◌≡◌, refl, ap, sym, ◌∙◌}
use mathlib.Core.Logic.{inl, inr}
use mathlib.Core.Bool.{Bool, true, false, cond}
use mathlib.Core.List.{List, [], ◌∷◌}
use native.Mathlib.Omega.{arith}
use lib.Dec.{eqb}
use lib.ListN.{length, get_or, take, drop, length-take, length-drop}
use lib.Seq.{ext_get_or, get_or-drop, get_or-take}
use Rattle.heap_slots.specs.Limits.{CELLS_MAX, HALF}
use Rattle.account.specs.Account.{saturated}
use Rattle.account.specs.AccountLaws.{saturated-below}
use Rattle.heap_slots.specs.Header.{set_scalars}
use Rattle.heap_slots.specs.declared.Header.{Header}
use Rattle.heap_slots.specs.declared.Scalars.{Scalars}
use Rattle.heap_slots.proofs.Cases.{by_cases, lt_or_le}
use Rattle.heap_cells.specs.Moves.{Copied}
use Rattle.history.proofs.Facts.{leb_no}
use Rattle.model.specs.Calls.{effect, no_room}
use Rattle.model.specs.Content.{Content, bytes_of, cells_of, coroutine}
use Rattle.model.specs.Refusals.{state_4}
use Rattle.model.specs.Terms.{terms}
use Rattle.model.specs.declared.Frame.{Frame}
use Rattle.heap.specs.declared.Refusal.{Refusal}
use Rattle.heap.specs.declared.Refusal.TheVariants as No
use Rattle.heap.specs.Answers.{accepted, made_is}
use Rattle.heap.specs.Kinds.{frames_in}
use Rattle.heap.specs.State.{State, more_of, with_cells, with_scalars}
use Rattle.heap.specs.Good.{Good}
use Rattle.heap.specs.Promise.{Performs}
use Rattle.heap.specs.Placing.{Object, RegionObject, judged_new, new_raw, next_region, next_slot, placed_plain, placed_region}
use Rattle.heap.proofs.GoodLaws.{good_as}
use Rattle.heap.proofs.KindLaws.{content-coroutine, length-frames_in, room-none}
use Rattle.heap.proofs.DoesLaws.{first_none, first_passes, first_refuses}
use Rattle.heap_allocation.specs.declared.Begun.{Begun}
use Rattle.heap_allocation.specs.declared.Coroutine.{Coroutine}
use Rattle.heap_allocation.specs.Coroutines.{Begins, BegunAs, FramesPut, Seated, call_of, coroutine_header, scalars_for}
use Rattle.heap_allocation.specs.Making.{Finishes, Placeable, Prepared, RoomMade, judged_in, placed, with_next}
use Rattle.heap_allocation.proofs.MakeLaws.{Above, Makes, Means, above_4, makes, next_more, placeable-scalars, ready-cells, ready-scalars, refused-own, region-made, region-refused, within_4}
use Rattle.heap_allocation.proofs.RegionLaws.{above_copied}

-- ---- cells

-- more cells than can be counted are more than there are
judged-exact : {t : State} (bytes n : ℕ) → Good t → judged_in t bytes (saturated n) ≡ judged_in t bytes n
unfolding judged_new
judged-exact {t} bytes n g =
    by_cases (lt_or_le n 0xFFFFFFFFFFFFFFFF)
    (λ l. rw (saturated-below n (omega arith)))
    (λ l.
    let m = g.laid.cells_max in
    rw (leb_no (t.heap.taken + saturated n) (length t.cells) (omega (arith, m, large n l)), leb_no (t.heap.taken + n) (length t.cells) (omega (arith, m))))
  where
    large : (n : ℕ) → 0xFFFFFFFFFFFFFFFF ≤ n → 0xFFFFFFFFFFFFFFFF ≤ saturated n
    large n l = unfold saturated in omega arith

exact-size : (s n : ℕ) → s ≡ saturated n → s ≤ CELLS_MAX → s ≡ n
unfolding saturated
exact-size s n e l = omega arith

pub accepted-size : {t m : State} {bytes size : ℕ} {d : Result Unit Refusal} (n : ℕ) → size ≡ saturated n → Prepared t bytes size d m → d ≡ accepted → size ≡ n
accepted-size {size = size} n e p f = let y = (p.accepted f).placeable in exact-size size n e (omega (arith, y.region, y.good.laid.cells_max))

pub prepared_exact : {t m : State} {bytes size : ℕ} {d : Result Unit Refusal} (n : ℕ) → Good t → size ≡ saturated n → Prepared t bytes size d m → Prepared t bytes n d m
prepared_exact {t} {bytes = bytes} n g e p = record {
  judged = p.judged ∙ ap (judged_in t bytes) e ∙ judged-exact bytes n g;
  refused = p.refused;
  accepted = λ f. rw (accepted-size n e p f) at (p.accepted f);
  good = p.good;
}

-- ---- frames in cells

-- n frames from the k-th on, by their words
frames_ext : (ws ws' : List ℕ) (k n : ℕ) → ((q : ℕ) → k * 4 ≤ q → q < (k + n) * 4 → get_or ws q 0 ≡ get_or ws' q 0) → frames_in ws k n ≡ frames_in ws' k n
unfolding frames_in
frames_ext ws ws' k zero h = refl
frames_ext ws ws' k (suc n) h =
    rw (
      h (k * 4) (omega arith) (omega arith),
      h (k * 4 + 1) (omega arith) (omega arith),
      h (k * 4 + 2) (omega arith) (omega arith),
      h (k * 4 + 3) (omega arith) (omega arith),
      frames_ext ws ws' (suc k) n (λ q a b. h q (omega arith) (omega arith)),
    )

-- words copied are frames put
pub put-words : {c c' : List ℕ} {at : ℕ} (ws : List ℕ) (n : ℕ) → n * 4 ≤ length ws → Copied (take (n * 4) ws) c c' at → FramesPut (frames_in ws 0 n) c c' at
put-words {c} {c'} {at} ws n fits w =
    let l : length (frames_in ws 0 n) ≡ n = length-frames_in ws 0 n in
    let lt : length (take (n * 4) ws) ≡ n * 4 = simp length-take (omega arith) in
    record {
      len = w.len;
      inside =
          rw l
          (frames_ext (drop at c') ws 0 n
          (λ q a b.
          let qb : q < n * 4 = omega arith in
          sym (get_or-take (n * 4) (drop at c') q 0 qb) ∙ ap (λ (x : List ℕ). get_or x q 0) (rw lt at w.inside) ∙ get_or-take (n * 4) ws q 0 qb));
      outside = λ q o. w.outside q (by_cases o (λ a. inl a) (λ b. inr (omega (arith, l, lt))));
    }

-- ---- the call

abbrev content_for : Coroutine → List ℕ → List Frame → Content
content_for k ws fs = coroutine record { state = k.state; finalized = false; sequence = k.sequence; payload = k.payload; key = k.key; result = k.result; signal = k.signal; registers = ws; frames = fs }

coroutine-makes : {t : State} (k : Coroutine) (ws : List ℕ) (fs : List Frame) → k.state ≤ 4 → Makes t (call_of k ws fs) (content_for k ws fs) no_room
unfolding effect terms
coroutine-makes k ws fs le = makes (λ l. state_4 k.state ∷ []) (λ l. refl) (λ l. refl) (λ l. first_passes [] (within_4 k.state 4 le) ∙ first_none)

-- ---- refused

begins_refused : {t a : State} {k : Coroutine} {ws : List ℕ} {n : ℕ} {q : Refusal} → ((fs : List Frame) → length fs ≡ n → Performs (call_of k ws fs) t (made_is (Err q)) a) → Begins t k ws n (Err q) a
begins_refused {q = q} h = record {
  begun = λ b x. absurd (let z : ◌≡◌ {A = ℕ} 0 1 = cc in omega arith);
  refused = λ q' x fs l. let e : q ≡ q' = cc in rw (← e) (h fs l);
}

pub refused-state : {t : State} {k : Coroutine} {ws : List ℕ} {n : ℕ} → Good t → 4 < k.state → Begins t k ws n (Err No.BadType) t
unfolding effect terms
refused-state {k = k} g lt =
    begins_refused (λ fs l. refused-own No.BadType (λ l. state_4 k.state ∷ []) g (λ l. refl) (λ l. refl) (λ l. first_refuses [] No.BadType (above_4 k.state 4 lt)))

pub refused_begun : {t m : State} {k : Coroutine} {ws : List ℕ} {n bytes : ℕ} {d : Result Unit Refusal} {q : Refusal} → Good t → k.state ≤ 4 →
    bytes ≡ saturated (t.heap.weights.slot + (t.heap.weights.coroutine + 8 * length ws + t.heap.weights.frame * n)) → Prepared t bytes (length ws + 4 * n) d m → d ≡ Err q → Begins t k ws n (Err q) m
unfolding bytes_of cells_of
refused_begun {t} {k = k} {ws} {bytes = bytes} g le bytes_are p f =
    begins_refused
    (λ fs l.
    let b : bytes ≡ saturated (t.heap.weights.slot + (t.heap.weights.coroutine + 8 * length ws + t.heap.weights.frame * length fs)) = rw l bytes_are in
    region-refused g (coroutine-makes k ws fs le) b (rw l) p f)

-- ---- placed

seated-scalars : (m : State) {x' : List ℕ} {i : ℕ} (x : Scalars) → i ≡ next_slot m → x' ≡ set_scalars m.scalars i x → x' ≡ set_scalars m.scalars (next_slot m) x
seated-scalars m x n w = w ∙ ap (λ (i : ℕ). set_scalars m.scalars i x) n

pub seated-placeable : {m : State} {bytes size : ℕ} {x' c' ws : List ℕ} {i : ℕ} (x : Scalars) → Placeable m bytes size → i ≡ next_slot m → x' ≡ set_scalars m.scalars i x → Copied ws m.cells c' m.heap.top →
    Placeable (with_cells (with_scalars m x') c') bytes size
seated-placeable {m} x y n w o =
    let z = ready-cells (record { placeable = placeable-scalars y x; model = λ l. refl }) (above_copied o) in
    rw (seated-scalars m x n w) z.placeable

-- whatever its frames are
pub coroutine-object : (k : Coroutine) (words n : ℕ) (region : List ℕ) → Object (coroutine_header k words (words + 4 * n)) region (scalars_for k n)
coroutine-object k words n region = record {
  some_kind = λ z. absurd (omega (arith, z));
  fit = good_as 11 refl (omega arith) (omega arith) (omega arith) refl;
}

pub seated-object : {m : State} {bytes size : ℕ} {x' : List ℕ} {i : ℕ} (k : Coroutine) (words frames : ℕ) (c' : List ℕ) → Placeable m bytes size → size ≡ words + 4 * frames → i ≡ next_slot m → x' ≡ set_scalars m.scalars i (scalars_for k frames) →
    RegionObject (with_cells (with_scalars m x') c') (coroutine_header k words size)
seated-object {m} k words frames c' y size_is n w =
    let x = scalars_for k frames in
    rw (seated-scalars m x n w, next_more y x, size_is) (coroutine-object k words frames (next_region (with_cells m c') (words + 4 * frames)))

pub seated : {m a : State} {k : Coroutine} {frames size bytes : ℕ} {x' c' ws : List ℕ} {i : ℕ} {h : Header} {r : Result ℕ Refusal} → i ≡ next_slot m → x' ≡ set_scalars m.scalars i (scalars_for k frames) → Copied ws m.cells c' m.heap.top →
    h ≡ coroutine_header k (length ws) size → a.cells ≡ c' → Finishes (with_cells (with_scalars m x') c') h bytes r a → Seated m k ws frames size bytes r a
seated {m} {a} {k} {frames} {bytes = bytes} {c' = c'} {h = h} n w o h-is c-is done = record {
  registers = rw c-is o;
  after = done.after ∙ ap (λ (x : List ℕ). placed (with_cells (with_scalars m x) c') h bytes) (seated-scalars m (scalars_for k frames) n w) ∙ rw (h-is, c-is);
  answer = done.answer ∙ rw h-is;
  good = done.good;
}

-- the cells may be written after the placing
placed-cells : (m : State) (h : Header) (bytes : ℕ) (c' : List ℕ) → with_cells (placed m h bytes) c' ≡ placed (with_cells m c') h bytes
placed-cells m h bytes c' = go (eqb h.size 0)
  where
    go : (b : Bool) → with_cells (cond b (placed_plain m h bytes) (placed_region m h bytes)) c' ≡ cond b (placed_plain (with_cells m c') h bytes) (placed_region (with_cells m c') h bytes)
    go true = refl
    go false = refl

module _ {ws c c₁ c' : List ℕ} {fs : List Frame} (top size : ℕ) (w : Copied ws c c₁ top) (p : FramesPut fs c₁ c' (top + length ws)) (size_is : size ≡ length ws + 4 * length fs) (fits : top + size ≤ length c) where
  both_above : Above c c' top
  both_above = record { len = p.len ∙ w.len; below = λ q l. p.outside q (inl (omega arith)) ∙ w.outside q (inl l) }

  -- the registers, then the frames
  region-registers : take (length ws) (take size (drop top c')) ≡ ws
  region-registers =
      let l : length (take (length ws) (take size (drop top c'))) ≡ length ws = simp (length-take, length-drop) (omega (arith, p.len, w.len)) in
      ext_get_or 0 (take (length ws) (take size (drop top c'))) ws l
      (λ r lr.
      let rw' : r < length ws = omega arith in
      get_or-take (length ws) (take size (drop top c')) r 0 rw' ∙ get_or-take size (drop top c') r 0 (omega arith) ∙ get_or-drop top c' r 0 ∙ p.outside (top + r) (inl (omega arith)) ∙ sym (get_or-drop top c₁ r 0)
      ∙ sym (get_or-take (length ws) (drop top c₁) r 0 rw') ∙ ap (λ (x : List ℕ). get_or x r 0) w.inside)

  region-frames : frames_in (drop (length ws) (take size (drop top c'))) 0 (length fs) ≡ fs
  region-frames =
      frames_ext (drop (length ws) (take size (drop top c'))) (drop (top + length ws) c') 0 (length fs)
      (λ q a b.
      let e : top + (length ws + q) ≡ top + length ws + q = omega arith in
      get_or-drop (length ws) (take size (drop top c')) q 0 ∙ get_or-take size (drop top c') (length ws + q) 0 (omega arith) ∙ get_or-drop top c' (length ws + q) 0 ∙ ap (λ (i : ℕ). get_or c' i 0) e ∙ sym (get_or-drop (top + length ws) c' q 0))
      ∙ p.inside

module _ {t m a : State} {k : Coroutine} {ws : List ℕ} {n bytes : ℕ} {r : Result ℕ Refusal} (g : Good t) (le : k.state ≤ 4)
    (bytes_are : bytes ≡ saturated (t.heap.weights.slot + (t.heap.weights.coroutine + 8 * length ws + t.heap.weights.frame * n))) (y : RoomMade t m bytes (length ws + 4 * n))
    (s : Seated m k ws n (length ws + 4 * n) bytes r a) where
  abbrev header : Header
  header = coroutine_header k (length ws) (length ws + 4 * n)

  coroutine_means : (fs : List Frame) (region : List ℕ) (x : Scalars) → x ≡ scalars_for k n → take (length ws) region ≡ ws → frames_in (drop (length ws) region) 0 n ≡ fs → Means header region x (content_for k ws fs) no_room
  coroutine_means fs region x e registers frames =
      rw e
      record {
        object = coroutine-object k (length ws) n region;
        content = content-coroutine (new_raw HALF header region) (scalars_for k n) refl ∙ rw (registers, frames);
        room = room-none (new_raw HALF header region) (λ z. absurd (omega (arith, z))) (λ z. absurd (omega (arith, z)));
      }

  coroutine-made : (fs : List Frame) (c' : List ℕ) → length fs ≡ n → FramesPut fs a.cells c' (m.heap.top + length ws) → Performs (call_of k ws fs) t (made_is r) (with_cells a c')
  unfolding bytes_of
  coroutine-made fs c' l p =
      let size = length ws + 4 * n in
      let x = scalars_for k n in
      let m₂ : State = with_cells (with_next m x) c' in
      let size_is : size ≡ length ws + 4 * length fs = omega arith in
      let fits = y.placeable.region in
      let b : bytes ≡ saturated (t.heap.weights.slot + (t.heap.weights.coroutine + 8 * length ws + t.heap.weights.frame * length fs)) = rw l bytes_are in
      let after : with_cells a c' ≡ placed m₂ header bytes = ap (λ (z : State). with_cells z c') s.after ∙ placed-cells (with_cells (with_next m x) a.cells) header bytes c' in
      let frames = region-frames m.heap.top size s.registers p size_is fits in
      region-made g (coroutine-makes k ws fs le) b header (ready-cells (ready-scalars y x) (both_above m.heap.top size s.registers p size_is fits))
      (coroutine_means fs (next_region m₂ size) (more_of m₂ (next_slot m₂)) (next_more y.placeable x) (region-registers m.heap.top size s.registers p size_is fits) (rw l at frames))
      (after, s.answer)

  pub begun : {b : Begun} → r ≡ Ok b.word → b.at ≡ m.heap.top + length ws → Begins t k ws n (Ok b) a
  begun {b} e at-is =
      let made : BegunAs t k ws n b a = record {
        room = omega (arith, y.placeable.region, s.registers.len);
        cells_max = omega (arith, y.placeable.good.laid.cells_max, s.registers.len);
        once = λ fs c' l p. rw e at (coroutine-made fs c' l (rw at-is at p));
      } in
      record {
        begun = λ b' x. let same : b ≡ b' = cc in rw (← same) made;
        refused = λ q x. absurd (let z : ◌≡◌ {A = ℕ} 0 1 = cc in omega arith);
      }

-- the coroutine's word is made
pub seated-err : {m a : State} {k : Coroutine} {ws : List ℕ} {n size bytes : ℕ} {r : Result ℕ Refusal} {q : Refusal} → Seated m k ws n size bytes r a → r ≡ Err q → ⊥
seated-err s e = let x = sym e ∙ s.answer in let z : ◌≡◌ {A = ℕ} 0 1 = cc in absurd (omega arith)

-- ---- frames as words

pub words-put : {t a : State} {k : Coroutine} {ws : List ℕ} {r : Result Begun Refusal} {b : Begun} {c' : List ℕ} (frames : List ℕ) → Begins t k ws (length frames / 4) r a → r ≡ Ok b → Copied (take (length frames / 4 * 4) frames) a.cells c' b.at →
    Performs (call_of k ws (frames_in frames 0 (length frames / 4))) t (made_is (Ok b.word)) (with_cells a c')
words-put {b = b} {c' = c'} frames g e w =
    let n = length frames / 4 in
    (g.begun b e).once (frames_in frames 0 n) c' (length-frames_in frames 0 n) (put-words frames n (omega arith) w)
