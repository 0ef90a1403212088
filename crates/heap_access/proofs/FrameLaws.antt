-- Frames in the cells behind the registers: four cells to a frame. Assumes nothing.
use Rattle.std.proofs.Common.{Result, Ok, Err}
use Rattle.std.specs.Result.{IsErrAnd}
use Rattle.std.proofs.lemmas.Result.{err_from_is_err_and}
use Rattle.heap.specs.declared.Refusal.{Refusal}
use Prim.Native.Nat.{ℕ, zero, suc, ◌+◌, ◌*◌, ◌≤◌, ◌<◌}
use mathlib.Core.Path.{◌≡◌, refl, ap, sym, ◌∙◌}
use mathlib.Core.List.{List}
use native.Mathlib.Omega.{arith}
use lib.ListN.{drop, get_or, length}
use lib.Seq.{get_or-drop}
use Rattle.heap_slots.specs.Limits.{CELLS_MAX}
use Rattle.heap_slots.specs.Header.{header_at}
use Rattle.heap_slots.specs.declared.Header.{Header}
use Rattle.heap_slots.specs.Scalars.{coroutine_part}
use Rattle.heap_slots.specs.declared.CoroutineScalars.{CoroutineScalars}
use Rattle.heap_cells.specs.Regions.{raw_at, region_of}
use Rattle.heap_cells.proofs.RawLaws.{region-get}
use Rattle.layout.specs.Layout.{Layout}
use Rattle.model.specs.declared.Frame.{Frame}
use Rattle.model.specs.Calls.{effect}
use Rattle.model.specs.Calls as Calls
use Rattle.model.specs.Replies.{frame_is}
use Rattle.model.specs.Terms.{frames, no_frame, terms, uncharged}
use Rattle.heap.specs.Answers.{seen_by}
use Rattle.heap_access.specs.Answers.{frame_seen}
use Rattle.heap.specs.Kinds.{frame_at, frames_in}
use Rattle.heap.specs.Locating.{Locates}
use Rattle.heap.specs.State.{State, model_of, more_of, raw_of}
use Rattle.heap.specs.Good.{Good}
use Rattle.heap.specs.Promise.{Reads}
use Rattle.heap.specs.declared.Refusal.TheVariants as No
use Rattle.heap.proofs.GoodLaws.{holds_as}
use Rattle.heap.proofs.KindLaws.{length-frames_in, says_coroutine}
use Rattle.heap.proofs.ReachLaws.{Target, located_at}
use Rattle.heap.proofs.ReadLaws.{object-inside, object-outside, reads_frames}
use Rattle.heap_access.specs.Objects.{frame_of}
use Rattle.heap_access.proofs.ReadingLaws.{reads_refused}

pub get_d_frames_in : (ws : List ℕ) (k n i : ℕ) (d : Frame) → i < n → get_or (frames_in ws k n) i d ≡ frame_at ws (k + i)
unfolding frames_in
get_d_frames_in ws k zero i d l = absurd (omega arith)
get_d_frames_in ws k (suc n) zero d l = ap (frame_at ws) (omega arith)
get_d_frames_in ws k (suc n) (suc i) d l = get_d_frames_in ws (suc k) n i d (omega arith) ∙ ap (frame_at ws) (omega arith)

module _ (h : Header) (c : List ℕ) where
  -- a cell behind the registers
  cell-behind : (p q : ℕ) → h.len + p < h.size → h.start + h.len + p ≡ q → get_or (drop h.len (region_of h c)) p 0 ≡ get_or c q 0
  cell-behind p q l e = get_or-drop h.len (region_of h c) p 0 ∙ region-get h c (h.len + p) l ∙ ap (λ (n : ℕ). get_or c n 0) (omega arith)

  pub frame-behind : (i n : ℕ) → i < n → h.size ≡ h.len + 4 * n → frame_at (drop h.len (region_of h c)) i ≡ frame_of c (h.start + h.len + i * 4)
  frame-behind i n l e =
      let at : (p q : ℕ) → p < i * 4 + 4 → h.start + h.len + p ≡ q → get_or (drop h.len (region_of h c)) p 0 ≡ get_or c q 0 = λ p q lp. cell-behind p q (omega arith) in
      λ t. record {
        function = at (i * 4) (h.start + h.len + i * 4) (omega arith) (omega arith) t;
        counter = at (i * 4 + 1) (h.start + h.len + i * 4 + 1) (omega arith) (omega arith) t;
        base = at (i * 4 + 2) (h.start + h.len + i * 4 + 2) (omega arith) (omega arith) t;
        closure = at (i * 4 + 3) (h.start + h.len + i * 4 + 3) (omega arith) (omega arith) t;
      }

-- ---- the frames of a coroutine

pub frame_count : (l : Layout) {t : State} {w i : ℕ} → Target t w i 11 → length (frames (model_of l t) w) ≡ (coroutine_part (more_of t i)).frames
frame_count l {t} {i = i} o = ap length (reads_frames l o) ∙ length-frames_in (drop (raw_of t i).len (raw_of t i).cells) 0 (coroutine_part (more_of t i)).frames

-- no coroutine there
pub frame_lost : {t : State} {w : ℕ} (n : ℕ) {r : Result ℕ Refusal} {q : Refusal} (x : Result Frame Refusal) → Good t → Locates t.slots t.heap.fresh w 11 r → r ≡ Err q → IsErrAnd x (λ e. e ≡ q) → Reads (Calls.read_frame w n) t (frame_seen x)
unfolding terms uncharged seen_by
frame_lost n x g d e h =
    let p = err_from_is_err_and x h in
    rw (p.1, p.2) (reads_refused g says_coroutine (Calls.read_frame _ n) d e (λ l. refl) (λ l. refl))

module _ {t : State} {w i : ℕ} {r : Result ℕ Refusal} {x : CoroutineScalars} (n : ℕ) (g : Good t) (d : Locates t.slots t.heap.fresh w 11 r) (e : r ≡ Ok i) (y : x ≡ coroutine_part (more_of t i)) where
  frames_are : (l : Layout) → length (frames (model_of l t) w) ≡ x.frames
  frames_are l = frame_count l (located_at g d e) ∙ ap (λ (z : CoroutineScalars). z.frames) (sym y)

  pub frame-outside : x.frames ≤ n → Reads (Calls.read_frame w n) t (frame_seen (Err No.Outside))
  unfolding terms uncharged seen_by
  frame-outside z l =
      let past : length (frames (model_of l t) w) ≤ n = omega (arith, frames_are l) in
      object-outside l g (Calls.read_frame w n) (located_at g d e) says_coroutine refl past refl

  module _ {h : Header} (p : h ≡ header_at t.slots i) (z : n < x.frames) where
    frames-size : h.size ≡ h.len + 4 * x.frames
    unfolding raw_at
    frames-size = let o = located_at g d e in rw (p, y) (holds_as 11 o.kind-is (g.each i o.reached.within))

    pub frame-fits : (h.start + h.len + n * 4 + 4 ≤ length t.cells) × (length t.cells ≤ CELLS_MAX)
    frame-fits =
        let inside : h.start + h.size ≤ length t.cells = rw p (g.laid.inside i (located_at g d e).reached.within) in
        (omega (arith, frames-size), g.laid.cells_max)

    pub frame-inside : {f : Frame} → f ≡ frame_of t.cells (h.start + h.len + n * 4) → Reads (Calls.read_frame w n) t (frame_seen (Ok f))
    unfolding terms uncharged effect raw_at seen_by
    frame-inside q l =
        let ws : List ℕ = drop h.len (region_of h t.cells) in
        let start : 0 + n ≡ n = omega arith in
        let read : frames (model_of l t) w ≡ frames_in ws 0 x.frames = reads_frames l (located_at g d e) ∙ rw (p, y) in
        let below : n < length (frames (model_of l t) w) = omega (arith, frames_are l) in
        object-inside l g (Calls.read_frame w n) (located_at g d e) says_coroutine refl below refl refl refl
        (ap (λ (fs : List Frame). frame_is (get_or fs n no_frame)) read
        ∙ ap frame_is (get_d_frames_in ws 0 x.frames n no_frame z ∙ ap (frame_at ws) start ∙ frame-behind h t.cells n x.frames z frames-size ∙ sym q))
