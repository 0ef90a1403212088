-- Frames copied into cells, one after the other: what is left to copy, and what then stands in the cells. Assumes nothing.
use Rattle.std.proofs.Common.{Result, Ok}
use mathlib.Core.Path.{◌≡◌, refl, ◌∙◌, ap}
use mathlib.Core.Logic.{◌⊎◌, inl, inr, ◌≢◌}
use Prim.Native.Nat.{ℕ, zero, suc, ◌+◌, ◌*◌, ◌<◌, ◌≤◌}
use native.Mathlib.Numerals.{add-one}
use native.Mathlib.Nat.{not-suc-le-zero, le_of_suc-le-suc}
use native.Mathlib.Omega.{arith}
use mathlib.Core.List.{List, [], ◌∷◌}
use lib.ListN.{length, get_or, set, drop, length-set, drop_of_length-le}
use lib.Seq.{drop-cons, get_or-drop, get_or-set_other, get_or-set_same}
use Rattle.model.specs.declared.Frame.{Frame}
use Rattle.model.specs.Terms.{no_frame}
use Rattle.heap.specs.Kinds.{frame_at, frames_in}
use Rattle.heap_allocation.specs.Frames.{copied, put_frame}
use Rattle.heap.specs.declared.Refusal.{Refusal}
use Rattle.heap.specs.Answers.{made_is}
use Rattle.heap.specs.State.{State, with_cells}
use Rattle.heap.specs.Promise.{Performs}
use Rattle.heap_allocation.specs.declared.Begun.{Begun}
use Rattle.heap_allocation.specs.declared.Coroutine.{Coroutine}
use Rattle.heap_allocation.specs.Coroutines.{Begins, FramesPut, call_of}

-- ---- turn by turn

-- what is left to copy at the i-th turn, from the cells as they are then
abbrev pub Left : List Frame → ℕ → ℕ → List ℕ → List ℕ
Left fs at i zs = copied (drop i fs) zs (at + 4 * i)

put-length : (zs : List ℕ) (p : ℕ) (f : Frame) → length (put_frame zs p f) ≡ length zs
put-length zs p f = simp length-set

pub start : (fs : List Frame) (cs : List ℕ) (at : ℕ) → Left fs at 0 cs ≡ copied fs cs at
start fs cs at = ap (copied fs cs) (omega arith)

-- one turn
pub turned : (fs : List Frame) (at i : ℕ) (zs : List ℕ) → i < length fs → Left fs at (i + 1) (put_frame zs (at + 4 * i) (get_or fs i no_frame)) ≡ Left fs at i zs
unfolding copied
turned fs at i zs l =
    let e : at + 4 * (i + 1) ≡ at + 4 * i + 4 = omega arith in
    rw (e, add-one, drop-cons fs i no_frame)

-- at the end nothing is left
pub finished : (fs : List Frame) (at i : ℕ) (zs : List ℕ) → length fs ≤ i → Left fs at i zs ≡ zs
unfolding copied
finished fs at i zs l = rw (drop_of_length-le fs l)

-- ---- what then stands in the cells

copied-length : (fs : List Frame) (cells : List ℕ) (at : ℕ) → length (copied fs cells at) ≡ length cells
unfolding copied
copied-length [] cells at = refl
copied-length (f ∷ fs) cells at = copied-length fs (put_frame cells at f) (at + 4) ∙ put-length cells at f

others : (cells : List ℕ) (at : ℕ) (f : Frame) (k : ℕ) → k ≢ at → k ≢ at + 1 → k ≢ at + 2 → k ≢ at + 3 → get_or (put_frame cells at f) k 0 ≡ get_or cells k 0
others cells at f k h₀ h₁ h₂ h₃ = simp get_or-set_other

put_outside : (cells : List ℕ) (at : ℕ) (f : Frame) (k : ℕ) → (k < at) ⊎ (at + 4 ≤ k) → get_or (put_frame cells at f) k 0 ≡ get_or cells k 0
put_outside cells at f k (inl h) = others cells at f k (λ e. omega arith) (λ e. omega arith) (λ e. omega arith) (λ e. omega arith)
put_outside cells at f k (inr h) = others cells at f k (λ e. omega arith) (λ e. omega arith) (λ e. omega arith) (λ e. omega arith)

copied-outside : (fs : List Frame) (cells : List ℕ) (at k : ℕ) → (k < at) ⊎ (at + 4 * length fs ≤ k) → get_or (copied fs cells at) k 0 ≡ get_or cells k 0
unfolding copied
copied-outside [] cells at k h = refl
copied-outside (f ∷ fs) cells at k (inl h) = copied-outside fs (put_frame cells at f) (at + 4) k (inl (omega arith)) ∙ put_outside cells at f k (inl h)
copied-outside (f ∷ fs) cells at k (inr h) = copied-outside fs (put_frame cells at f) (at + 4) k (inr (omega arith)) ∙ put_outside cells at f k (inr (omega arith))

-- the four words, as they are set one after the other
module _ (cells : List ℕ) (at : ℕ) (f : Frame) (l : at + 4 ≤ length cells) where
  put_function : get_or (put_frame cells at f) at 0 ≡ f.function
  put_function =
      let h₁ : at ≢ at + 1 = λ e. omega arith in
      let h₂ : at ≢ at + 2 = λ e. omega arith in
      let h₃ : at ≢ at + 3 = λ e. omega arith in
      let k : at < length cells = omega arith in
      simp (get_or-set_other, get_or-set_same)

  put_counter : get_or (put_frame cells at f) (at + 1) 0 ≡ f.counter
  put_counter =
      let h₂ : at + 1 ≢ at + 2 = λ e. omega arith in
      let h₃ : at + 1 ≢ at + 3 = λ e. omega arith in
      let k : at + 1 < length (set cells at f.function) = simp length-set (omega arith) in
      simp (get_or-set_other, get_or-set_same)

  put_base : get_or (put_frame cells at f) (at + 2) 0 ≡ f.base
  put_base =
      let h₃ : at + 2 ≢ at + 3 = λ e. omega arith in
      let k : at + 2 < length (set (set cells at f.function) (at + 1) f.counter) = simp length-set (omega arith) in
      simp (get_or-set_other, get_or-set_same)

  put-closure : get_or (put_frame cells at f) (at + 3) 0 ≡ f.closure
  put-closure = get_or-set_same (set (set (set cells at f.function) (at + 1) f.counter) (at + 2) f.base) (at + 3) f.closure 0 (simp length-set (omega arith))

-- the frame whose words stand from p on
abbrev frame_from : List ℕ → ℕ → Frame
frame_from cells p = record { function = get_or cells p 0; counter = get_or cells (p + 1) 0; base = get_or cells (p + 2) 0; closure = get_or cells (p + 3) 0 }

copied_at : (fs : List Frame) (cells : List ℕ) (at i : ℕ) → at + 4 * length fs ≤ length cells → i < length fs → frame_from (copied fs cells at) (at + 4 * i) ≡ get_or fs i no_frame
unfolding copied
copied_at [] cells at i l h = absurd (not-suc-le-zero h)
copied_at (f ∷ fs) cells at zero l h =
    let k : at + 4 ≤ length cells = omega arith in
    let e : at + 4 * zero ≡ at = omega arith in
    let rest : List ℕ = put_frame cells at f in
    let w₀ : get_or (copied fs rest (at + 4)) at 0 ≡ f.function = copied-outside fs rest (at + 4) at (inl (omega arith)) ∙ put_function cells at f k in
    let w₁ : get_or (copied fs rest (at + 4)) (at + 1) 0 ≡ f.counter = copied-outside fs rest (at + 4) (at + 1) (inl (omega arith)) ∙ put_counter cells at f k in
    let w₂ : get_or (copied fs rest (at + 4)) (at + 2) 0 ≡ f.base = copied-outside fs rest (at + 4) (at + 2) (inl (omega arith)) ∙ put_base cells at f k in
    let w₃ : get_or (copied fs rest (at + 4)) (at + 3) 0 ≡ f.closure = copied-outside fs rest (at + 4) (at + 3) (inl (omega arith)) ∙ put-closure cells at f k in
    rw (e, w₀, w₁, w₂, w₃)
copied_at (f ∷ fs) cells at (suc i) l h =
    let e : at + 4 + 4 * i ≡ at + 4 * suc i = omega arith in
    let m : length (put_frame cells at f) ≡ length cells = put-length cells at f in
    rw (← e) (copied_at fs (put_frame cells at f) (at + 4) i (omega arith) (le_of_suc-le-suc h))

-- frames by their places
frames_are : (fs : List Frame) (ws : List ℕ) (k : ℕ) → ((i : ℕ) → i < length fs → frame_at ws (k + i) ≡ get_or fs i no_frame) → frames_in ws k (length fs) ≡ fs
unfolding frames_in
frames_are [] ws k h = refl
frames_are (f ∷ fs) ws k h =
    let z : k + 0 ≡ k = omega arith in
    let first : frame_at ws k ≡ f = rw z at (h 0 (omega arith)) in
    let rest : frames_in ws (suc k) (length fs) ≡ fs = frames_are fs ws (suc k) (λ i l. let e : suc k + i ≡ k + suc i = omega arith in rw e (h (suc i) (omega arith))) in
    ap (λ (g : Frame). g ∷ frames_in ws (suc k) (length fs)) first ∙ ap (λ (gs : List Frame). f ∷ gs) rest

dropped-frame : (cells : List ℕ) (at i : ℕ) → frame_at (drop at cells) i ≡ frame_from cells (at + 4 * i)
dropped-frame cells at i =
    let e₀ : at + i * 4 ≡ at + 4 * i = omega arith in
    let e₁ : at + (i * 4 + 1) ≡ at + 4 * i + 1 = omega arith in
    let e₂ : at + (i * 4 + 2) ≡ at + 4 * i + 2 = omega arith in
    let e₃ : at + (i * 4 + 3) ≡ at + 4 * i + 3 = omega arith in
    rw (get_or-drop at cells (i * 4) 0, get_or-drop at cells (i * 4 + 1) 0, get_or-drop at cells (i * 4 + 2) 0, get_or-drop at cells (i * 4 + 3) 0, e₀, e₁, e₂, e₃)

pub copied-put : (fs : List Frame) (c : List ℕ) (at : ℕ) → at + 4 * length fs ≤ length c → FramesPut fs c (copied fs c at) at
copied-put fs c at l = record {
  len = copied-length fs c at;
  inside =
      frames_are fs (drop at (copied fs c at)) 0
      (λ i h. let z : 0 + i ≡ i = omega arith in rw z (dropped-frame (copied fs c at) at i ∙ copied_at fs c at i l h));
  outside = λ q o. copied-outside fs c at q o;
}

-- a coroutine begun, and its frames copied
pub frames-put : {t a : State} {k : Coroutine} {ws : List ℕ} {r : Result Begun Refusal} {b : Begun} {c' : List ℕ} (fs : List Frame) → Begins t k ws (length fs) r a → r ≡ Ok b → c' ≡ copied fs a.cells b.at →
    Performs (call_of k ws fs) t (made_is (Ok b.word)) (with_cells a c')
frames-put {a = a} {b = b} fs g e w =
    let p = g.begun b e in
    rw w (p.once fs (copied fs a.cells b.at) refl (copied-put fs a.cells b.at p.room))
