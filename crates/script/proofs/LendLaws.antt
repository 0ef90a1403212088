-- The memory lent to a call. Assumes nothing.
use Prim.Native.Nat.{ℕ, ◌+◌, ◌-◌, ◌≤◌, ◌<◌}
use mathlib.Core.Path.{◌≡◌, refl, sym, ap, ◌∙◌}
use mathlib.Core.List.{List, [], ◌∷◌, ◌++◌}
use native.Mathlib.Omega.{arith}
use native.Mathlib.Numerals.{add-one}
use lib.ListN.{length, set, take, drop, replicate, length-append, length-drop, length-set}
use lib.Seq.{take-suc-set, take_at}
use Rattle.model.specs.Callsheet.{sheet_opening}
use Rattle.model.specs.Opening.{opened}
use Rattle.commands.specs.declared.Operands.{Operands}
use Rattle.script.specs.declared.Command.{Command}
use Rattle.script.specs.Parse.{Called}
use Rattle.script.specs.Reads.{called_as}
use Rattle.script.specs.Replay.{Play, bytes_for, frames_for, numbered, places_for, words_for}
use Rattle.script.specs.Turns.{Fronts, LendsWords}
use Rattle.commands.specs.declared.Memory.{Memory}
use Rattle.commands.specs.declared.Memory.TheVariants.{Own, Buffer, Places, Roots}

-- ---- a list's front, filled one place after another

module _ (l front : List ℕ) (i : ℕ) (h : i < length l) (e : take i l ≡ front) where
  more : (x : ℕ) → take (i + 1) (set l i x) ≡ front ++ (x ∷ [])
  more x = rw (add-one i) (take-suc-set l i x h ∙ ap (λ (f : List ℕ). f ++ (x ∷ [])) e)

pub numbered_more : (l : List ℕ) (i : ℕ) → i < length l → take i l ≡ numbered i → take (i + 1) (set l i (0xAAAAAAAAAAAA0000 + i)) ≡ numbered (i + 1)
unfolding numbered
numbered_more l i h e = more l (numbered i) i h e (0xAAAAAAAAAAAA0000 + i) ∙ rw (add-one i)

pub numbered-none : (l : List ℕ) → take 0 l ≡ numbered 0
unfolding numbered
numbered-none l = refl

-- the front of a list that is filled up to i, as its definition says
pub record Filling (f : ℕ → List ℕ) (old : List ℕ) (n : ℕ) (new : List ℕ) (i : ℕ) : Type 0 where
  pub front : take i new ≡ f i
  pub inside : i ≤ n
  pub room : n ≤ length old
  pub size : length new ≡ length old

pub filling_step : {f : ℕ → List ℕ} {old new : List ℕ} {n i : ℕ} (x : ℕ) → Filling f old n new i → i < n → (i < length new → take i new ≡ f i → take (i + 1) (set new i x) ≡ f (i + 1)) → Filling f old n (set new i x) (i + 1)
filling_step {new = new} {i = i} x g h k = record {
  front = k (omega (arith, g.room, g.size)) g.front;
  inside = omega arith;
  room = g.room;
  size = length-set new i x ∙ g.size;
}

pub filling_end : {f : ℕ → List ℕ} {old new : List ℕ} {n i : ℕ} → Filling f old n new i → n ≤ i → Fronts (f n) old n new
filling_end {new = new} {n = n} {i = i} g h =
    let e : i ≡ n = omega (arith, g.inside) in
    record { size = g.size; inside = omega (arith, g.room, g.size); front = rw e at g.front }

-- ---- the lists that a command is given

words_early : (m : Memory) (p : Play) (c : Called) → (m ≡ Roots → ⊥) → (words_for m p c ≡ c.words) × (frames_for m c ≡ c.frames)
unfolding words_for frames_for
words_early Own p c h = (refl, refl)
words_early Buffer p c h = (refl, refl)
words_early Places p c h = (refl, refl)
words_early Roots p c h = absurd (h refl)

-- a command's own words, as they were read
pub lends_own : (m : Memory) (p : Play) (input words : List ℕ) (k : Command) → (m ≡ Roots → ⊥) → k.words + k.frames ≤ length words →
    LendsWords (words_for m p (called_as input words k)) (frames_for m (called_as input words k)) words k.words (k.words + k.frames) words
lends_own m p input words k h l =
    let z : k.words + k.frames - k.words ≡ k.frames = omega arith in
    let w = words_early m p (called_as input words k) h in
    record { size = refl; order = omega arith; inside = l; words = sym w.0; frames = rw z (sym w.1) }

pub lends_roots : (m : Memory) (p : Play) (c : Called) {roots old new : List ℕ} → p.roots ≡ roots → m ≡ Roots → Fronts roots old (length roots) new →
    LendsWords (words_for m p c) (frames_for m c) old (length roots) (length roots) new
unfolding words_for frames_for
lends_roots m p c {roots} e h f =
    let z : length roots - length roots ≡ 0 = omega arith in
    rw h record { size = f.size; order = omega arith; inside = f.inside; words = f.front ∙ sym e; frames = rw z }

bytes_early : (m : Memory) (c : Called) → (m ≡ Buffer → ⊥) → bytes_for m c ≡ c.bytes
unfolding bytes_for
bytes_early Own c h = refl
bytes_early Buffer c h = absurd (h refl)
bytes_early Places c h = refl
bytes_early Roots c h = refl

pub lends_bytes : (m : Memory) (c : Called) {bs old new : List ℕ} {r : ℕ} → (m ≡ Buffer → ⊥) → c.bytes ≡ bs → Fronts bs old r new → Fronts (bytes_for m c) old r new
lends_bytes m c h e f = rw (bytes_early m c h, e) f

pub lends_buffer : (m : Memory) (c : Called) {o : Operands} {old new : List ℕ} {r : ℕ} → m ≡ Buffer → c.operands ≡ o → Fronts (replicate o.b 0xEE) old r new → Fronts (bytes_for m c) old r new
unfolding bytes_for
lends_buffer m c h e f = rw (h, e) f

-- the first n places are filled at once
pub fronts : (ws old : List ℕ) (n : ℕ) {part : List ℕ} → n ≤ length old → length part ≡ n → part ≡ ws → Fronts ws old n (part ++ drop n old)
fronts ws old n {part} h l e = record {
  size = length-append part (drop n old) ∙ omega (arith, l, length-drop n old);
  inside = omega (arith, length-append part (drop n old), l, length-drop n old);
  front = take_at part (drop n old) n l ∙ e;
}

-- some play has a table of the size, so that the count says itself that it is small
pub few_places : (m : Memory) (o : Operands) {size n : ℕ} → ((p : Play) → p.heap.table.size ≡ size → n ≡ places_for m p o) → (m ≡ Places → o.a ≤ 65536) → size ≤ 65536 → n ≤ 65536
unfolding places_for opened
few_places m o {size} {n} k few l = go m refl
  where
    play : Play
    play = record { heap = opened record { slots = size; cells = 0; limit = 0; weights = sheet_opening.weights; layout = [] } record { structs = []; functions = [] }; roots = [] }

    go : (a : Memory) → m ≡ a → n ≤ 65536
    go Own e = omega (arith, rw e at (k play refl))
    go Buffer e = omega (arith, rw e at (k play refl))
    go Places e = omega (arith, rw e at (k play refl), few e)
    go Roots e = omega (arith, rw e at (k play refl), l)
