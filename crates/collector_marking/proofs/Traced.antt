-- The traced words of each kind, one after another.
use mathlib.Core.Path.{◌≡◌, refl}
use mathlib.Core.Bool.{Bool, cond}
use mathlib.Core.List.{List, [], ◌∷◌, ◌++◌, map}
use Prim.Native.Nat.{ℕ, suc, ◌+◌, ◌-◌, ◌*◌, ◌≤◌, ◌<◌}
use native.Mathlib.Omega.{arith}
use native.Mathlib.Numerals.{add-one}
use lib.Dec.{ltb}
use lib.ListN.{length, get_or, take, drop, length-drop, drop_of_length-le}
use lib.Seq.{drop-cons, take_all}
use borrow.Author.Tests.{lt-ltb, le-ltb, le-leb, lt-leb, eq-eqb, ne_eqb}
use Rattle.layout.specs.Layout.{Layout, is_traced, registers_of}
use Rattle.map_store.specs.View.{entry_at, entries_in}
use Rattle.map_store.specs.Entries.{entries_rest, entries_none}
use Rattle.model.specs.Content.{word_if, words_at, traced_by_type, entry_words, key_word, frame_words}
use Rattle.heap.specs.Kinds.{yes, perhaps, frame_at, frames_in}
use Rattle.collector_marking.specs.Children.{live_words, one_frame}

-- a number counted down from n at 0
pub from_zero : (n : ℕ) → n - 0 ≡ n
from_zero n = omega arith

module _ (ty w : ℕ) where
  pub typed_word : 1 ≤ ty → word_if (is_traced ty) w ≡ w ∷ []
  unfolding word_if
  typed_word h = rw (le-leb 1 ty h)

  pub typed_none : ty < 1 → word_if (is_traced ty) w ≡ []
  unfolding word_if
  typed_none h = rw (lt-leb 1 ty h)

module _ (ws : List ℕ) (i : ℕ) where
  pub words-front : i < length ws → drop i ws ≡ (get_or ws i 0 ∷ []) ++ drop (i + 1) ws
  words-front h = rw (add-one, drop-cons ws i 0 h)

  pub words-end : length ws ≤ i → drop i ws ≡ []
  words-end h = drop_of_length-le ws h

-- an array's items, a function object's captures
pub items-traced : (ty : ℕ) (ws : List ℕ) → 1 ≤ ty → cond (is_traced ty) ws [] ≡ ws
items-traced ty ws h = rw (le-leb 1 ty h)

pub items_plain : (ty : ℕ) (ws : List ℕ) → ty < 1 → cond (is_traced ty) ws [] ≡ []
items_plain ty ws h = rw (lt-leb 1 ty h)

pub import_captures : (import : ℕ) (ws : List ℕ) → (import ≡ 0 → ⊥) → cond (yes import) [] ws ≡ []
import_captures import ws h = rw (ne_eqb import 0 h)

-- ---- maps

module _ (k v : Bool) (cells : List ℕ) (p : ℕ) where
  pub entry-dead : (get_or cells (p * 5 + 4) 0 ≡ 1 → ⊥) → live_words k v (entry_at cells p) ≡ []
  unfolding entry_at word_if
  entry-dead h = rw (ne_eqb (get_or cells (p * 5 + 4) 0) 1 h)

  pub entry-live : get_or cells (p * 5 + 4) 0 ≡ 1 → live_words k v (entry_at cells p) ≡ word_if k (get_or cells (p * 5 + 1) 0) ++ word_if v (get_or cells (p * 5 + 2) 0)
  unfolding entry_at
  entry-live h = rw (eq-eqb (get_or cells (p * 5 + 4) 0) 1 h)

  pub entries-front : (n : ℕ) → p < n → entry_words k v (entries_in cells p (n - p)) ≡ live_words k v (entry_at cells p) ++ entry_words k v (entries_in cells (p + 1) (n - (p + 1)))
  unfolding entry_words
  entries-front n h = rw (entries_rest cells p n h)

  pub entries-end : (n : ℕ) → n ≤ p → entry_words k v (entries_in cells p (n - p)) ≡ []
  unfolding entry_words
  entries-end n h = rw (entries_none cells p n h)

-- ---- listed positions

module _ (ws : List ℕ) (base n : ℕ) where
  pub at_out : length ws ≤ base + n → word_if (ltb (base + n) (length ws)) (get_or ws (base + n) 0) ≡ []
  unfolding word_if
  at_out h = rw (le-ltb (base + n) (length ws) h)

  pub at_in : {v : ℕ} → base + n < length ws → v ≡ get_or ws (base + n) 0 → word_if (ltb (base + n) (length ws)) (get_or ws (base + n) 0) ≡ v ∷ []
  unfolding word_if
  at_in h e = rw (lt-ltb (base + n) (length ws) h, e)

  pub register-front : {ns rest : List ℕ} → ns ≡ n ∷ rest → words_at (map (λ m. base + m) ns) ws ≡ word_if (ltb (base + n) (length ws)) (get_or ws (base + n) 0) ++ words_at (map (λ m. base + m) rest) ws
  unfolding words_at
  register-front e = rw e

pub field-front : (ws : List ℕ) (n : ℕ) {ns rest : List ℕ} → ns ≡ n ∷ rest → words_at ns ws ≡ word_if (ltb (0 + n) (length ws)) (get_or ws (0 + n) 0) ++ words_at rest ws
unfolding words_at
field-front ws n e = let z : 0 + n ≡ n = omega arith in rw (e, z)

pub picked_end : (ws : List ℕ) {ns : List ℕ} → ns ≡ [] → words_at ns ws ≡ []
unfolding words_at
picked_end ws e = rw e

pub registers-end : (ws : List ℕ) (base : ℕ) {ns : List ℕ} → ns ≡ [] → words_at (map (λ m. base + m) ns) ws ≡ []
unfolding words_at
registers-end ws base e = rw e

module _ (ws : List ℕ) (j : ℕ) where
  pub capture-front : (t : ℕ) {ts rest : List ℕ} → j < length ws → ts ≡ t ∷ rest → traced_by_type ts (drop j ws) ≡ word_if (is_traced t) (get_or ws j 0) ++ traced_by_type rest (drop (j + 1) ws)
  unfolding traced_by_type
  capture-front t h e = rw (e, add-one, drop-cons ws j 0 h)

  pub capture-short : (ts : List ℕ) → length ws ≤ j → traced_by_type ts (drop j ws) ≡ []
  capture-short ts h = rw (drop_of_length-le ws h) (go ts)
    where
      go : (ts : List ℕ) → traced_by_type ts [] ≡ []
      go [] = unfold traced_by_type in refl
      go (t ∷ ts) = unfold traced_by_type in refl

  pub capture-end : {ts : List ℕ} → ts ≡ [] → traced_by_type ts (drop j ws) ≡ []
  unfolding traced_by_type
  capture-end e = rw e

-- ---- frames

module _ (l : Layout) (rs fs : List ℕ) (j n : ℕ) where
  pub frames-front : j < n → frame_words l rs (frames_in fs j (n - j)) ≡ one_frame l rs (frame_at fs j) ++ frame_words l rs (frames_in fs (j + 1) (n - (j + 1)))
  unfolding frame_words frames_in
  frames-front h = let e : n - j ≡ suc (n - suc j) = omega arith in rw (add-one, e)

  pub frames-end : n ≤ j → frame_words l rs (frames_in fs j (n - j)) ≡ []
  unfolding frame_words frames_in
  frames-end h = let e : n - j ≡ 0 = omega arith in rw e

pub frame-whole : (l : Layout) (rs fs : List ℕ) (j : ℕ) {ns : List ℕ} → ns ≡ registers_of l (frame_at fs j).function →
    one_frame l rs (frame_at fs j) ≡ (get_or fs (j * 4 + 3) 0 ∷ []) ++ words_at (map (λ n. get_or fs (j * 4 + 2) 0 + n) ns) rs
frame-whole l rs fs j e = rw e

-- ---- iterators

module _ (source : ℕ) (t : Bool) (known key : ℕ) where
  pub key-unknown : known ≡ 0 → source ∷ key_word t (perhaps known key) ≡ source ∷ []
  unfolding key_word
  key-unknown e = rw (eq-eqb known 0 e)

  pub key_known : (known ≡ 0 → ⊥) → source ∷ key_word t (perhaps known key) ≡ source ∷ word_if t key
  unfolding key_word
  key_known e = rw (ne_eqb known 0 e)

-- ---- parts of the cells

pub part-rest : (n : ℕ) (c : List ℕ) → take (length c - n) (drop n c) ≡ drop n c
part-rest n c = take_all (length c - n) (drop n c) (omega (arith, length-drop n c))

pub part_of : (a n : ℕ) (c : List ℕ) → take ((a + n) - a) (drop a c) ≡ take n (drop a c)
part_of a n c = let e : (a + n) - a ≡ n = omega arith in rw e
