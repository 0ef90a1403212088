-- The traced words of the object in a slot, by its header's kind.
use mathlib.Core.Path.{◌≡◌}
use mathlib.Core.Logic.{◌≢◌}
use mathlib.Core.Bool.{cond}
use mathlib.Core.List.{List, [], ◌∷◌}
use Prim.Native.Nat.{ℕ, ◌+◌, ◌-◌, ◌*◌, ◌≤◌, ◌<◌}
use native.Mathlib.Omega.{arith}
use native.Mathlib.Decide.{ℕ_discrete}
use lib.ListN.{length, take, drop, length-drop}
use lib.Seq.{take-take, length-take-le}
use Rattle.heap_slots.specs.Header.{header_at, scalars_at}
use Rattle.heap_slots.specs.declared.Header.{Header}
use Rattle.heap_slots.specs.Scalars.{coroutine_part, iterator_part, map_part}
use Rattle.heap_slots.specs.declared.CoroutineScalars.{CoroutineScalars}
use Rattle.heap_slots.specs.declared.IteratorScalars.{IteratorScalars}
use Rattle.heap_slots.specs.declared.MapScalars.{MapScalars}
use Rattle.heap_cells.specs.Regions.{raw_at, raw_of, region_of}
use Rattle.layout.specs.Layout.{Layout, is_traced, fields_of, captures_of}
use Rattle.map_store.specs.View.{entries_in}
use Rattle.model.specs.Content.{traced, word_if, words_at, traced_by_type, entry_words, key_word, frame_words}
use Rattle.heap.specs.Kinds as Kinds
use Rattle.heap.specs.Kinds.{perhaps, frames_in, content_of}
use Rattle.heap.specs.Good.{SlotGood}
use Rattle.heap.proofs.GoodLaws.{holds_as}
use Rattle.collector_marking.specs.Children.{children}
use Rattle.collector_marking.specs.Marks.{Sound, Present}
use Rattle.collector_marking.proofs.Traced.{part_of}

-- what holds of the slot, its header read
module _ (s x c : List ℕ) (n i : ℕ) {h : Header} (q : h ≡ header_at s i) (g : Sound s x c n) (p : Present s n i) where
  pub region-inside : h.start + h.size ≤ length c
  region-inside = rw q (g.inside i p.low)

  pub slot-good : SlotGood (raw_of h (region_of h c)) (scalars_at x i)
  unfolding raw_at
  slot-good = rw q (g.each i p.low)

  pub region-length : length (take ((h.start + h.size) - h.start) (drop h.start c)) ≡ h.size
  region-length = rw (part_of h.start h.size c) (length-take-le h.size (drop h.start c) (omega (arith, length-drop h.start c, region-inside)))

  pub items-inside : h.len ≤ h.size → h.start + h.len ≤ length c
  items-inside f = omega (arith, region-inside)

  pub array-inside : h.kind ≡ 6 → h.len ≤ h.size
  array-inside e = holds_as 6 e slot-good

  pub struct-inside : h.kind ≡ 8 → h.len ≤ h.size
  struct-inside e = omega (arith, holds_as 8 e slot-good)

  pub function-inside : h.kind ≡ 9 → h.len ≤ h.size
  function-inside e = omega (arith, holds_as 9 e slot-good)

  pub entries-inside : h.kind ≡ 7 → h.len * 5 ≤ length (take ((h.start + h.size) - h.start) (drop h.start c))
  entries-inside e = let m = holds_as 7 e slot-good in let f : h.len ≤ h.value = m.0.fits in omega (arith, region-length, m.1)

  pub frames-inside : {y : CoroutineScalars} → y ≡ coroutine_part (scalars_at x i) → h.kind ≡ 11 → length (take ((h.start + h.size) - h.start) (drop h.start c)) ≡ h.len + 4 * y.frames
  frames-inside {y} z e = let m : h.size ≡ h.len + 4 * y.frames = rw z (holds_as 11 e slot-good) in omega (arith, region-length, m)

  pub kind_range : (h.kind ≢ 0) × (h.kind ≤ 11)
  kind_range = (rw q p.held, slot-good.kind)

module _ (l : Layout) (s x c : List ℕ) (i : ℕ) {h : Header} (q : h ≡ header_at s i) where
  abbrev region : List ℕ
  region = take ((h.start + h.size) - h.start) (drop h.start c)

  pub kids_cell : h.kind ≡ 3 → children l s x c i ≡ word_if (is_traced h.mode) h.value
  unfolding children content_of traced raw_at
  kids_cell e = rw (← q, e)

  pub kids_error : h.kind ≡ 4 → children l s x c i ≡ h.value ∷ []
  unfolding children content_of traced raw_at
  kids_error e = rw (← q, e)

  pub kids_box : h.kind ≡ 5 → children l s x c i ≡ h.value ∷ []
  unfolding children content_of traced raw_at
  kids_box e = rw (← q, e)

  pub kids_array : h.kind ≡ 6 → h.len ≤ h.size → children l s x c i ≡ cond (is_traced h.mode) (take ((h.start + h.len) - h.start) (drop h.start c)) []
  unfolding children content_of traced raw_at
  kids_array e f = rw (← q, e, take-take h.len h.size (drop h.start c) f, part_of h.start h.len c)

  pub kids_map : {y : MapScalars} → y ≡ map_part (scalars_at x i) → h.kind ≡ 7 → children l s x c i ≡ entry_words (is_traced y.keys) (is_traced y.values) (entries_in region 0 h.len)
  unfolding children content_of traced raw_at
  kids_map z e = rw (← q, z, e, part_of h.start h.size c)

  pub kids_struct : h.kind ≡ 8 → h.len ≤ h.size → children l s x c i ≡ words_at (fields_of l h.value) (take ((h.start + h.len) - h.start) (drop h.start c))
  unfolding children content_of traced raw_at
  kids_struct e f = rw (← q, e, take-take h.len h.size (drop h.start c) f, part_of h.start h.len c)

  pub kids_function : h.kind ≡ 9 → h.len ≤ h.size → children l s x c i ≡ cond (Kinds.yes h.mode) [] (traced_by_type (captures_of l h.value) (take ((h.start + h.len) - h.start) (drop h.start c)))
  unfolding children content_of traced raw_at
  kids_function e f = rw (← q, e, take-take h.len h.size (drop h.start c) f, part_of h.start h.len c)

  pub kids_iterator : {y : IteratorScalars} → y ≡ iterator_part (scalars_at x i) → h.kind ≡ 10 → children l s x c i ≡ h.value ∷ key_word (is_traced h.mode) (perhaps y.keyed y.key)
  unfolding children content_of traced raw_at
  kids_iterator z e = rw (← q, z, e)

  pub kids_coroutine : {y : CoroutineScalars} → y ≡ coroutine_part (scalars_at x i) → h.kind ≡ 11 → children l s x c i ≡ y.payload ∷ y.key ∷ y.result ∷ y.signal ∷ frame_words l (take h.len region) (frames_in (drop h.len region) 0 y.frames)
  unfolding children content_of traced raw_at
  kids_coroutine z e = rw (← q, z, e, part_of h.start h.size c)

  pub kids_string : h.kind ≡ 1 → children l s x c i ≡ []
  unfolding children content_of traced raw_at
  kids_string e = rw (← q, e)

  pub kids_integer : h.kind ≡ 2 → children l s x c i ≡ []
  unfolding children content_of traced raw_at
  kids_integer e = rw (← q, e)

  pub kids_none : (h.kind ≢ 0) → h.kind < 3 → children l s x c i ≡ []
  kids_none z b = go (ℕ_discrete h.kind 1)
    where
      go : Dec (h.kind ≡ 1) → children l s x c i ≡ []
      go (yes e) = kids_string e
      go (no e) = kids_integer (omega arith)

-- no kind stands between 6 and 11 but those
pub no_kind : (k : ℕ) → 6 ≤ k → k ≤ 11 → (k ≡ 6 → ⊥) → (k ≡ 7 → ⊥) → (k ≡ 8 → ⊥) → (k ≡ 9 → ⊥) → (k ≡ 10 → ⊥) → (k ≡ 11 → ⊥) → ⊥
no_kind k a b n6 n7 n8 n9 n10 n11 = past_9 k (past_7 k a n6 n7) b n8 n9 n10 n11
  where
    past_7 : (k : ℕ) → 6 ≤ k → (k ≡ 6 → ⊥) → (k ≡ 7 → ⊥) → 8 ≤ k
    past_7 k a x y = omega arith

    past_9 : (k : ℕ) → 8 ≤ k → k ≤ 11 → (k ≡ 8 → ⊥) → (k ≡ 9 → ⊥) → (k ≡ 10 → ⊥) → (k ≡ 11 → ⊥) → ⊥
    past_9 k a b x y z w = omega arith

pub kids_held : (l : Layout) (s x c : List ℕ) (i : ℕ) {h : Header} → h ≡ header_at s i → 4 ≤ h.kind → h.kind < 6 → children l s x c i ≡ h.value ∷ []
kids_held l s x c i {h} q a b = go (ℕ_discrete h.kind 4)
  where
    go : Dec (h.kind ≡ 4) → children l s x c i ≡ h.value ∷ []
    go (yes e) = kids_error l s x c i q e
    go (no e) = kids_box l s x c i q (omega arith)
