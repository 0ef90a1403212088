-- Slots with their cells, one store at a time. Assumes nothing.
use Prim.Native.Nat.{ℕ, ◌+◌, ◌*◌, ◌≤◌, ◌<◌}
use mathlib.Core.Path.{◌≡◌, ap, sym, ◌∙◌}
use mathlib.Core.Logic.{◌⊎◌, inl, inr}
use mathlib.Core.List.{List}
use native.Mathlib.Omega.{arith}
use lib.ListN.{length, get_or, set, take, drop, length-set, length-take, length-drop}
use lib.Seq.{get_or-set_other, get_or-take, get_or-drop, ext_get_or, drop-set-add, take-set-lt}
use Rattle.heap_slots.specs.Limits.{SLOT_WORDS}
use Rattle.heap_slots.specs.Header.{header_at, set_header, with_value, with_mode, with_len}
use Rattle.heap_slots.specs.declared.Header.{Header}
use Rattle.heap_slots.proofs.Cases.{by_cases, same_or_not, lt_or_le}
use Rattle.heap_slots.proofs.HeaderLaws.{header_at-same, header_at-other, store_other, store-value, store-mode, store-len}
use Rattle.heap_cells.specs.Regions.{raw_of, region_of, raw_at, Laid}

-- ---- regions

pub part_ext : (c c' : List ℕ) (at at' n : ℕ) → at + n ≤ length c → at' + n ≤ length c' → ((r : ℕ) → r < n → get_or c' (at' + r) 0 ≡ get_or c (at + r) 0) → take n (drop at' c') ≡ take n (drop at c)
part_ext c c' at at' n l l' h =
    let e : length (take n (drop at c)) ≡ n = simp (length-take, length-drop) (omega arith) in
    let e' : length (take n (drop at' c')) ≡ n = simp (length-take, length-drop) (omega arith) in
    ext_get_or 0 (take n (drop at' c')) (take n (drop at c)) (e' ∙ sym e)
    (λ r lr.
    let rn : r < n = omega arith in
    get_or-take n (drop at' c') r 0 rn ∙ get_or-drop at' c' r 0 ∙ h r rn ∙ sym (get_or-take n (drop at c) r 0 rn ∙ get_or-drop at c r 0))

pub region-length : (h : Header) (c : List ℕ) → h.start + h.size ≤ length c → length (region_of h c) ≡ h.size
region-length h c l = simp (length-take, length-drop) (omega arith)

pub region-get : (h : Header) (c : List ℕ) (k : ℕ) → k < h.size → get_or (region_of h c) k 0 ≡ get_or c (h.start + k) 0
region-get h c k l = get_or-take h.size (drop h.start c) k 0 l ∙ get_or-drop h.start c k 0

pub region-set : (h : Header) (c : List ℕ) (k v : ℕ) → k < h.size → region_of h (set c (h.start + k) v) ≡ set (region_of h c) k v
region-set h c k v l = ap (take h.size) (drop-set-add h.start c k v) ∙ take-set-lt h.size (drop h.start c) k v l

-- regions of two slots do not meet, by the directory's order
pub laid-apart : {n top m : ℕ} {s dir c : List ℕ} → Laid n top m s dir c → (i j : ℕ) → i < n → j < n → (j ≡ i → ⊥) → ((header_at s i).size ≡ 0 → ⊥) → ((header_at s j).size ≡ 0 → ⊥)
    → ((header_at s i).start + (header_at s i).size ≤ (header_at s j).start) ⊎ ((header_at s j).start + (header_at s j).size ≤ (header_at s i).start)
laid-apart {s = s} {dir = dir} g i j li lj ne zi zj =
    let a = g.listed i li zi in
    let b = g.listed j lj zj in
    by_cases (lt_or_le (header_at s i).entry (header_at s j).entry)
    (λ lt. inl (g.ordered i j li lj zi zj lt))
    (λ le.
    let nd : (header_at s j).entry ≡ (header_at s i).entry → ⊥ = λ e. ne (sym b.1 ∙ ap (λ (q : ℕ). get_or dir q 0) e ∙ a.1) in
    inr (g.ordered j i lj li zj zi (omega arith)))

-- ---- a header stored

pub raw_same : (s c : List ℕ) (i : ℕ) (h : Header) → i * SLOT_WORDS + SLOT_WORDS ≤ length s → raw_at (set_header s i h) c i ≡ raw_of h (region_of h c)
unfolding raw_at
raw_same s c i h fits = ap (λ (q : Header). raw_of q (region_of q c)) (header_at-same s i h fits)

-- a slot whose header stays
pub raw-kept : (s s' c : List ℕ) (j : ℕ) → header_at s' j ≡ header_at s j → raw_at s' c j ≡ raw_at s c j
unfolding raw_at
raw-kept s s' c j e = ap (λ (q : Header). raw_of q (region_of q c)) e

pub raw-other : (s c : List ℕ) (i j : ℕ) (h : Header) → (j ≡ i → ⊥) → raw_at (set_header s i h) c j ≡ raw_at s c j
raw-other s c i j h ne = raw-kept s (set_header s i h) c j (header_at-other s i j h ne)

-- one word of a header stored
pub raw-word-other : (s c : List ℕ) (i j k v : ℕ) → k < SLOT_WORDS → (j ≡ i → ⊥) → raw_at (set s (i * SLOT_WORDS + k) v) c j ≡ raw_at s c j
raw-word-other s c i j k v lk ne = raw-kept s (set s (i * SLOT_WORDS + k) v) c j (store_other s i j k v lk ne)

pub raw-value : (s c : List ℕ) (i v : ℕ) → i * SLOT_WORDS + SLOT_WORDS ≤ length s → raw_at (set s (i * SLOT_WORDS + 2) v) c i ≡ raw_of (with_value (header_at s i) v) (region_of (header_at s i) c)
unfolding raw_at
raw-value s c i v fits = ap (λ (q : Header). raw_of q (region_of q c)) (store-value s i v fits)

pub raw-mode : (s c : List ℕ) (i v : ℕ) → i * SLOT_WORDS + SLOT_WORDS ≤ length s → raw_at (set s (i * SLOT_WORDS + 3) v) c i ≡ raw_of (with_mode (header_at s i) v) (region_of (header_at s i) c)
unfolding raw_at
raw-mode s c i v fits = ap (λ (q : Header). raw_of q (region_of q c)) (store-mode s i v fits)

pub raw-len : (s c : List ℕ) (i v : ℕ) → i * SLOT_WORDS + SLOT_WORDS ≤ length s → raw_at (set s (i * SLOT_WORDS + 4) v) c i ≡ raw_of (with_len (header_at s i) v) (region_of (header_at s i) c)
unfolding raw_at
raw-len s c i v fits = ap (λ (q : Header). raw_of q (region_of q c)) (store-len s i v fits)

-- ---- cells stored

module _ {n top m : ℕ} {s dir c : List ℕ} (g : Laid n top m s dir c) where
  -- cells of another length have the same regions laid
  pub laid_cells : (c' : List ℕ) → length c' ≡ length c → Laid n top m s dir c'
  laid_cells c' l =
      record {
        slots_max = g.slots_max;
        slots_fit = g.slots_fit;
        cells_max = omega (arith, g.cells_max);
        dir_fits = g.dir_fits;
        dir_max = g.dir_max;
        top_fits = omega (arith, g.top_fits);
        inside = λ j lj. omega (arith, g.inside j lj);
        below = g.below;
        listed = g.listed;
        ordered = g.ordered;
      }

  -- a region none of whose cells changed
  pub raw-cells-kept : (c' : List ℕ) → length c' ≡ length c → (j : ℕ) → j < n → ((q : ℕ) → (header_at s j).start ≤ q → q < (header_at s j).start + (header_at s j).size → get_or c' q 0 ≡ get_or c q 0) → raw_at s c' j ≡ raw_at s c j
  unfolding raw_at
  raw-cells-kept c' l j lj h =
      ap (raw_of (header_at s j))
      (part_ext c c' (header_at s j).start (header_at s j).start (header_at s j).size (g.inside j lj) (omega (arith, g.inside j lj))
      (λ r lr. h ((header_at s j).start + r) (omega arith) (omega arith)))

  -- cells at the top and above it belong to nobody
  pub raw_above : (c' : List ℕ) → length c' ≡ length c → ((q : ℕ) → q < top → get_or c' q 0 ≡ get_or c q 0) → (j : ℕ) → j < n → raw_at s c' j ≡ raw_at s c j
  raw_above c' l h j lj = raw-cells-kept c' l j lj (λ q a b. h q (omega (arith, g.below j lj (omega arith))))

  -- cells changed in the region of slot i alone
  pub raw-region : (c' : List ℕ) (i : ℕ) → i < n → length c' ≡ length c → ((q : ℕ) → (q < (header_at s i).start) ⊎ ((header_at s i).start + (header_at s i).size ≤ q) → get_or c' q 0 ≡ get_or c q 0)
      → (j : ℕ) → j < n → (j ≡ i → ⊥) → raw_at s c' j ≡ raw_at s c j
  raw-region c' i li l h j lj ne =
      raw-cells-kept c' l j lj
      (λ q a b.
      h q
      (by_cases (same_or_not (header_at s i).size 0)
      (λ z. by_cases (lt_or_le q (header_at s i).start) (λ lt. inl lt) (λ ge. inr (omega arith)))
      (λ nz. by_cases (laid-apart g i j li lj ne nz (omega arith)) (λ x. inr (omega arith)) (λ y. inl (omega arith)))))

  -- one cell of the region of slot i stored
  pub raw-cell-other : (i k v : ℕ) → i < n → k < (header_at s i).size → (j : ℕ) → j < n → (j ≡ i → ⊥) → raw_at s (set c ((header_at s i).start + k) v) j ≡ raw_at s c j
  raw-cell-other i k v li lk =
      raw-region (set c ((header_at s i).start + k) v) i li (length-set c ((header_at s i).start + k) v)
      (λ q w. get_or-set_other c ((header_at s i).start + k) q v 0 (by_cases w (λ a. omega arith) (λ b. omega arith)))

pub raw-cell : (s c : List ℕ) (i k v : ℕ) → k < (header_at s i).size → raw_at s (set c ((header_at s i).start + k) v) i ≡ raw_of (header_at s i) (set (region_of (header_at s i) c) k v)
unfolding raw_at
raw-cell s c i k v lk = ap (raw_of (header_at s i)) (region-set (header_at s i) c k v lk)
