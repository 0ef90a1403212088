-- The single writes to one object: its header, its scalars, its region, and the growth of its region. Assumes nothing.
use Prim.Native.Nat.{ℕ, ◌+◌, ◌*◌, ◌≤◌, ◌<◌}
use mathlib.Core.Path.{◌≡◌, refl, ap, ◌∙◌}
use mathlib.Core.Logic.{◌⊎◌}
use mathlib.Core.List.{List}
use native.Mathlib.Omega.{arith}
use lib.ListN.{length, get_or, set, length-set}
use lib.Seq.{get_or-set_other}
use Rattle.heap_slots.specs.Limits.{SLOT_WORDS}
use Rattle.account.specs.declared.Account.{Account}
use Rattle.heap_slots.specs.Header.{header_at, scalars_at, set_header, set_scalars, with_scalar, with_words}
use Rattle.heap_slots.specs.declared.Header.{Header}
use Rattle.heap_slots.specs.declared.Scalars.{Scalars}
use Rattle.heap_slots.proofs.Cases.{by_cases, same_or_not}
use Rattle.heap_slots.proofs.HeaderLaws.{header_at-other, header_at-same, length-set_header, length-set_scalars, scalars_at-other, scalars_at-same, store-len, store-mode, store_other, store_scalar, store_scalar_other, store-value}
use Rattle.heap_cells.specs.Regions.{Grown, raw_at, region_of}
use Rattle.heap_cells.specs.Regions as Regions
use Rattle.heap_cells.specs.declared.Top.{Top}
use Rattle.heap_cells.proofs.RawLaws.{laid_cells, raw-region}
use Rattle.heap_cells.proofs.RawLaws as Cells
use Rattle.heap_cells.proofs.LaidLaws.{laid_regions}
use Rattle.heap.specs.declared.Heap.{Heap}
use Rattle.heap.specs.State.{State, raw_of, with_cells, with_heap, with_moved, with_regions, with_scalars, with_slots}
use Rattle.heap.proofs.KindLaws.{raw_cells, raw_grown, raw_words}
use Rattle.heap.proofs.TouchLaws.{Touched}

-- ---- what is written

-- a header with other words of the kind's own
abbrev pub own_words : Header → ℕ → ℕ → ℕ → Header
own_words h value mode len = with_words h value mode len

-- the kind's own words of slot i's header
pub record OwnWords (s s' : List ℕ) (i value mode len : ℕ) : Type 0 where
  pub same_length : length s' ≡ length s
  pub here : header_at s' i ≡ own_words (header_at s i) value mode len
  pub others : (j : ℕ) → (j ≡ i → ⊥) → header_at s' j ≡ header_at s j

-- the scalars of slot i
pub record OwnScalars (x x' : List ℕ) (i : ℕ) (y : Scalars) : Type 0 where
  pub same_length : length x' ≡ length x
  pub here : scalars_at x' i ≡ y
  pub others : (j : ℕ) → (j ≡ i → ⊥) → scalars_at x' j ≡ scalars_at x j

-- cells of the region from `from` on, n long
pub record OwnCells (c c' : List ℕ) (from n : ℕ) : Type 0 where
  pub same_length : length c' ≡ length c
  pub outside : (q : ℕ) → (q < from) ⊎ (from + n ≤ q) → get_or c' q 0 ≡ get_or c q 0

module _ {s s' : List ℕ} {i : ℕ} (fits : i * SLOT_WORDS + SLOT_WORDS ≤ length s) where
  pub own_value : {v : ℕ} → s' ≡ set s (i * SLOT_WORDS + 2) v → OwnWords s s' i v (header_at s i).mode (header_at s i).len
  own_value {v} e = rw e record { same_length = length-set s (i * SLOT_WORDS + 2) v; here = store-value s i v fits; others = λ j ne. store_other s i j 2 v (omega arith) ne }

  pub own-mode : {v : ℕ} → s' ≡ set s (i * SLOT_WORDS + 3) v → OwnWords s s' i (header_at s i).value v (header_at s i).len
  own-mode {v} e = rw e record { same_length = length-set s (i * SLOT_WORDS + 3) v; here = store-mode s i v fits; others = λ j ne. store_other s i j 3 v (omega arith) ne }

  pub own-len : {v : ℕ} → s' ≡ set s (i * SLOT_WORDS + 4) v → OwnWords s s' i (header_at s i).value (header_at s i).mode v
  own-len {v} e = rw e record { same_length = length-set s (i * SLOT_WORDS + 4) v; here = store-len s i v fits; others = λ j ne. store_other s i j 4 v (omega arith) ne }

  pub own-header : {value mode len : ℕ} → s' ≡ set_header s i (own_words (header_at s i) value mode len) → OwnWords s s' i value mode len
  own-header {value} {mode} {len} e =
      let h = own_words (header_at s i) value mode len in
      rw e record { same_length = length-set_header s i h; here = header_at-same s i h fits; others = λ j ne. header_at-other s i j h ne }

module _ {x x' : List ℕ} {i : ℕ} (fits : i * SLOT_WORDS + SLOT_WORDS ≤ length x) where
  pub own-scalars : {y : Scalars} → x' ≡ set_scalars x i y → OwnScalars x x' i y
  own-scalars {y} e = rw e record { same_length = length-set_scalars x i y; here = scalars_at-same x i y fits; others = λ j ne. scalars_at-other x i j y ne }

  pub own_scalar : (k v : ℕ) → k < SLOT_WORDS → x' ≡ set x (i * SLOT_WORDS + k) v → OwnScalars x x' i (with_scalar (scalars_at x i) k v)
  own_scalar k v lk e = rw e record { same_length = length-set x (i * SLOT_WORDS + k) v; here = store_scalar x i k v lk fits; others = λ j ne. store_scalar_other x i j k v lk ne }

pub own-cell : {c c' : List ℕ} (from n p v : ℕ) → p < n → c' ≡ set c (from + p) v → OwnCells c c' from n
own-cell {c} from n p v l e =
    rw e
    record {
      same_length = length-set c (from + p) v;
      outside = λ q o. get_or-set_other c (from + p) q v 0 (λ z. by_cases o (λ a. omega (arith, z)) (λ a. omega (arith, z)));
    }

-- ---- slot i after a write

pub raw-words : {s s' : List ℕ} {i value mode len : ℕ} (c : List ℕ) → OwnWords s s' i value mode len → raw_at s' c i ≡ raw_words (raw_at s c i) value mode len
unfolding raw_at
raw-words c w = rw w.here

pub raw-cells : (s c c' : List ℕ) (i : ℕ) → raw_at s c' i ≡ raw_cells (raw_at s c i) (region_of (header_at s i) c')
unfolding raw_at
raw-cells s c c' i = refl

-- one cell of the region
pub raw-cell : (s c : List ℕ) (i p v : ℕ) → p < (header_at s i).size → raw_at s (set c ((header_at s i).start + p) v) i ≡ raw_cells (raw_at s c i) (set (raw_at s c i).cells p v)
unfolding raw_at
raw-cell s c i p v l = Cells.raw-cell s c i p v l

-- ---- the steps

module _ {b m : State} {i : ℕ} (c : Touched b m i) where
  pub touched_account : (a : Account) → Touched b (with_heap m (with_regions m.heap a m.heap.top m.heap.entries m.heap.taken)) i
  touched_account a = record {
    heap = ap (λ (h : Heap). with_regions h a m.heap.top m.heap.entries m.heap.taken) c.heap;
    list = c.list;
    slots_length = c.slots_length;
    scalars-length = c.scalars-length;
    directory-length = c.directory-length;
    cells_length = c.cells_length;
    half = c.half;
    kind = c.kind;
    others = c.others;
    others-more = c.others-more;
    laid = c.laid;
    taken = c.taken;
    cells_fit = c.cells_fit;
  }

  pub touched_words : {s' : List ℕ} {value mode len : ℕ} → OwnWords m.slots s' i value mode len → Touched b (with_slots m s') i
  unfolding raw_at
  touched_words {s'} w = record {
    heap = c.heap;
    list = c.list;
    slots_length = w.same_length ∙ c.slots_length;
    scalars-length = c.scalars-length;
    directory-length = c.directory-length;
    cells_length = c.cells_length;
    half = rw w.here c.half;
    kind = rw w.here c.kind;
    others = λ j l ne. rw (w.others j ne) (c.others j l ne);
    others-more = c.others-more;
    laid =
        laid_regions c.laid s' w.same_length
        (λ j l.
        by_cases (same_or_not j i)
        (λ e. rw (e, w.here) record { size = refl; start = refl; entry = refl })
        (λ ne. rw (w.others j ne) record { size = refl; start = refl; entry = refl }));
    taken = rw w.here c.taken;
    cells_fit = c.cells_fit;
  }

  pub touched_scalars : {x' : List ℕ} {y : Scalars} → OwnScalars m.scalars x' i y → Touched b (with_scalars m x') i
  touched_scalars w = record {
    heap = c.heap;
    list = c.list;
    slots_length = c.slots_length;
    scalars-length = w.same_length ∙ c.scalars-length;
    directory-length = c.directory-length;
    cells_length = c.cells_length;
    half = c.half;
    kind = c.kind;
    others = c.others;
    others-more = λ j l ne. w.others j ne ∙ c.others-more j l ne;
    laid = c.laid;
    taken = c.taken;
    cells_fit = c.cells_fit;
  }

  pub touched_cells : {c' : List ℕ} → i < b.heap.fresh → OwnCells m.cells c' (header_at m.slots i).start (header_at m.slots i).size → Touched b (with_cells m c') i
  unfolding raw_at
  touched_cells {c'} li w = record {
    heap = c.heap;
    list = c.list;
    slots_length = c.slots_length;
    scalars-length = c.scalars-length;
    directory-length = c.directory-length;
    cells_length = w.same_length ∙ c.cells_length;
    half = c.half;
    kind = c.kind;
    others = λ j l ne. raw-region c.laid c' i li w.same_length w.outside j l ne ∙ c.others j l ne;
    others-more = c.others-more;
    laid = laid_cells c.laid c' w.same_length;
    taken = c.taken;
    cells_fit = c.cells_fit;
  }

  -- the region grows, and the regions may move
  pub touched_grown : {size taken : ℕ} {t : Top} {s' dir' c' : List ℕ} → Grown b.heap.fresh i size t m.slots m.directory m.cells s' dir' c' → taken + (header_at m.slots i).size ≡ m.heap.taken + size →
      taken ≤ length b.cells → Touched b (with_moved m (with_regions m.heap m.heap.account t.cells t.entries taken) s' dir' c') i
  unfolding raw_at
  touched_grown {size} {taken} {t} {s'} {dir'} {c'} w e fits = record {
    heap = ap (λ (h : Heap). with_regions h m.heap.account t.cells t.entries taken) c.heap;
    list = c.list;
    slots_length = w.slots_len ∙ c.slots_length;
    scalars-length = c.scalars-length;
    directory-length = w.dir_len ∙ c.directory-length;
    cells_length = w.cells_len ∙ c.cells_length;
    half = ap (λ (h : Header). h.half) w.header ∙ c.half;
    kind = ap (λ (h : Header). h.kind) w.header ∙ c.kind;
    others = λ j l ne. w.others j l ne ∙ c.others j l ne;
    others-more = c.others-more;
    laid = w.laid;
    taken = let z : (header_at s' i).size ≡ size = ap (λ (h : Header). h.size) w.header in omega (arith, c.taken, e);
    cells_fit = fits;
  }

pub raw-grown : {n i size : ℕ} {t : Top} {s dir c s' dir' c' : List ℕ} → Grown n i size t s dir c s' dir' c' → raw_at s' c' i ≡ raw_grown (raw_at s c i) size (region_of (header_at s' i) c')
unfolding raw_at
raw-grown {i = i} {s' = s'} {c' = c'} w = ap (λ (h : Header). Regions.raw_of h (region_of (header_at s' i) c')) w.header
