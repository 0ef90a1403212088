-- An object's cells as a part of the lent cells. Assumes nothing.
use Prim.Native.Nat.{ℕ, ◌+◌, ◌-◌, ◌≤◌}
use mathlib.Core.Path.{◌≡◌, ap, sym, ◌∙◌}
use mathlib.Core.List.{List, ◌++◌}
use native.Mathlib.Omega.{arith}
use lib.ListN.{drop, get_or, length, take}
use lib.Seq.{drop_at, get_or-drop, get_or-take, length-take-le, take_at}
use borrow.Rule.Slice.PartMut.{drop_put, mid_len, mid_of, put_mid, same_len_mid, take_put}
use Rattle.heap_slots.proofs.Cases.{by_cases}
use Rattle.heap_slots.specs.declared.Header.{Header}
use Rattle.heap_cells.specs.Regions.{region_of}
use Rattle.heap_cells.proofs.RawLaws.{region-length}
use Rattle.heap.proofs.StepLaws.{OwnCells}

abbrev ending : Header → ℕ
ending h = h.start + h.size

pub region-part : (h : Header) (c : List ℕ) → take (h.start + h.size - h.start) (drop h.start c) ≡ region_of h c
region-part h c = let e : h.start + h.size - h.start ≡ h.size = omega arith in rw e

-- what fits the size fits the cells
pub region-length-fits : (h : Header) (c : List ℕ) {n : ℕ} → h.start + h.size ≤ length c → n ≤ h.size → n ≤ length (region_of h c)
region-length-fits h c l r = omega (arith, region-length h c l)

-- ---- the cells after a call that was lent the part, which then held ys

module _ (h : Header) (c ys : List ℕ) (inside : h.start + h.size ≤ length c) (same : length ys ≡ length (mid_of h.start (h.start + h.size - h.start) c)) where
  long : length ys ≡ ending h - h.start
  long = same ∙ mid_len h.start (ending h) c inside

  pub put-region : region_of h (put_mid h.start (h.start + h.size - h.start) c ys) ≡ ys
  put-region =
      ap (take h.size) (drop_at (take h.start c) (ys ++ drop (ending h - h.start) (drop h.start c)) h.start (length-take-le h.start c (omega arith)))
      ∙ take_at ys (drop (ending h - h.start) (drop h.start c)) h.size (omega (arith, long))

  pub put-own : OwnCells c (put_mid h.start (h.start + h.size - h.start) c ys) h.start h.size
  put-own =
      let c' : List ℕ = put_mid h.start (ending h - h.start) c ys in
      record {
        same_length = same_len_mid h.start (ending h - h.start) c ys same;
        outside = λ q o.
            by_cases o
            (λ l.
            sym (get_or-take h.start c' q 0 l)
            ∙ ap (λ (z : List ℕ). get_or z q 0) (take_put h.start (ending h - h.start) c ys (omega arith))
            ∙ get_or-take h.start c q 0 l)
            (λ l.
            let e : ending h + (q - ending h) ≡ q = omega arith in
            let at : (z : List ℕ) → get_or z q 0 ≡ get_or (drop (ending h) z) (q - ending h) 0 = λ z. ap (λ (n : ℕ). get_or z n 0) (sym e) ∙ sym (get_or-drop (ending h) z (q - ending h) 0) in
            at c' ∙ ap (λ (z : List ℕ). get_or z (q - ending h) 0) (drop_put h.start (ending h) c ys (omega arith) inside long) ∙ sym (at c));
      }
