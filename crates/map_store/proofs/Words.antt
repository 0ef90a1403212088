-- The arithmetic of peek and poke: a place is a lane of 32 bits in its cell.
use Rattle.std.proofs.Common.{◌≡◌, ℕ, ◌+◌, ◌-◌, ◌*◌, ◌/◌, ◌%◌, ◌^◌, ◌<◌, ◌≤◌, ◌≢◌, List, length, get_or, drop, set, sym, ap, ◌∙◌, arith, get_or-drop, get_or-take, Fits, w64}
use native.Mathlib.Decide.{ℕ_discrete}
use borrow.Rule.Slice.PartMut.{mid_of, put_mid, mid_len, set_mid_at}
use Rattle.map_store.specs.Half.{half, put, half_low, half_high, put_low, put_high}

abbrev lane : ℕ → ℕ
lane s = 2 ^ (s % 2 * 32)

lane_low : (s : ℕ) → s % 2 ≡ 0 → lane s ≡ 1
lane_low s e = ap (λ (k : ℕ). 2 ^ (k * 32)) e

lane_high : (s : ℕ) → s % 2 ≢ 0 → lane s ≡ 4294967296
lane_high s ne = let e : s % 2 ≡ 1 = omega arith in ap (λ (k : ℕ). 2 ^ (k * 32)) e

-- the part from ib on
part_at : (cells : List ℕ) (ib j : ℕ) → ib + j < length cells → get_or (mid_of ib (length cells - ib) cells) j 0 ≡ get_or cells (ib + j) 0
part_at cells ib j h = get_or-take (length cells - ib) (drop ib cells) j 0 (omega arith) ∙ get_or-drop ib cells j 0

pub peek_is : (cells : List ℕ) (ib s : ℕ) → ib + s / 2 < length cells → ((i : ℕ) → Fits w64 (get_or cells i 0))
    → get_or (mid_of ib (length cells - ib) cells) (s / 2) 0 / lane s % 4294967296 ≡ half cells ib s
peek_is cells ib s h b =
    let e = part_at cells ib (s / 2) h in
    let l : get_or cells (ib + s / 2) 0 < 2 ^ 64 = omega (arith, (b (ib + s / 2)).fits) in
    ap (λ (w : ℕ). w / lane s % 4294967296) e
    ∙ elim (ℕ_discrete (s % 2) 0) [
      | yes c ↦ rw (half_low cells ib s c, lane_low s c) (omega arith)
      | no c ↦ rw (half_high cells ib s c, lane_high s c) (omega arith)
    ]

module _ (w s v : ℕ) (hw : w < 2 ^ 64) (hv : v < 4294967296) where
  old : w / lane s % 4294967296 * lane s % 18446744073709551616 ≤ w
  old =
      elim (ℕ_discrete (s % 2) 0) [
        | yes e ↦ rw (lane_low s e) (omega arith)
        | no e ↦ rw (lane_high s e) (omega arith)
      ]

  new : (w - w / lane s % 4294967296 * lane s % 18446744073709551616) + v * lane s % 18446744073709551616 < 2 ^ 64
  new =
      elim (ℕ_discrete (s % 2) 0) [
        | yes e ↦ rw (lane_low s e) (omega arith)
        | no e ↦ rw (lane_high s e) (omega arith)
      ]

module _ (cells : List ℕ) (ib s v : ℕ) (h : ib + s / 2 < length cells) (b : (i : ℕ) → Fits w64 (get_or cells i 0)) (hv : v < 4294967296) where
  abbrev part : List ℕ
  part = mid_of ib (length cells - ib) cells

  cell : get_or cells (ib + s / 2) 0 < 2 ^ 64
  cell = omega (arith, (b (ib + s / 2)).fits)

  in_part : get_or part (s / 2) 0 < 2 ^ 64
  in_part = omega (arith, part_at cells ib (s / 2) h, cell)

  pub poke_under : get_or part (s / 2) 0 / lane s % 4294967296 * lane s % 18446744073709551616 ≤ get_or part (s / 2) 0
  poke_under = old (get_or part (s / 2) 0) s v in_part hv

  abbrev stored : ℕ → ℕ
  stored w = (w - w / lane s % 4294967296 * lane s % 18446744073709551616) + v * lane s % 18446744073709551616

  pub poke_fits : stored (get_or part (s / 2) 0) < 2 ^ 64
  poke_fits = new (get_or part (s / 2) 0) s v in_part hv

  put_stored : set cells (ib + s / 2) (stored (get_or cells (ib + s / 2) 0)) ≡ put cells ib s v
  put_stored =
      let l = cell in
      elim (ℕ_discrete (s % 2) 0) [
        | yes e ↦ sym (put_low cells ib s v e ∙ ap (set cells (ib + s / 2)) (rw (lane_low s e) (omega arith)))
        | no e ↦ sym (put_high cells ib s v e ∙ ap (set cells (ib + s / 2)) (rw (lane_high s e) (omega arith)))
      ]

  pub poke_is : put_mid ib (length cells - ib) cells (set part (s / 2) (stored (get_or part (s / 2) 0))) ≡ put cells ib s v
  poke_is =
      set_mid_at ib (length cells - ib) (s / 2) cells (stored (get_or part (s / 2) 0)) (let e = mid_len ib (length cells) cells (omega arith) in omega (arith, e))
      ∙ ap (λ (w : ℕ). set cells (ib + s / 2) (stored w)) (part_at cells ib (s / 2) h)
      ∙ put_stored
