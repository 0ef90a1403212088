-- What a part of a slice holds after a call has written it.
use Rattle.std.proofs.Common.{◌≡◌, ℕ, ◌+◌, ◌-◌, ◌≤◌, List, ◌++◌, arith, length, take, drop, sym, ap, ◌∙◌, le_refl, drop_at, length-take-le}
use Rattle.std.proofs.lemmas.Slice.{take-put_mid_below}
use borrow.Rule.Slice.PartMut.{put_mid, post_of}
use lib.Seq.{take-add, take-append-le}

-- the first a items and the n that were written behind them
pub take_filled : (a n : ℕ) (xs ys : List ℕ) → a ≤ length xs → n ≤ length ys → take a xs ++ take n ys ≡ take (a + n) (put_mid a (length xs - a) xs ys)
take_filled a n xs ys within fits =
    let k : ℕ = length xs - a in
    let new = put_mid a k xs ys in
    let after = post_of a k xs in
    let same : (a + n) - a ≡ n = omega arith in
    let part : take n (drop a new) ≡ take n ys = ap (take n) (drop_at (take a xs) (ys ++ after) a (length-take-le a xs within)) ∙ take-append-le n ys after fits in
    ap (λ (l : List ℕ). l ++ take n ys) (sym (take-put_mid_below _ _ _ _ _ (le_refl _) within)) ∙ ap (λ (l : List ℕ). take a new ++ l) (sym part) ∙ sym (take-add a n new)
