-- Strings in cells: eight bytes to a cell. Assumes nothing.
use Prim.Native.Nat.{ℕ, zero, suc, ◌+◌, ◌*◌, ◌-◌, ◌/◌, ◌%◌, ◌^◌, ◌≤◌, ◌<◌, min}
use mathlib.Core.Path.{◌≡◌, refl, ap, sym, ◌∙◌}
use mathlib.Core.Logic.{◌⊎◌, inl, inr}
use mathlib.Core.List.{List, [], ◌∷◌, ◌++◌}
use native.Mathlib.Omega.{arith}
use lib.ListN.{length, get_or, get_or-replicate, set, take, drop, length-set, length-take, length-drop, length-append, get_or-append}
use lib.Seq.{get_or-set_same, get_or-set_other, get_or-take, get_or-drop, ext_get_or, get_or-append-add}
use borrow.Rule.Slice.PartMut.{put_mid}
use Rattle.std.specs.Int.{w64, to_le_bytes, from_le_bytes}
use Rattle.std.proofs.Common.{rules}
use Rattle.std.proofs.lemmas.Nat.{le_bytes_8}
use Rattle.std.proofs.lemmas.List.{places, get_or_past, get_or-append_right}
use Rattle.heap_slots.proofs.Cases.{by_cases, same_or_not, lt_or_le}
use Rattle.heap_cells.specs.Moves.{byte_at, bytes_from, string_bytes, string_cells, Packs, Unpacked, Written}

-- ---- a cell of eight bytes

-- byte k of a word
digit : (w k : ℕ) → k < 8 → get_or (to_le_bytes w64 w) k 0 ≡ w / 256 ^ k % 256
digit w zero l = omega arith
digit w (suc zero) l = refl
digit w (suc (suc zero)) l = refl
digit w (suc (suc (suc zero))) l = refl
digit w (suc (suc (suc (suc zero)))) l = refl
digit w (suc (suc (suc (suc (suc zero))))) l = refl
digit w (suc (suc (suc (suc (suc (suc zero)))))) l = refl
digit w (suc (suc (suc (suc (suc (suc (suc zero))))))) l = refl
digit w (suc (suc (suc (suc (suc (suc (suc (suc k)))))))) l = absurd (omega arith)

abbrev zeros : List ℕ
zeros = 0 ∷ 0 ∷ 0 ∷ 0 ∷ 0 ∷ 0 ∷ 0 ∷ 0 ∷ []

zero_at : (i : ℕ) → get_or zeros i 0 ≡ 0
zero_at i = by_cases (lt_or_le i 8) (λ a. get_or-replicate 8 i 0 0 a) (λ b. get_or_past zeros i 0 b)

-- the number of bytes with zeros behind them
pub packs_padded : (bs : List ℕ) (w : ℕ) → length bs ≤ 8 → ((i : ℕ) → get_or bs i 0 < 256) → w ≡ from_le_bytes w64 (bs ++ drop (length bs) zeros) → Packs bs 0 w
packs_padded bs w l small e =
    let eight : List ℕ = bs ++ drop (length bs) zeros in
    let le : length eight ≡ 8 = simp (length-append, length-drop) (omega arith) in
    let low : (i : ℕ) → get_or eight i 0 < 256 =
    λ i.
    by_cases (lt_or_le i (length bs))
    (λ a. rw (get_or-append bs (drop (length bs) zeros) 0 i a) (small i))
    (λ b.
    let z : get_or eight i 0 ≡ 0 = get_or-append_right bs (drop (length bs) zeros) (length bs) i 0 refl b ∙ get_or-drop (length bs) zeros (i - length bs) 0 ∙ zero_at (length bs + (i - length bs)) in
    omega arith) in
    record {
      each = λ k lk h.
          let h' : k < length bs = omega arith in
          let z : 0 + k ≡ k = omega arith in
          rw z (sym (digit w k lk) ∙ ap (λ (x : List ℕ). get_or x k 0) (le_bytes_8 eight w le low e) ∙ get_or-append bs (drop (length bs) zeros) 0 k h');
    }

-- the first n bytes of a word stored
pub unpacked : {w : ℕ} {b ys : List ℕ} {at n : ℕ} → ys ≡ take n (to_le_bytes w64 w) → n ≤ 8 → at + n ≤ length b → Unpacked w b (put_mid at (at + n - at) b ys) at n
unpacked {w} {b} {ys} {at} {n} e l fits =
    let ly : length ys ≡ n = rw e (simp length-take (omega arith)) in
    record {
      len = search (rules, places);
      inside = λ k lk. (let h : get_or ys k 0 ≡ w / 256 ^ k % 256 = rw e (get_or-take n (to_le_bytes w64 w) k 0 lk ∙ digit w k (omega arith)) in grind (arith, places));
      outside = λ q o. grind (arith, places);
    }

-- ---- the cells of a string, q of them written

pub record Writing (bs c c' : List ℕ) (from q : ℕ) : Type 0 where
  pub len : length c' ≡ length c
  pub inside : (k : ℕ) → k < length bs → k < q * 8 → get_or c' (from + k / 8) 0 / 256 ^ (k % 8) % 256 ≡ get_or bs k 0
  pub outside : (p : ℕ) → (p < from) ⊎ (from + q ≤ p) → get_or c' p 0 ≡ get_or c p 0

pub writing_none : (bs c : List ℕ) (from : ℕ) → Writing bs c c from 0
writing_none bs c from = record { len = refl; inside = λ k lk h. absurd (omega arith); outside = λ p w. refl }

pub writing_more : {bs c c' : List ℕ} {from q : ℕ} (w : ℕ) → Writing bs c c' from q → Packs bs (q * 8) w → from + q < length c → Writing bs c (set c' (from + q) w) from (q + 1)
writing_more {bs} {c} {c'} {from} {q} w m p lt =
    record {
      len = length-set c' (from + q) w ∙ m.len;
      inside = λ k lk h.
          by_cases (same_or_not (k / 8) q)
          (λ e.
          let i : q * 8 + k % 8 ≡ k = omega arith in
          let here : get_or (set c' (from + q) w) (from + k / 8) 0 ≡ w = rw e (get_or-set_same c' (from + q) w 0 (omega (arith, m.len))) in
          ap (λ (x : ℕ). x / 256 ^ (k % 8) % 256) here ∙ p.each (k % 8) (omega arith) (omega arith) ∙ ap (λ (a : ℕ). get_or bs a 0) i)
          (λ ne.
          ap (λ (x : ℕ). x / 256 ^ (k % 8) % 256) (get_or-set_other c' (from + q) (from + k / 8) w 0 (omega arith))
          ∙ m.inside k lk (omega arith));
      outside = λ a b.
          get_or-set_other c' (from + q) a w 0 (by_cases b (λ l. omega arith) (λ l. omega arith))
          ∙ m.outside a (by_cases b (λ l. inl l) (λ l. inr (omega arith)));
    }

-- ---- a string cut into pieces of eight

-- a piece and what stands behind it, where n pieces stand before it
pub record Piece (bs chunk rest rest' : List ℕ) (n : ℕ) : Type 0 where
  pub here : rest ≡ drop (n * 8) bs
  pub cut : rest ≡ chunk ++ rest'
  pub size : length chunk ≡ min 8 (length rest)

piece-length : {bs chunk rest rest' : List ℕ} {n : ℕ} → Piece bs chunk rest rest' n → length chunk + length rest' ≡ length bs - n * 8
piece-length {bs} {chunk} {rest} {rest'} {n} q = sym (length-append chunk rest') ∙ ap length (sym q.cut ∙ q.here) ∙ length-drop (n * 8) bs

rest-length : {bs chunk rest rest' : List ℕ} {n : ℕ} → Piece bs chunk rest rest' n → length rest ≡ length bs - n * 8
rest-length {bs} {n = n} q = ap length q.here ∙ length-drop (n * 8) bs

pub piece_packs : {bs chunk rest rest' : List ℕ} {n w : ℕ} → Piece bs chunk rest rest' n → Packs chunk 0 w → Packs bs (n * 8) w
piece_packs {bs} {chunk} {rest} {rest'} {n} q p =
    record {
      each = λ k lk h.
          let m : 0 + k < length chunk = omega (arith, q.size, rest-length q) in
          p.each k lk m ∙ sym (get_or-append chunk rest' 0 (0 + k) m) ∙ ap (λ (l : List ℕ). get_or l (0 + k) 0) (sym q.cut ∙ q.here) ∙ get_or-drop (n * 8) bs (0 + k) 0
          ∙ ap (λ (a : ℕ). get_or bs a 0) (omega arith);
    }

-- of the bytes from `at` on, as many as a cell takes
pub packs_part : {bs : List ℕ} {at n w : ℕ} → Packs (take n (drop at bs)) 0 w → ((k : ℕ) → k < 8 → at + k < length bs → k < n) → Packs bs at w
packs_part {bs} {at} {n} p f =
    record {
      each = λ k lk h.
          let kn : k < n = f k lk h in
          let kz : 0 + k < n = omega (arith, kn) in
          p.each k lk (omega (arith, kn, length-take n (drop at bs), length-drop at bs)) ∙ get_or-take n (drop at bs) (0 + k) 0 kz ∙ get_or-drop at bs (0 + k) 0
          ∙ ap (λ (a : ℕ). get_or bs a 0) (omega arith);
    }

pub piece_rest : {bs chunk rest rest' : List ℕ} {n : ℕ} → Piece bs chunk rest rest' n → rest' ≡ drop ((n + 1) * 8) bs
piece_rest {bs} {chunk} {rest} {rest'} {n} q =
    ext_get_or 0 rest' (drop ((n + 1) * 8) bs) (omega (arith, q.size, rest-length q, piece-length q, length-drop ((n + 1) * 8) bs))
    (λ k lk.
    let e : length chunk ≡ 8 = omega (arith, q.size, rest-length q, piece-length q) in
    sym (get_or-append-add chunk rest' k 0) ∙ ap (λ (l : List ℕ). get_or l (length chunk + k) 0) (sym q.cut ∙ q.here) ∙ get_or-drop (n * 8) bs (length chunk + k) 0
    ∙ ap (λ (a : ℕ). get_or bs a 0) (omega (arith, e)) ∙ sym (get_or-drop ((n + 1) * 8) bs k 0))

-- ---- the bytes of cells

length-bytes_from : (ws : List ℕ) (k n : ℕ) → length (bytes_from ws k n) ≡ n
unfolding bytes_from
length-bytes_from ws k zero = refl
length-bytes_from ws k (suc n) = ap suc (length-bytes_from ws (suc k) n)

get_d_bytes_from : (ws : List ℕ) (k n r : ℕ) → r < n → get_or (bytes_from ws k n) r 0 ≡ byte_at ws (k + r)
unfolding bytes_from
get_d_bytes_from ws k zero r l = absurd (omega arith)
get_d_bytes_from ws k (suc n) zero l = ap (byte_at ws) (omega arith)
get_d_bytes_from ws k (suc n) (suc r) l = get_d_bytes_from ws (suc k) n r (omega arith) ∙ ap (byte_at ws) (omega arith)

pub length-string : (ws : List ℕ) (n : ℕ) → length (string_bytes ws n) ≡ n
length-string ws n = length-bytes_from ws 0 n

pub string-byte : (ws : List ℕ) (n k : ℕ) → k < n → get_or (string_bytes ws n) k 0 ≡ byte_at ws k
string-byte ws n k l = get_d_bytes_from ws 0 n k l ∙ ap (byte_at ws) (omega arith)

-- a byte of the cells from `from` on
byte-part : (c : List ℕ) (from m k : ℕ) → k / 8 < m → byte_at (take m (drop from c)) k ≡ get_or c (from + k / 8) 0 / 256 ^ (k % 8) % 256
unfolding byte_at
byte-part c from m k l = ap (λ (x : ℕ). x / 256 ^ (k % 8) % 256) (get_or-take m (drop from c) (k / 8) 0 l ∙ get_or-drop from c (k / 8) 0)

pub writing_end : {bs c c' : List ℕ} {from q : ℕ} → Writing bs c c' from q → length bs ≤ q * 8 → q ≤ string_cells (length bs) → Written bs c c' from
writing_end {bs} {c} {c'} {from} {q} m l u =
    let ws : List ℕ = take (string_cells (length bs)) (drop from c') in
    record {
      len = m.len;
      inside =
          ext_get_or 0 (string_bytes ws (length bs)) bs (length-string ws (length bs))
          (λ k lk.
          let kb : k < length bs = omega (arith, length-string ws (length bs)) in
          string-byte ws (length bs) k kb ∙ byte-part c' from (string_cells (length bs)) k (omega arith) ∙ m.inside k kb (omega arith));
      outside = λ p w. m.outside p (by_cases w (λ a. inl a) (λ b. inr (omega arith)));
    }

-- ---- the first m bytes of a string read

pub record ReadTo (c : List ℕ) (from : ℕ) (b b' : List ℕ) (m : ℕ) : Type 0 where
  pub len : length b' ≡ length b
  pub inside : (k : ℕ) → k < m → get_or b' k 0 ≡ get_or c (from + k / 8) 0 / 256 ^ (k % 8) % 256
  pub outside : (p : ℕ) → m ≤ p → get_or b' p 0 ≡ get_or b p 0

pub read_none : (c : List ℕ) (from : ℕ) (b : List ℕ) → ReadTo c from b b 0
read_none c from b = record { len = refl; inside = λ k l. absurd (omega arith); outside = λ p l. refl }

pub read_more : {c : List ℕ} {from : ℕ} {b b' b'' : List ℕ} {w n : ℕ} (q : ℕ) → ReadTo c from b b' (q * 8) → Unpacked w b' b'' (q * 8) n → n ≤ 8 → w ≡ get_or c (from + q) 0 → ReadTo c from b b'' (q * 8 + n)
read_more {c} {from} {b} {b'} {b''} {w} {n} q m u l e =
    record {
      len = u.len ∙ m.len;
      inside = λ k lk.
          by_cases (lt_or_le k (q * 8))
          (λ lt. u.outside k (inl lt) ∙ m.inside k lt)
          (λ ge.
          let i : q * 8 + k % 8 ≡ k = omega arith in
          let j : k / 8 ≡ q = omega arith in
          ap (λ (a : ℕ). get_or b'' a 0) (sym i) ∙ u.inside (k % 8) (omega arith)
          ∙ ap (λ (x : ℕ). x / 256 ^ (k % 8) % 256) (e ∙ ap (λ (a : ℕ). get_or c (from + a) 0) (sym j)));
      outside = λ p lp. u.outside p (inr lp) ∙ m.outside p (omega arith);
    }

pub read_next : {c : List ℕ} {from : ℕ} {b b' b'' : List ℕ} {w : ℕ} (q : ℕ) → ReadTo c from b b' (q * 8) → Unpacked w b' b'' (q * 8) 8 → w ≡ get_or c (from + q) 0 → ReadTo c from b b'' ((q + 1) * 8)
read_next q m u e = let i : (q + 1) * 8 ≡ q * 8 + 8 = omega arith in rw i (read_more q m u (omega arith) e)

pub read_end : {c : List ℕ} {from : ℕ} {b b' : List ℕ} {m : ℕ} (n : ℕ) → ReadTo c from b b' m → m ≡ n → n ≤ length b → b' ≡ string_bytes (take (string_cells n) (drop from c)) n ++ drop n b
read_end {c} {from} {b} {b'} {m} n r e l =
    let ws : List ℕ = take (string_cells n) (drop from c) in
    let ls : length (string_bytes ws n) ≡ n = length-string ws n in
    let la : length (string_bytes ws n ++ drop n b) ≡ length b = simp (length-append, length-drop) (omega arith) in
    ext_get_or 0 b' (string_bytes ws n ++ drop n b) (r.len ∙ sym la)
    (λ k lk.
    by_cases (lt_or_le k n)
    (λ lt.
    r.inside k (omega arith)
    ∙ sym (get_or-append (string_bytes ws n) (drop n b) 0 k (omega arith) ∙ string-byte ws n k lt ∙ byte-part c from (string_cells n) k (omega arith)))
    (λ ge.
    let i : length (string_bytes ws n) + (k - n) ≡ k = omega arith in
    let j : n + (k - n) ≡ k = omega arith in
    r.outside k (omega arith)
    ∙ sym (ap (λ (a : ℕ). get_or (string_bytes ws n ++ drop n b) a 0) (sym i) ∙ get_or-append-add (string_bytes ws n) (drop n b) (k - n) 0 ∙ get_or-drop n b (k - n) 0 ∙ ap (λ (a : ℕ). get_or b a 0) j)))
