-- Eight words to a slot: what is stored is read back, and the other slots keep theirs. Assumes nothing.
use Prim.Native.Nat.{ℕ, zero, suc, ◌+◌, ◌*◌, ◌≤◌, ◌<◌}
use mathlib.Core.Path.{◌≡◌, refl, ap, sym, ◌∙◌}
use mathlib.Core.List.{List, [], ◌∷◌}
use native.Mathlib.Omega.{arith}
use native.Mathlib.Nat.{add-zero}
use lib.ListN.{length, get_or, set, length-set}
use lib.Seq.{get_or-set_same, get_or-set_other}
use Rattle.heap_slots.specs.declared.Header.{Header}
use Rattle.heap_slots.specs.declared.Scalars.{Scalars}
use Rattle.heap_slots.specs.Eight.{stores, set_eight}
use Rattle.heap_slots.specs.Header.{header_at, set_header, with_value, with_mode, with_len}
use Rattle.heap_slots.specs.Scalars.{scalars_at, set_scalars, with_scalar, scalar_words, scalars_of}
use Rattle.heap_slots.proofs.Cases.{by_cases, same_or_not, lt_or_le}

-- ---- words stored one after another

length-stores : (s : List ℕ) (p k : ℕ) (vs : List ℕ) → length (stores s p k vs) ≡ length s
length-stores s p k [] = refl
length-stores s p k (v ∷ vs) = length-stores (set s (p + k) v) p (suc k) vs ∙ length-set s (p + k) v

stores-before : (s : List ℕ) (p k : ℕ) (vs : List ℕ) (q : ℕ) → q < p + k → get_or (stores s p k vs) q 0 ≡ get_or s q 0
stores-before s p k [] q h = refl
stores-before s p k (v ∷ vs) q h =
    stores-before (set s (p + k) v) p (suc k) vs q (omega arith) ∙ get_or-set_other s (p + k) q v 0 (omega arith)

stores-after : (s : List ℕ) (p k : ℕ) (vs : List ℕ) (q : ℕ) → p + k + length vs ≤ q → get_or (stores s p k vs) q 0 ≡ get_or s q 0
stores-after s p k [] q h = refl
stores-after s p k (v ∷ vs) q h =
    stores-after (set s (p + k) v) p (suc k) vs q (omega arith) ∙ get_or-set_other s (p + k) q v 0 (omega arith)

stores_at : (s : List ℕ) (p k : ℕ) (vs : List ℕ) (m : ℕ) → m < length vs → p + k + length vs ≤ length s → get_or (stores s p k vs) (p + (k + m)) 0 ≡ get_or vs m 0
stores_at s p k [] m h fits = absurd (omega arith)
stores_at s p k (v ∷ vs) zero h fits =
    rw (add-zero k)
    (stores-before (set s (p + k) v) p (suc k) vs (p + k) (omega arith) ∙ get_or-set_same s (p + k) v 0 (omega arith))
stores_at s p k (v ∷ vs) (suc m) h fits =
    ap (λ (q : ℕ). get_or (stores (set s (p + k) v) p (suc k) vs) q 0) (omega arith)
    ∙ stores_at (set s (p + k) v) p (suc k) vs m (omega arith) (omega (arith, length-set s (p + k) v))

-- ---- eight words

-- the words of slot i
abbrev pub eight_at : List ℕ → ℕ → List ℕ
eight_at s i =
    get_or s (i * 8) 0 ∷ get_or s (i * 8 + 1) 0 ∷ get_or s (i * 8 + 2) 0 ∷ get_or s (i * 8 + 3) 0
    ∷ get_or s (i * 8 + 4) 0 ∷ get_or s (i * 8 + 5) 0 ∷ get_or s (i * 8 + 6) 0 ∷ get_or s (i * 8 + 7) 0 ∷ []

eight_word : (s : List ℕ) (i k : ℕ) → k < 8 → get_or (eight_at s i) k 0 ≡ get_or s (i * 8 + k) 0
eight_word s i zero h = ap (λ (q : ℕ). get_or s q 0) (omega arith)
eight_word s i (suc zero) h = refl
eight_word s i (suc (suc zero)) h = refl
eight_word s i (suc (suc (suc zero))) h = refl
eight_word s i (suc (suc (suc (suc zero)))) h = refl
eight_word s i (suc (suc (suc (suc (suc zero))))) h = refl
eight_word s i (suc (suc (suc (suc (suc (suc zero)))))) h = refl
eight_word s i (suc (suc (suc (suc (suc (suc (suc zero))))))) h = refl
eight_word s i (suc (suc (suc (suc (suc (suc (suc (suc k)))))))) h = absurd (omega arith)

pub length-set_eight : (s : List ℕ) (i v : ℕ) (vs : List ℕ) → length (set_eight s i v vs) ≡ length s
length-set_eight s i v vs = length-stores (set s (i * 8) v) (i * 8) 1 vs ∙ length-set s (i * 8) v

pub eight_same : (s : List ℕ) (i v : ℕ) (vs : List ℕ) → length vs ≡ 7 → i * 8 + 8 ≤ length s → (k : ℕ) → k < 8 → get_or (set_eight s i v vs) (i * 8 + k) 0 ≡ get_or (v ∷ vs) k 0
eight_same s i v vs e fits zero h =
    ap (λ (q : ℕ). get_or (set_eight s i v vs) q 0) (omega arith)
    ∙ stores-before (set s (i * 8) v) (i * 8) 1 vs (i * 8) (omega arith) ∙ get_or-set_same s (i * 8) v 0 (omega arith)
eight_same s i v vs e fits (suc k) h =
    ap (λ (q : ℕ). get_or (set_eight s i v vs) q 0) (omega arith)
    ∙ stores_at (set s (i * 8) v) (i * 8) 1 vs k (omega (arith, e)) (omega (arith, e, length-set s (i * 8) v))

pub eight_other : (s : List ℕ) (i j v : ℕ) (vs : List ℕ) → length vs ≡ 7 → (j ≡ i → ⊥) → (k : ℕ) → k < 8 → get_or (set_eight s i v vs) (j * 8 + k) 0 ≡ get_or s (j * 8 + k) 0
eight_other s i j v vs e ne k h =
    by_cases (lt_or_le j i)
    (λ l. stores-before (set s (i * 8) v) (i * 8) 1 vs (j * 8 + k) (omega arith))
    (λ r. stores-after (set s (i * 8) v) (i * 8) 1 vs (j * 8 + k) (omega (arith, e)))
    ∙ get_or-set_other s (i * 8) (j * 8 + k) v 0 (omega arith)

-- one of the eight stored
store_same : (s : List ℕ) (i m v : ℕ) → m < 8 → i * 8 + 8 ≤ length s → (k : ℕ) → k < 8 → get_or (set s (i * 8 + m) v) (i * 8 + k) 0 ≡ get_or (set (eight_at s i) m v) k 0
store_same s i m v lm fits k lk =
    by_cases (same_or_not k m)
    (λ e. rw e (get_or-set_same s (i * 8 + m) v 0 (omega arith) ∙ sym (get_or-set_same (eight_at s i) m v 0 lm)))
    (λ ne. get_or-set_other s (i * 8 + m) (i * 8 + k) v 0 (omega arith) ∙ sym (eight_word s i k lk) ∙ sym (get_or-set_other (eight_at s i) m k v 0 ne))

store_else : (s : List ℕ) (i j m v : ℕ) → m < 8 → (j ≡ i → ⊥) → (k : ℕ) → k < 8 → get_or (set s (i * 8 + m) v) (j * 8 + k) 0 ≡ get_or s (j * 8 + k) 0
store_else s i j m v lm ne k lk = get_or-set_other s (i * 8 + m) (j * 8 + k) v 0 (omega arith)

-- ---- headers

abbrev header_rest : Header → List ℕ
header_rest h = h.kind ∷ h.value ∷ h.mode ∷ h.len ∷ h.size ∷ h.start ∷ h.entry ∷ []

abbrev header_words : Header → List ℕ
header_words h = h.half ∷ header_rest h

-- a header is its eight words
header_is : (s : List ℕ) (i : ℕ) (h : Header) → ((k : ℕ) → k < 8 → get_or s (i * 8 + k) 0 ≡ get_or (header_words h) k 0) → header_at s i ≡ h
unfolding header_at
header_is s i h w =
    let at : (k : ℕ) → k < 8 → get_or (eight_at s i) k 0 ≡ get_or (header_words h) k 0 = λ k l. eight_word s i k l ∙ w k l in
    λ t. record {
      half = at 0 (omega arith) t;
      kind = at 1 (omega arith) t;
      value = at 2 (omega arith) t;
      mode = at 3 (omega arith) t;
      len = at 4 (omega arith) t;
      size = at 5 (omega arith) t;
      start = at 6 (omega arith) t;
      entry = at 7 (omega arith) t;
    }

pub length-set_header : (s : List ℕ) (i : ℕ) (h : Header) → length (set_header s i h) ≡ length s
unfolding set_header
length-set_header s i h = length-set_eight s i h.half (header_rest h)

pub header_at-same : (s : List ℕ) (i : ℕ) (h : Header) → i * 8 + 8 ≤ length s → header_at (set_header s i h) i ≡ h
unfolding set_header
header_at-same s i h fits = header_is (set_header s i h) i h (eight_same s i h.half (header_rest h) refl fits)

-- the same words, the same header
pub header_ext : (s s' : List ℕ) (j : ℕ) → ((k : ℕ) → k < 8 → get_or s' (j * 8 + k) 0 ≡ get_or s (j * 8 + k) 0) → header_at s' j ≡ header_at s j
unfolding header_at
header_ext s s' j w = header_is s' j (header_at s j) (λ k l. w k l ∙ sym (eight_word s j k l))

pub header_at-other : (s : List ℕ) (i j : ℕ) (h : Header) → (j ≡ i → ⊥) → header_at (set_header s i h) j ≡ header_at s j
unfolding set_header
header_at-other s i j h ne = header_ext s (set_header s i h) j (eight_other s i j h.half (header_rest h) refl ne)

-- a store to word k of slot i
pub store_other : (s : List ℕ) (i j k v : ℕ) → k < 8 → (j ≡ i → ⊥) → header_at (set s (i * 8 + k) v) j ≡ header_at s j
store_other s i j k v lk ne = header_ext s (set s (i * 8 + k) v) j (store_else s i j k v lk ne)

pub store-value : (s : List ℕ) (i v : ℕ) → i * 8 + 8 ≤ length s → header_at (set s (i * 8 + 2) v) i ≡ with_value (header_at s i) v
unfolding header_at
store-value s i v fits = header_is (set s (i * 8 + 2) v) i (with_value (header_at s i) v) (store_same s i 2 v (omega arith) fits)

pub store-mode : (s : List ℕ) (i v : ℕ) → i * 8 + 8 ≤ length s → header_at (set s (i * 8 + 3) v) i ≡ with_mode (header_at s i) v
unfolding header_at
store-mode s i v fits = header_is (set s (i * 8 + 3) v) i (with_mode (header_at s i) v) (store_same s i 3 v (omega arith) fits)

pub store-len : (s : List ℕ) (i v : ℕ) → i * 8 + 8 ≤ length s → header_at (set s (i * 8 + 4) v) i ≡ with_len (header_at s i) v
unfolding header_at
store-len s i v fits = header_is (set s (i * 8 + 4) v) i (with_len (header_at s i) v) (store_same s i 4 v (omega arith) fits)

-- ---- scalars

abbrev scalar_rest : Scalars → List ℕ
scalar_rest x = x.b ∷ x.c ∷ x.d ∷ x.e ∷ x.f ∷ x.g ∷ x.h ∷ []

scalars_of_lem : (l l' : List ℕ) → ((k : ℕ) → k < 8 → get_or l k 0 ≡ get_or l' k 0) → scalars_of l ≡ scalars_of l'
scalars_of_lem l l' at =
    λ t. record {
      a = at 0 (omega arith) t;
      b = at 1 (omega arith) t;
      c = at 2 (omega arith) t;
      d = at 3 (omega arith) t;
      e = at 4 (omega arith) t;
      f = at 5 (omega arith) t;
      g = at 6 (omega arith) t;
      h = at 7 (omega arith) t;
    }

scalars-is : (s : List ℕ) (i : ℕ) (l : List ℕ) → ((k : ℕ) → k < 8 → get_or s (i * 8 + k) 0 ≡ get_or l k 0) → scalars_at s i ≡ scalars_of l
unfolding scalars_at
scalars-is s i l w = scalars_of_lem (eight_at s i) l (λ k lk. eight_word s i k lk ∙ w k lk)

pub length-set_scalars : (s : List ℕ) (i : ℕ) (x : Scalars) → length (set_scalars s i x) ≡ length s
unfolding set_scalars
length-set_scalars s i x = length-set_eight s i x.a (scalar_rest x)

pub scalars_at-same : (s : List ℕ) (i : ℕ) (x : Scalars) → i * 8 + 8 ≤ length s → scalars_at (set_scalars s i x) i ≡ x
unfolding set_scalars
scalars_at-same s i x fits = scalars-is (set_scalars s i x) i (scalar_words x) (eight_same s i x.a (scalar_rest x) refl fits)

pub scalars_ext : (s s' : List ℕ) (j : ℕ) → ((k : ℕ) → k < 8 → get_or s' (j * 8 + k) 0 ≡ get_or s (j * 8 + k) 0) → scalars_at s' j ≡ scalars_at s j
unfolding scalars_at
scalars_ext s s' j w = scalars-is s' j (eight_at s j) (λ k l. w k l ∙ sym (eight_word s j k l))

pub scalars_at-other : (s : List ℕ) (i j : ℕ) (x : Scalars) → (j ≡ i → ⊥) → scalars_at (set_scalars s i x) j ≡ scalars_at s j
unfolding set_scalars
scalars_at-other s i j x ne = scalars_ext s (set_scalars s i x) j (eight_other s i j x.a (scalar_rest x) refl ne)

-- a store to word k of slot i
pub store_scalar : (s : List ℕ) (i k v : ℕ) → k < 8 → i * 8 + 8 ≤ length s → scalars_at (set s (i * 8 + k) v) i ≡ with_scalar (scalars_at s i) k v
unfolding scalars_at
store_scalar s i k v lk fits = scalars-is (set s (i * 8 + k) v) i (set (eight_at s i) k v) (store_same s i k v lk fits)

pub store_scalar_other : (s : List ℕ) (i j k v : ℕ) → k < 8 → (j ≡ i → ⊥) → scalars_at (set s (i * 8 + k) v) j ≡ scalars_at s j
store_scalar_other s i j k v lk ne = scalars_ext s (set s (i * 8 + k) v) j (store_else s i j k v lk ne)
