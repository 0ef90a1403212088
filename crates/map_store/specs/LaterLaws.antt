-- Laws of the search for the first later sequence number.
use Rattle.std.specs.Prelude.{◌≡◌, ℕ, zero, suc, ◌+◌, ◌<◌, ◌≤◌, min, Bool, true, false, cond, List, [], ◌∷◌, length, nat_le, slice_index_or, refl}
use Rattle.std.proofs.Math.Decide.{ℕ_discrete}
use Rattle.std.proofs.Common.{arith, le-leb, lt-ltb, le-ltb, leb-false}
use Rattle.std.proofs.lemmas.Bool.{lt-leb}
use Rattle.map_store.specs.Store.{Entry, blank, one, first_later}
use Rattle.map_store.specs.Numbered.{Rising, rising_pairs}
use Rattle.map_store.specs.Later.{later, not_later, searched}

-- Of rising numbers, pos is the position that `next` goes on from.
none_earlier : (q lo : ℕ) (es : List Entry) (hi : ℕ) → q < lo → Rising lo es hi → not_later q es ≡ 0
unfolding not_later Rising
none_earlier q lo [] hi h r = refl
none_earlier q lo (e ∷ es) hi h r = rw (lt-leb e.seq q (omega (arith, r.0)), none_earlier q (suc e.seq) es hi (omega (arith, r.0)) r.1)

first-pick : (b : Bool) (n k : ℕ) → (b ≡ true → n ≡ k) → (b ≡ false → n ≡ 0) → one b + n ≡ cond b (suc k) 0
first-pick true n k f g = omega (arith, f refl)
first-pick false n k f g = omega (arith, g refl)

pub searched-first : (q lo : ℕ) (es : List Entry) (hi : ℕ) → Rising lo es hi → (searched q es).pos ≡ first_later q es
unfolding not_later first_later Rising
searched-first q lo [] hi r = refl
searched-first q lo (e ∷ es) hi r =
    first-pick (nat_le e.seq q) (not_later q es) (first_later q es)
    (λ t. searched-first q (suc e.seq) es hi r.1)
    (λ t. none_earlier q (suc e.seq) es hi (omega (arith, leb-false e.seq q t)) r.1)

-- A search under way: the entries from position p on are later.
pub record Passed (q p : ℕ) (es : List Entry) : Type 0 where
  pub within : p ≤ length es
  pub behind : (i : ℕ) → p ≤ i → i < length es → q < (slice_index_or es i blank).seq

pub passed_none : (q : ℕ) (es : List Entry) → Passed q (length es) es
passed_none q es = record { within = omega arith; behind = λ i l u. absurd (let z : ⊥ = omega arith in z) }

pub passed-one : (q p : ℕ) (es : List Entry) → Passed q (suc p) es → q < (slice_index_or es p blank).seq → Passed q p es
passed-one q p es P h =
    record {
      within = omega (arith, P.within);
      behind = λ i l u. elim (ℕ_discrete i p) [ yes c ↦ rw c h | no c ↦ P.behind i (omega arith) u ];
    }

passed-rest : (q p : ℕ) (e : Entry) (es : List Entry) → Passed q (suc p) (e ∷ es) → Passed q p es
passed-rest q p e es P = record { within = omega (arith, P.within); behind = λ i l u. P.behind (suc i) (omega arith) (omega arith) }

passed_later : (q : ℕ) (e : Entry) (es : List Entry) → Passed q 0 (e ∷ es) → Passed q 0 es
passed_later q e es P = record { within = omega arith; behind = λ i l u. P.behind (suc i) (omega arith) (omega arith) }

-- It ends at p where no entry before p is later: at an entry that is not, or at the front.
abbrev pub Ended : ℕ → ℕ → List Entry → Type 0
Ended q p es = (i : ℕ) → i < p → (slice_index_or es i blank).seq ≤ q

pub ended_at : (q p lo : ℕ) (es : List Entry) (hi : ℕ) → Rising lo es hi → p < length es → (slice_index_or es p blank).seq ≤ q → Ended q (suc p) es
ended_at q p lo es hi r l h i b = elim (ℕ_discrete i p) [ yes c ↦ rw c h | no c ↦ omega (arith, h, rising_pairs lo es hi i p r (omega arith) l) ]

pub ended-front : (q : ℕ) (es : List Entry) → Ended q 0 es
ended-front q es i l = absurd (let z : ⊥ = omega arith in z)

counts : (q p : ℕ) (es : List Entry) → Passed q p es → Ended q p es → (not_later q es ≡ p) × (later q es + p ≡ length es)
unfolding later not_later
counts q zero [] P E = (refl, refl)
counts q (suc p) [] P E = absurd (let z : ⊥ = omega (arith, P.within) in z)
counts q zero (e ∷ es) P E =
    let h : q < e.seq = P.behind 0 (omega arith) (omega arith) in
    let k = counts q zero es (passed_later q e es P) (ended-front q es) in
    rw (lt-leb e.seq q h, lt-ltb q e.seq h) (omega (arith, k.0), omega (arith, k.1))
counts q (suc p) (e ∷ es) P E =
    let h : e.seq ≤ q = E 0 (omega arith) in
    let k = counts q p es (passed-rest q p e es P) (λ i l. E (suc i) (omega arith)) in
    rw (le-leb e.seq q h, le-ltb q e.seq h) (omega (arith, k.0), omega (arith, k.1))

pub ended-searched : (q p n : ℕ) (es : List Entry) → Passed q p es → Ended q p es → n + p ≡ length es + min 1 p → record { pos = p; looked = n } ≡ searched q es
ended-searched q p n es P E h =
    let k = counts q p es P E in
    let e : n ≡ later q es + min 1 p = omega (arith, k.1) in
    rw (k.0, e)
