-- That a store is good has at most one proof.
use Rattle.std.specs.Prelude.{◌≡◌, ℕ, suc, ◌+◌, ◌*◌, ◌^◌, ◌<◌, ◌≤◌, ◌≢◌, List, [], ◌∷◌, slice_index}
use Rattle.std.proofs.Common.{sym, ap, ◌∙◌, arith}
use Rattle.std.proofs.Math.Pow.{pow-lt}
use Rattle.std.proofs.Math.Bridge.{le_prop}
use Rattle.std.proofs.Math.Nat.{ℕ_set}
use Rattle.std.proofs.Math.Decide.{dec_lt}
use mathlib.Core.HLevel.{Σ_prop_path}
use Rattle.probing.specs.Probing.{EMPTY}
use Rattle.probing.specs.Mask.{IsPow}
use Rattle.probing.specs.Table.{Table}
use Rattle.probing.specs.Shift.{once}
use Rattle.map_store.specs.Half.{held, Marked}
use Rattle.map_store.specs.Store as S
use Rattle.map_store.specs.Numbered.{Rising}
use Rattle.map_store.specs.View.{store_of}
use Rattle.map_store.specs.Map.{Mapped, Alive, hash_of, Indexed, Good}
use Rattle.map_store.specs.declared.MapStore.{MapStore}

power-once : (a b : ℕ) → 2 ^ a ≡ 2 ^ b → a ≡ b
power-once a b e =
    elim (dec_lt a b) [
      | yes l ↦ (let q : 2 ^ a < 2 ^ b = pow-lt l in absurd (omega (arith, e, q)))
      | no g ↦
          elim (dec_lt b a) [
            | yes l ↦ (let q : 2 ^ b < 2 ^ a = pow-lt l in absurd (omega (arith, e, q)))
            | no h ↦ omega arith
          ]
    ]

pow-prop : (n : ℕ) → IsProp (IsPow n)
pow-prop n x y = Σ_prop_path {B = λ k. n ≡ 2 ^ k} (λ k. ℕ_set n (2 ^ k)) (power-once x.0 y.0 (sym x.1 ∙ y.1))

rising-prop : (lo : ℕ) (es : List S.Entry) (hi : ℕ) → IsProp (Rising lo es hi)
unfolding Rising
rising-prop lo [] hi = le_prop
rising-prop lo (e ∷ es) hi = let rest = rising-prop (suc e.seq) es hi in hlevel (le_prop, rest)

module _ (n : ℕ) (H : ℕ → ℕ) (L : ℕ → Type 0) (I : ℕ → ℕ) (alive : (p : ℕ) → IsProp (L p)) where
  seat-prop : Table n H L I → (p : ℕ) → L p → IsProp ((s : ℕ) × (s < n) × (s ≢ n) × (I s ≡ p))
  seat-prop T p l x y =
      let full : I x.0 ≢ EMPTY = (λ e. let few = T.small p l in omega (arith, x.3, e)) in
      let same : x.0 ≡ y.0 = once n H L I n T.seated x.0 y.0 x.1 y.1 x.2 y.2 full (x.3 ∙ sym y.3) in
      ap (λ (v : (s : ℕ) × ((s < n) × (s ≢ n) × (I s ≡ p))). (v.0, v.1.0, v.1.1, v.1.2))
      (Σ_prop_path {B = λ s. (s < n) × (s ≢ n) × (I s ≡ p)} (λ s. hlevel (le_prop, ℕ_set)) {u = (x.0, (x.1, x.2, x.3))} {v = (y.0, (y.1, y.2, y.3))} same)

  table-prop : IsProp (Table n H L I)
  table-prop X Y =
      let seat = seat-prop X in
      let size = pow-prop n in
      let one : IsProp (Table n H L I) = hlevel (le_prop, ℕ_set, alive, seat, size) in
      one X Y

pub good-prop : (s : MapStore) (cells : List ℕ) → IsProp (Good s cells)
good-prop s cells =
    let rising = rising-prop 0 (store_of s cells).entries (store_of s cells).next_seq in
    let table = table-prop s.index (hash_of cells) (Alive cells s.len) (held cells (s.capacity * 5)) (λ p. hlevel (le_prop, ℕ_set)) in
    hlevel (le_prop, ℕ_set, rising, table)
