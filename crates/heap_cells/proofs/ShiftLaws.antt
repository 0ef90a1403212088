-- Regions listed from an entry on start later. Assumes nothing.
use Prim.Native.Nat.{ℕ, ◌+◌, ◌≤◌, ◌<◌}
use mathlib.Core.Path.{◌≡◌, refl, ap, sym, ◌∙◌}
use mathlib.Core.Logic.{◌⊎◌, inl, inr}
use mathlib.Core.List.{List}
use native.Mathlib.Omega.{arith}
use lib.ListN.{length, get_or}
use Rattle.heap_slots.specs.Limits.{CELLS_MAX}
use Rattle.heap_slots.specs.Header.{header_at, set_header, with_region}
use Rattle.heap_slots.specs.declared.Header.{Header}
use Rattle.heap_slots.proofs.Cases.{by_cases, same_or_not, lt_or_le}
use Rattle.heap_slots.proofs.HeaderLaws.{header_at-same, header_at-other, length-set_header}
use Rattle.heap_cells.specs.Regions.{Dead, Owned, Owners, Shifted, Shifting}
use Rattle.heap_cells.proofs.PackLaws.{owner}

-- ---- one entry

pub shift_nobody : {n k by : ℕ} {s : List ℕ} → Dead n k s → Shifted n k (k + 1) by s s
shift_nobody none = record { len = refl; moved = λ j lj nz a b. absurd (none j lj nz (omega arith)); stayed = λ j lj w. refl }

module _ {n k last by : ℕ} {s dir : List ℕ} (g : Shifting n k last by s dir) (l : k < last) where
  pub shifting_owners : Owners n k s dir
  shifting_owners = record { slots_max = g.slots_max; slots_fit = g.slots_fit; within = omega (arith, g.dir_fits); listed = g.listed }

  module _ {o : ℕ} {h : Header} (v : Owned n k s dir o h) where
    pub shift_fits : h.start + by ≤ 2097152
    shift_fits =
        let q : h.start ≤ CELLS_MAX = rw v.header (g.starts_max o v.within (rw (← v.header) v.some) (rw (← v.header) (omega (arith, v.entry)))) in
        omega (arith, g.by_max)

    pub shift_one : {s' : List ℕ} → s' ≡ set_header s o (with_region h h.size (h.start + by) h.entry) → Shifted n k (k + 1) by s s'
    shift_one {s'} es =
        let new : Header = with_region h h.size (h.start + by) h.entry in
        let here : header_at s' o ≡ new = ap (λ (q : List ℕ). header_at q o) es ∙ header_at-same s o new (omega (arith, g.slots_fit, v.within)) in
        let other : (j : ℕ) → (j ≡ o → ⊥) → header_at s' j ≡ header_at s j = λ j ne. ap (λ (q : List ℕ). header_at q j) es ∙ header_at-other s o j new ne in
        record {
          len = ap length es ∙ length-set_header s o new;
          moved = λ j lj zj a b.
              (let e : j ≡ o = owner shifting_owners j lj zj (omega arith) ∙ sym v.slot in
              rw e (here ∙ ap (λ (q : Header). with_region q q.size (q.start + by) q.entry) v.header));
          stayed = λ j lj w.
              other j
              (λ e.
              let q : h ≡ header_at s j = v.header ∙ ap (header_at s) (sym e) in
              let qs : h.size ≡ (header_at s j).size = ap (λ (a : Header). a.size) q in
              let qe : h.entry ≡ (header_at s j).entry = ap (λ (a : Header). a.entry) q in
              by_cases w (λ z. v.some (qs ∙ z)) (λ u. by_cases u (λ a. absurd (omega (arith, v.entry))) (λ b. absurd (omega (arith, v.entry)))));
        }

-- ---- one after another

pub shift_none : (n k by : ℕ) (s : List ℕ) → Shifted n k k by s s
shift_none n k by s = record { len = refl; moved = λ j lj nz a b. absurd (omega arith); stayed = λ j lj w. refl }

pub shift_trans : {n f k k' by : ℕ} {s s₁ s₂ : List ℕ} → Shifted n f k by s s₁ → Shifted n k k' by s₁ s₂ → f ≤ k → k ≤ k' → Shifted n f k' by s s₂
shift_trans {n} {f} {k} {k'} {by} {s} {s₁} {s₂} a b lf lk =
    record {
      len = b.len ∙ a.len;
      moved = λ j lj nz lo hi.
          by_cases (lt_or_le (header_at s j).entry k)
          (λ lt.
          let e = a.moved j lj nz lo lt in
          let en : (header_at s₁ j).entry ≡ (header_at s j).entry = ap (λ (q : Header). q.entry) e in
          b.stayed j lj (inr (inl (omega arith))) ∙ e)
          (λ ge.
          let e = a.stayed j lj (inr (inr ge)) in
          let en : (header_at s₁ j).entry ≡ (header_at s j).entry = ap (λ (q : Header). q.entry) e in
          let ez : (header_at s₁ j).size ≡ (header_at s j).size = ap (λ (q : Header). q.size) e in
          b.moved j lj (λ z. nz (sym ez ∙ z)) (omega arith) (omega arith) ∙ ap (λ (q : Header). with_region q q.size (q.start + by) q.entry) e);
      stayed = λ j lj w.
          (let e : header_at s₁ j ≡ header_at s j = a.stayed j lj (by_cases w (λ z. inl z) (λ v. inr (by_cases v (λ l. inl l) (λ u. inr (omega arith))))) in
          let en : (header_at s₁ j).entry ≡ (header_at s j).entry = ap (λ (q : Header). q.entry) e in
          let ez : (header_at s₁ j).size ≡ (header_at s j).size = ap (λ (q : Header). q.size) e in
          b.stayed j lj (by_cases w (λ z. inl (ez ∙ z)) (λ v. inr (by_cases v (λ l. inl (omega arith)) (λ u. inr (omega arith))))) ∙ e);
    }

-- the size and the entry of a slot stay
module _ {n f k by : ℕ} {s s' : List ℕ} (a : Shifted n f k by s s') where
  shifted_or_not : (j : ℕ) → j < n → (header_at s' j ≡ header_at s j) ⊎ (((header_at s j).entry < k) × (header_at s' j ≡ with_region (header_at s j) (header_at s j).size ((header_at s j).start + by) (header_at s j).entry))
  shifted_or_not j lj =
      by_cases (same_or_not (header_at s j).size 0)
      (λ z. inl (a.stayed j lj (inl z)))
      (λ nz.
      by_cases (lt_or_le (header_at s j).entry f)
      (λ l. inl (a.stayed j lj (inr (inl l))))
      (λ lo. by_cases (lt_or_le (header_at s j).entry k) (λ hi. inr (hi, a.moved j lj nz lo hi)) (λ u. inl (a.stayed j lj (inr (inr u))))))

  pub shifted_size : (j : ℕ) → j < n → (header_at s' j).size ≡ (header_at s j).size
  shifted_size j lj = by_cases (shifted_or_not j lj) (λ e. ap (λ (q : Header). q.size) e) (λ e. ap (λ (q : Header). q.size) e.1)

  pub shifted_entry : (j : ℕ) → j < n → (header_at s' j).entry ≡ (header_at s j).entry
  shifted_entry j lj = by_cases (shifted_or_not j lj) (λ e. ap (λ (q : Header). q.entry) e) (λ e. ap (λ (q : Header). q.entry) e.1)

  pub shifting_next : {last : ℕ} {dir : List ℕ} → Shifting n f last by s dir → f ≤ k → k ≤ last → Shifting n k last by s' dir
  shifting_next {last} {dir} g lf lk =
      record {
        slots_max = g.slots_max;
        slots_fit = omega (arith, g.slots_fit, a.len);
        dir_fits = g.dir_fits;
        dir_max = g.dir_max;
        k_last = lk;
        by_max = g.by_max;
        listed = λ j lj nz. ap (λ (e : ℕ). get_or dir e 0) (shifted_entry j lj) ∙ g.listed j lj (λ z. nz (shifted_size j lj ∙ z));
        starts_max = λ j lj nz le.
            by_cases (shifted_or_not j lj)
            (λ e. rw e (g.starts_max j lj (λ z. nz (shifted_size j lj ∙ z)) (omega (arith, shifted_entry j lj))))
            (λ e. absurd (omega (arith, shifted_entry j lj, e.0)));
      }
