-- Compaction's step keeps its invariant and every slot but for its region's place. Assumes nothing.
use Prim.Native.Nat.{ℕ, ◌+◌, ◌≤◌, ◌<◌}
use mathlib.Core.Path.{◌≡◌, refl, ap, sym, ◌∙◌}
use mathlib.Core.Bool.{Bool, true, false, cond}
use mathlib.Core.Logic.{◌⊎◌, inl, inr}
use mathlib.Core.List.{List}
use native.Mathlib.Omega.{arith}
use lib.Dec.{ltb}
use lib.ListN.{length, get_or, set, length-set}
use lib.Seq.{get_or-set_same, get_or-set_other}
use borrow.Author.Tests.{lt-ltb, le-ltb}
use Rattle.heap_slots.specs.Header.{header_at, set_header, with_region}
use Rattle.heap_slots.specs.declared.Header.{Header}
use Rattle.heap_slots.proofs.Cases.{by_cases, same_or_not}
use Rattle.heap_slots.proofs.HeaderLaws.{header_at-same, header_at-other, length-set_header}
use Rattle.heap_cells.specs.declared.Top.{Top}
use Rattle.heap_cells.specs.Moves.{Moved}
use Rattle.heap_cells.specs.Regions.{Dead, Owned, Owners, RawSlot, raw_of, raw_at, sum_to, sizes_of, packed_size, packed_one, Sited, Packing, Packed, Kept, Laid, Compacted}
use Rattle.heap_cells.proofs.SumLaws.{sum_ext, sum_zero, sum_le, sum-put, sizes_ext}
use Rattle.heap_cells.proofs.RawLaws.{part_ext}

-- ---- what stays

pub kept_refl : (n : ℕ) (s dir c : List ℕ) → Kept n s dir c s dir c
kept_refl n s dir c = record { same = λ j l. refl; slots_len = refl; dir_len = refl; cells_len = refl }

pub kept_trans : {n : ℕ} {s dir c s₁ dir₁ c₁ s₂ dir₂ c₂ : List ℕ} → Kept n s dir c s₁ dir₁ c₁ → Kept n s₁ dir₁ c₁ s₂ dir₂ c₂ → Kept n s dir c s₂ dir₂ c₂
kept_trans a b = record { same = λ j l. b.same j l ∙ a.same j l; slots_len = b.slots_len ∙ a.slots_len; dir_len = b.dir_len ∙ a.dir_len; cells_len = b.cells_len ∙ a.cells_len }

-- the size is part of what stays
pub kept-size : {n : ℕ} {s dir c s' dir' c' : List ℕ} → Kept n s dir c s' dir' c' → (j : ℕ) → j < n → (header_at s' j).size ≡ (header_at s j).size
unfolding raw_at
kept-size k j l = ap (λ (r : RawSlot). r.size) (k.same j l)

pub kept_half : {n : ℕ} {s dir c s' dir' c' : List ℕ} → Kept n s dir c s' dir' c' → (j : ℕ) → j < n → (header_at s' j).half ≡ (header_at s j).half
unfolding raw_at
kept_half k j l = ap (λ (r : RawSlot). r.half) (k.same j l)

pub kept-kind : {n : ℕ} {s dir c s' dir' c' : List ℕ} → Kept n s dir c s' dir' c' → (j : ℕ) → j < n → (header_at s' j).kind ≡ (header_at s j).kind
unfolding raw_at
kept-kind k j l = ap (λ (r : RawSlot). r.kind) (k.same j l)

pub kept_sizes : {n : ℕ} {s dir c s' dir' c' : List ℕ} → Kept n s dir c s' dir' c' → sizes_of s' n ≡ sizes_of s n
kept_sizes {n} {s} {s' = s'} k = sizes_ext s s' n (kept-size k)

-- ---- an entry at which no region lies

pub owner : {n k : ℕ} {s dir : List ℕ} → Owners n k s dir → (j : ℕ) → j < n → ((header_at s j).size ≡ 0 → ⊥) → (header_at s j).entry ≡ k → j ≡ get_or dir k 0
owner {dir = dir} g j lj nz e = sym (ap (λ (a : ℕ). get_or dir a 0) (sym e) ∙ g.listed j lj nz)

pub packing_owners : {n last k to m : ℕ} {s dir c : List ℕ} → Packing n last k to m s dir c → k < last → Owners n k s dir
packing_owners g l = record { slots_max = g.slots_max; slots_fit = g.slots_fit; within = omega (arith, g.dir_fits); listed = λ j lj nz. (g.sited j lj nz).listed }

pub skip : {n last k to m : ℕ} {s dir c : List ℕ} → Packing n last k to m s dir c → k < last → Dead n k s → Packed n last (k + 1) to m s dir c s dir c
skip {n} {s = s} {dir = dir} {c = c} g l none =
    record {
      still = record {
        slots_max = g.slots_max;
        slots_fit = g.slots_fit;
        cells_max = g.cells_max;
        dir_fits = g.dir_fits;
        dir_max = g.dir_max;
        m_k = omega (arith, g.m_k);
        k_last = omega arith;
        to_fits = g.to_fits;
        inside = g.inside;
        sited = λ j lj nz.
            (let q = g.sited j lj nz in
            let ne = none j lj nz in
            record { listed = q.listed; side = by_cases q.side (λ a. inl a) (λ b. inr (omega arith, b.1, b.2)) });
        ordered = g.ordered;
        total = g.total;
        counted = g.counted;
      };
      kept = kept_refl n s dir c;
    }

cond_same : (b : Bool) → cond {A = ℕ} b 0 0 ≡ 0
cond_same true = refl
cond_same false = refl

-- ---- an entry at which its owner's region lies

module _ {n last k to m : ℕ} {s dir c : List ℕ} (g : Packing n last k to m s dir c) (l : k < last) {i : ℕ} {h : Header} (w : Owned n k s dir i h) where
  lo : get_or dir k 0 < n
  lo = rw (← w.slot) w.within

  eh : h ≡ header_at s (get_or dir k 0)
  eh = w.header ∙ ap (header_at s) w.slot

  nz : h.size ≡ 0 → ⊥
  nz = w.some

  ek : h.entry ≡ k
  ek = w.entry

  -- compaction has not reached it
  pub above : to ≤ h.start
  above =
      let q = g.sited (get_or dir k 0) lo (rw (← eh) nz) in
      let q' : ((h.entry < m) × (h.start + h.size ≤ to)) ⊎ ((k ≤ h.entry) × (h.entry < last) × (to ≤ h.start)) = rw eh q.side in
      by_cases q' (λ a. absurd (omega (arith, g.m_k))) (λ b. b.2)

  pub bounds : h.start + h.size ≤ length c
  bounds = rw eh (g.inside (get_or dir k 0) lo)

  beside : (j : ℕ) → j < n → (j ≡ get_or dir k 0 → ⊥) → ((header_at s j).size ≡ 0 → ⊥)
      → (((header_at s j).entry < m) × ((header_at s j).start + (header_at s j).size ≤ to)) ⊎ ((k + 1 ≤ (header_at s j).entry) × ((header_at s j).entry < last) × (to + h.size ≤ (header_at s j).start))
  beside j lj ne zj =
      let q = g.sited j lj zj in
      by_cases q.side
      (λ a. inl a)
      (λ b.
      let nk : (header_at s j).entry ≡ k → ⊥ = λ e. ne (sym (ap (λ (a : ℕ). get_or dir a 0) (sym e) ∙ q.listed)) in
      let lt : h.entry < (header_at s j).entry = omega arith in
      let ord : h.start + h.size ≤ (header_at s j).start = rw eh (g.ordered (get_or dir k 0) j lo lj (rw (← eh) nz) zj (rw (← eh) lt)) in
      inr (omega arith, b.1, omega (arith, above)))

  module _ {s' dir' c' : List ℕ} (mv : Moved c c' h.start to h.size) (es' : s' ≡ set_header s i (with_region h h.size to m)) (ed' : dir' ≡ set dir m i) where
    es : s' ≡ set_header s (get_or dir k 0) (with_region h h.size to m)
    es = es' ∙ ap (λ (a : ℕ). set_header s a (with_region h h.size to m)) w.slot

    ed : dir' ≡ set dir m (get_or dir k 0)
    ed = ed' ∙ ap (set dir m) w.slot

    here : header_at s' (get_or dir k 0) ≡ with_region h h.size to m
    here = ap (λ (q : List ℕ). header_at q (get_or dir k 0)) es ∙ header_at-same s (get_or dir k 0) (with_region h h.size to m) (omega (arith, g.slots_fit))

    is : (j : ℕ) → j ≡ get_or dir k 0 → header_at s' j ≡ with_region h h.size to m
    is j e = ap (header_at s') e ∙ here

    other : (j : ℕ) → (j ≡ get_or dir k 0 → ⊥) → header_at s' j ≡ header_at s j
    other j ne = ap (λ (q : List ℕ). header_at q j) es ∙ header_at-other s (get_or dir k 0) j (with_region h h.size to m) ne

    pack_sited : (j : ℕ) → j < n → ((header_at s' j).size ≡ 0 → ⊥) → Sited (header_at s' j) dir' last (k + 1) (to + h.size) (m + 1) j
    pack_sited j lj zj =
        by_cases (same_or_not j (get_or dir k 0))
        (λ e. rw (is j e)
        (record {
          listed = rw ed (get_or-set_same dir m (get_or dir k 0) 0 (omega (arith, g.m_k, g.dir_fits)) ∙ sym e);
          side = inl (omega arith);
        }))
        (λ ne.
        let zj' = rw (other j ne) at zj in
        let bs = beside j lj ne zj' in
        let nm : (header_at s j).entry ≡ m → ⊥ = by_cases bs (λ a. omega arith) (λ b. omega (arith, g.m_k)) in
        rw (other j ne)
        (record {
          listed = rw ed (get_or-set_other dir m (header_at s j).entry (get_or dir k 0) 0 nm ∙ (g.sited j lj zj').listed);
          side = by_cases bs (λ a. inl (omega arith)) (λ b. inr b);
        }))

    pack_ordered : (i j : ℕ) → i < n → j < n → ((header_at s' i).size ≡ 0 → ⊥) → ((header_at s' j).size ≡ 0 → ⊥) → (header_at s' i).entry < (header_at s' j).entry → (header_at s' i).start + (header_at s' i).size ≤ (header_at s' j).start
    pack_ordered i j li lj zi zj lt =
        by_cases (same_or_not i (get_or dir k 0))
        (λ ei.
        by_cases (same_or_not j (get_or dir k 0))
        (λ ej. absurd (let q : (header_at s' i).entry ≡ (header_at s' j).entry = ap (λ (a : ℕ). (header_at s' a).entry) (ei ∙ sym ej) in omega arith))
        (λ nj.
        let bs = beside j lj nj (rw (other j nj) at zj) in
        let lt' = rw (is i ei, other j nj) at lt in
        rw (is i ei, other j nj) (by_cases bs (λ a. absurd (omega arith)) (λ b. b.2))))
        (λ ni.
        by_cases (same_or_not j (get_or dir k 0))
        (λ ej.
        let bs = beside i li ni (rw (other i ni) at zi) in
        let lt' = rw (is j ej, other i ni) at lt in
        rw (is j ej, other i ni) (by_cases bs (λ a. a.1) (λ b. absurd (omega (arith, g.m_k)))))
        (λ nj. rw (other i ni, other j nj) (g.ordered i j li lj (rw (other i ni) at zi) (rw (other j nj) at zj) (rw (other i ni, other j nj) at lt))))

    -- a sum over the packed slots grows by what the owner counts
    pack_sum : (f : Header → ℕ) → ((h : Header) → h.size ≡ 0 → f h ≡ 0) → f (with_region h h.size to m) ≡ f h
        → sum_to (λ j. cond (ltb (header_at s' j).entry (m + 1)) (f (header_at s' j)) 0) n ≡ sum_to (λ j. cond (ltb (header_at s j).entry m) (f (header_at s j)) 0) n + f h
    pack_sum f fz fh =
        let o : ℕ = get_or dir k 0 in
        let zero : cond (ltb (header_at s o).entry m) (f (header_at s o)) 0 ≡ 0 =
        let ge : m ≤ (header_at s o).entry = rw (← eh) (omega (arith, g.m_k)) in
        rw (le-ltb _ _ ge) in
        let mine : cond (ltb (header_at s' o).entry (m + 1)) (f (header_at s' o)) 0 ≡ f h =
        let lt : m < m + 1 = omega arith in
        rw (here, lt-ltb _ _ lt) fh in
        let rest : (j : ℕ) → j < n → (j ≡ o → ⊥) → cond (ltb (header_at s' j).entry (m + 1)) (f (header_at s' j)) 0 ≡ cond (ltb (header_at s j).entry m) (f (header_at s j)) 0 =
        λ j lj ne.
        rw (other j ne)
        (by_cases (same_or_not (header_at s j).size 0)
        (λ z. rw (fz (header_at s j) z) (cond_same (ltb (header_at s j).entry (m + 1)) ∙ sym (cond_same (ltb (header_at s j).entry m))))
        (λ zj.
        by_cases (beside j lj ne zj)
        (λ a. let p : (header_at s j).entry < m + 1 = omega arith in rw (lt-ltb _ _ p, lt-ltb _ _ a.0))
        (λ b.
        let p : m + 1 ≤ (header_at s j).entry = omega (arith, g.m_k) in
        let q : m ≤ (header_at s j).entry = omega arith in
        rw (le-ltb _ _ p, le-ltb _ _ q)))) in
        omega (arith, sum-put (λ j. cond (ltb (header_at s j).entry m) (f (header_at s j)) 0) (λ j. cond (ltb (header_at s' j).entry (m + 1)) (f (header_at s' j)) 0) n o lo rest, zero, mine)

    pack_kept : (j : ℕ) → j < n → raw_at s' c' j ≡ raw_at s c j
    unfolding raw_at
    pack_kept j lj =
        by_cases (same_or_not j (get_or dir k 0))
        (λ e.
        rw (is j e, e, ← eh) (ap (raw_of h) (part_ext c c' h.start to h.size bounds (omega (arith, above, bounds, mv.len)) (λ r lr. mv.inside r lr))))
        (λ ne.
        rw (other j ne)
        (ap (raw_of (header_at s j))
        (part_ext c c' (header_at s j).start (header_at s j).start (header_at s j).size (g.inside j lj) (omega (arith, g.inside j lj, mv.len))
        (λ r lr.
        mv.outside ((header_at s j).start + r)
        (by_cases (beside j lj ne (λ z. absurd (omega arith))) (λ a. inl (omega arith)) (λ b. inr (omega arith)))))))

    pub pack_step : Packed n last (k + 1) (to + h.size) (m + 1) s dir c s' dir' c'
    pack_step =
        let le = above in
        let bd = bounds in
        let sl : length s' ≡ length s = ap length es ∙ length-set_header s (get_or dir k 0) (with_region h h.size to m) in
        let dl : length dir' ≡ length dir = ap length ed ∙ length-set dir m (get_or dir k 0) in
        let cl = mv.len in
        let mk = g.m_k in
        record {
          still = record {
            slots_max = g.slots_max;
            slots_fit = omega (arith, g.slots_fit);
            cells_max = omega (arith, g.cells_max);
            dir_fits = omega (arith, g.dir_fits);
            dir_max = g.dir_max;
            m_k = omega arith;
            k_last = omega arith;
            to_fits = omega arith;
            inside = λ j lj. by_cases (same_or_not j (get_or dir k 0)) (λ e. rw (is j e) (omega arith)) (λ ne. rw (other j ne) (omega (arith, g.inside j lj)));
            sited = pack_sited;
            ordered = pack_ordered;
            total = omega (arith, g.total, pack_sum (λ h. h.size) (λ h z. z) refl);
            counted =
                (let one : cond {A = ℕ} (ltb 0 h.size) 1 0 ≡ 1 = (let p : 0 < h.size = omega arith in rw (lt-ltb _ _ p)) in
                omega (arith, g.counted, pack_sum (λ h. cond (ltb 0 h.size) 1 0) (λ h z. rw z) refl, one));
          };
          kept = record { same = pack_kept; slots_len = sl; dir_len = dl; cells_len = cl };
        }

-- ---- compaction begins and ends

one_le : (a b : Bool) → cond {A = ℕ} a (cond b 1 0) 0 ≤ 1
one_le true true = omega arith
one_le true false = omega arith
one_le false b = omega arith

pack_begin : {n top m : ℕ} {s dir c : List ℕ} → Laid n top m s dir c → Packing n m 0 0 0 s dir c
pack_begin {n} {top} {m} {s} g =
    record {
      slots_max = g.slots_max;
      slots_fit = g.slots_fit;
      cells_max = g.cells_max;
      dir_fits = g.dir_fits;
      dir_max = g.dir_max;
      m_k = omega arith;
      k_last = omega arith;
      to_fits = omega arith;
      inside = g.inside;
      sited = λ j lj nz. (let q = g.listed j lj nz in record { listed = q.1; side = inr (omega arith, q.0, omega arith) });
      ordered = g.ordered;
      counted = sym (sum_zero (packed_one 0 s) n (λ j lj. let z : 0 ≤ (header_at s j).entry = omega arith in rw (le-ltb _ _ z)));
      total = sym (sum_zero (packed_size 0 s) n (λ j lj. let z : 0 ≤ (header_at s j).entry = omega arith in rw (le-ltb _ _ z)));
    }

pub packed_begin : {n top m : ℕ} {s dir c : List ℕ} → Laid n top m s dir c → Packed n m 0 0 0 s dir c s dir c
packed_begin {n} {s = s} {dir = dir} {c = c} g = record { still = pack_begin g; kept = kept_refl n s dir c }

pub packed_trans : {n last k k' to to' m m' : ℕ} {s dir c s₁ dir₁ c₁ s₂ dir₂ c₂ : List ℕ} → Packed n last k to m s dir c s₁ dir₁ c₁ → Packed n last k' to' m' s₁ dir₁ c₁ s₂ dir₂ c₂ → Packed n last k' to' m' s dir c s₂ dir₂ c₂
packed_trans a b = record { still = b.still; kept = kept_trans a.kept b.kept }

pub pack_end : {n last k : ℕ} {t : Top} {s dir c s₀ dir₀ c₀ : List ℕ} → Packed n last k t.cells t.entries s₀ dir₀ c₀ s dir c → last ≤ k → Compacted n t s₀ dir₀ c₀ s dir c
pack_end {n} {last} {k} {t} {s} {s₀ = s₀} pk l =
    let g = pk.still in
    let m : ℕ = t.entries in
    let done : (j : ℕ) → j < n → ((header_at s j).size ≡ 0 → ⊥) → ((header_at s j).entry < m) × ((header_at s j).start + (header_at s j).size ≤ t.cells) =
    λ j lj nz. by_cases (g.sited j lj nz).side (λ a. a) (λ b. absurd (omega (arith, b))) in
    record {
      laid = record {
        slots_max = g.slots_max;
        slots_fit = g.slots_fit;
        cells_max = g.cells_max;
        dir_fits = omega arith;
        dir_max = omega arith;
        top_fits = g.to_fits;
        inside = g.inside;
        below = λ j lj nz. (done j lj nz).1;
        listed = λ j lj nz. ((done j lj nz).0, (g.sited j lj nz).listed);
        ordered = g.ordered;
      };
      tight =
          g.total
          ∙ sum_ext (λ j. (header_at s j).size) (packed_size m s) n
          (λ j lj.
          by_cases (same_or_not (header_at s j).size 0)
          (λ z. rw z (cond_same (ltb (header_at s j).entry m)))
          (λ nz. rw (lt-ltb _ _ (done j lj nz).0)))
          ∙ sizes_ext s₀ s n (kept-size pk.kept);
      few = omega (arith, g.counted, sum_le (packed_one m s) n (λ j lj. one_le (ltb (header_at s j).entry m) (ltb 0 (header_at s j).size)));
      kept = pk.kept;
    }
