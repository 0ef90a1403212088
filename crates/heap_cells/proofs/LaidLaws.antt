-- A slot gets a region at the top, loses its region, or keeps it under another header. Assumes nothing.
use Prim.Native.Nat.{ℕ, ◌+◌, ◌*◌, ◌≤◌, ◌<◌}
use mathlib.Core.Path.{◌≡◌, refl, ap, sym, ◌∙◌}
use mathlib.Core.List.{List}
use native.Mathlib.Omega.{arith}
use lib.ListN.{length, get_or, set, length-set}
use lib.Seq.{get_or-set_same, get_or-set_other}
use Rattle.heap_slots.specs.Limits.{CELLS_MAX, DIRECTORY_MAX, SLOT_WORDS, SLOTS_MAX}
use Rattle.heap_slots.specs.Header.{header_at, set_header}
use Rattle.heap_slots.specs.declared.Header.{Header}
use Rattle.heap_slots.proofs.Cases.{by_cases, same_or_not}
use Rattle.heap_slots.proofs.HeaderLaws.{header_at-same, header_at-other, length-set_header}
use Rattle.heap_cells.specs.Regions.{Laid}

-- no slot has a region yet
pub laid-empty : (s dir c : List ℕ) → length c ≤ CELLS_MAX → Laid 0 0 0 s dir c
laid-empty s dir c l =
    record {
      slots_max = omega arith;
      slots_fit = omega arith;
      cells_max = l;
      dir_fits = omega arith;
      dir_max = omega arith;
      top_fits = omega arith;
      inside = λ j lj. absurd (omega arith);
      below = λ j lj. absurd (omega arith);
      listed = λ j lj. absurd (omega arith);
      ordered = λ a b la. absurd (omega arith);
    }

-- n' slots after the store, n before it: the same number, or one more
module _ {n top m : ℕ} {s dir c : List ℕ} (g : Laid n top m s dir c) (n' i : ℕ) (h : Header) (nm : n' ≤ SLOTS_MAX) (nf : n' * 8 ≤ length s) (li : i < n') (old : (j : ℕ) → j < n' → (j ≡ i → ⊥) → j < n) where
  is : (j : ℕ) → j ≡ i → header_at (set_header s i h) j ≡ h
  is j e = ap (header_at (set_header s i h)) e ∙ header_at-same s i h (omega arith)

  other : (j : ℕ) → (j ≡ i → ⊥) → header_at (set_header s i h) j ≡ header_at s j
  other j ne = header_at-other s i j h ne

  pub laid-put : h.start ≡ top → top + h.size ≤ length c → h.entry ≡ m → m < length dir → m < DIRECTORY_MAX → Laid n' (top + h.size) (m + 1) (set_header s i h) (set dir m i) c
  laid-put eo fit ed dl dm =
      let sl = length-set_header s i h in
      let dl' = length-set dir m i in
      record {
        slots_max = nm;
        slots_fit = omega arith;
        cells_max = g.cells_max;
        dir_fits = omega arith;
        dir_max = omega arith;
        top_fits = fit;
        inside = λ j lj. by_cases (same_or_not j i) (λ e. rw (is j e) (omega arith)) (λ ne. rw (other j ne) (g.inside j (old j lj ne)));
        below = λ j lj nz.
            by_cases (same_or_not j i)
            (λ e. rw (is j e) (omega arith))
            (λ ne. rw (other j ne) (let q = g.below j (old j lj ne) (rw (other j ne) at nz) in omega arith));
        listed = λ j lj nz.
            by_cases (same_or_not j i)
            (λ e. rw (is j e, ed) (omega arith, get_or-set_same dir m i 0 dl ∙ sym e))
            (λ ne.
            let q = g.listed j (old j lj ne) (rw (other j ne) at nz) in
            rw (other j ne) (omega arith, get_or-set_other dir m (header_at s j).entry i 0 (omega arith) ∙ q.1));
        ordered = λ a b la lb za zb lt.
            by_cases (same_or_not a i)
            (λ ea.
            by_cases (same_or_not b i)
            (λ eb. absurd (let q : (header_at (set_header s i h) a).entry ≡ (header_at (set_header s i h) b).entry = ap (λ (j : ℕ). (header_at (set_header s i h) j).entry) (ea ∙ sym eb) in omega arith))
            (λ nb.
            let q = g.listed b (old b lb nb) (rw (other b nb) at zb) in
            let lt' = rw (is a ea, other b nb) at lt in
            absurd (omega arith)))
            (λ na.
            by_cases (same_or_not b i)
            (λ eb.
            let q = g.below a (old a la na) (rw (other a na) at za) in
            rw (is b eb, other a na) (omega arith))
            (λ nb. rw (other a na, other b nb) (g.ordered a b (old a la na) (old b lb nb) (rw (other a na) at za) (rw (other b nb) at zb) (rw (other a na, other b nb) at lt))));
      }

  -- a header without cells
  pub laid-drop : h.start ≡ 0 → h.size ≡ 0 → Laid n' top m (set_header s i h) dir c
  laid-drop eo ez =
      let sl = length-set_header s i h in
      let out : (j : ℕ) → ((header_at (set_header s i h) j).size ≡ 0 → ⊥) → j ≡ i → ⊥ = λ j nz e. nz (ap (λ (h : Header). h.size) (is j e) ∙ ez) in
      record {
        slots_max = nm;
        slots_fit = omega arith;
        cells_max = g.cells_max;
        dir_fits = g.dir_fits;
        dir_max = g.dir_max;
        top_fits = g.top_fits;
        inside = λ j lj. by_cases (same_or_not j i) (λ e. rw (is j e) (omega arith)) (λ ne. rw (other j ne) (g.inside j (old j lj ne)));
        below = λ j lj nz. (let ne = out j nz in rw (other j ne) (g.below j (old j lj ne) (rw (other j ne) at nz)));
        listed = λ j lj nz. (let ne = out j nz in rw (other j ne) (g.listed j (old j lj ne) (rw (other j ne) at nz)));
        ordered = λ a b la lb za zb lt.
            (let na = out a za in
            let nb = out b zb in
            rw (other a na, other b nb) (g.ordered a b (old a la na) (old b lb nb) (rw (other a na) at za) (rw (other b nb) at zb) (rw (other a na, other b nb) at lt)));
      }

-- two headers with one region
pub record SameRegion (h h' : Header) : Type 0 where
  pub size : h'.size ≡ h.size
  pub start : h'.start ≡ h.start
  pub entry : h'.entry ≡ h.entry

module _ {n top m : ℕ} {s dir c : List ℕ} (g : Laid n top m s dir c) where
  -- every slot keeps its region
  pub laid_regions : (s' : List ℕ) → length s' ≡ length s → ((j : ℕ) → j < n → SameRegion (header_at s j) (header_at s' j)) → Laid n top m s' dir c
  laid_regions s' l h =
      let z : (j : ℕ) → j < n → ((header_at s' j).size ≡ 0 → ⊥) → (header_at s j).size ≡ 0 → ⊥ = λ j lj nz e. nz ((h j lj).size ∙ e) in
      record {
        slots_max = g.slots_max;
        slots_fit = omega (arith, g.slots_fit);
        cells_max = g.cells_max;
        dir_fits = g.dir_fits;
        dir_max = g.dir_max;
        top_fits = g.top_fits;
        inside = λ j lj. omega (arith, g.inside j lj, (h j lj).size, (h j lj).start);
        below = λ j lj nz. omega (arith, g.below j lj (z j lj nz), (h j lj).size, (h j lj).start);
        listed = λ j lj nz. (let q = g.listed j lj (z j lj nz) in (omega (arith, (h j lj).entry), ap (λ (e : ℕ). get_or dir e 0) (h j lj).entry ∙ q.1));
        ordered = λ a b la lb za zb lt.
            (let ha = h a la in
            let hb = h b lb in
            omega (arith, g.ordered a b la lb (z a la za) (z b lb zb) (omega arith)));
      }

  pub laid_same : (i : ℕ) (h : Header) → i < n → SameRegion (header_at s i) h → Laid n top m (set_header s i h) dir c
  laid_same i h li r =
      laid_regions (set_header s i h) (length-set_header s i h)
      (λ j lj.
      by_cases (same_or_not j i)
      (λ e. rw (ap (header_at (set_header s i h)) e ∙ header_at-same s i h (omega (arith, g.slots_fit)), e) r)
      (λ ne. rw (header_at-other s i j h ne) (record { size = refl; start = refl; entry = refl })))

  -- a word of a header that is not of its region
  pub laid_word : (i k v : ℕ) → k < 5 → Laid n top m (set s (i * SLOT_WORDS + k) v) dir c
  unfolding header_at
  laid_word i k v lk =
      laid_regions (set s (i * SLOT_WORDS + k) v) (length-set s (i * SLOT_WORDS + k) v)
      (λ j lj.
      record {
        size = get_or-set_other s (i * SLOT_WORDS + k) (j * SLOT_WORDS + 5) v 0 (omega arith);
        start = get_or-set_other s (i * SLOT_WORDS + k) (j * SLOT_WORDS + 6) v 0 (omega arith);
        entry = get_or-set_other s (i * SLOT_WORDS + k) (j * SLOT_WORDS + 7) v 0 (omega arith);
      })
