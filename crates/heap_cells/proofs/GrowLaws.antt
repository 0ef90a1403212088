-- A region grows: where it lies at the top, at a new place, or by moving up the cells above it. Assumes nothing.
use Prim.Native.Nat.{ℕ, ◌+◌, ◌*◌, ◌-◌, ◌≤◌, ◌<◌}
use mathlib.Core.Path.{◌≡◌, refl, ap, sym, ◌∙◌}
use mathlib.Core.Logic.{inl, inr}
use mathlib.Core.List.{List}
use native.Mathlib.Omega.{arith}
use lib.ListN.{length, get_or, set, take, drop, length-set}
use lib.Seq.{take-take}
use Rattle.heap_slots.specs.Limits.{CELLS_MAX, DIRECTORY_MAX, SLOT_WORDS}
use Rattle.heap_slots.specs.Header.{header_at, set_header, with_region}
use Rattle.heap_slots.specs.declared.Header.{Header}
use Rattle.heap_slots.proofs.Cases.{by_cases, same_or_not, lt_or_le}
use Rattle.heap_slots.proofs.HeaderLaws.{header_at-same, header_at-other, length-set_header}
use Rattle.heap_cells.specs.declared.Top.{Top}
use Rattle.heap_cells.specs.Moves.{Moved}
use Rattle.heap_cells.specs.Raw.{header_from}
use Rattle.heap_cells.specs.Regions.{RawSlot, raw_of, region_of, raw_at, sizes_of, Laid, Growing, Grown, Shifted, Shifting, Compacted}
use Rattle.heap_cells.proofs.SumLaws.{sum-put}
use Rattle.heap_cells.proofs.RawLaws.{part_ext, raw-kept, raw-other, raw_above, raw-cells-kept, laid_cells}
use Rattle.heap_cells.proofs.LaidLaws.{laid-put}
use Rattle.heap_cells.proofs.PackLaws.{kept-size}

abbrev pub top_of : ℕ → ℕ → Top
top_of cells entries = record { cells = cells; entries = entries }

-- the first cells of the new region are those of the old one
front : (h : Header) (size start : ℕ) (c c' : List ℕ) → h.size ≤ size → h.start + h.size ≤ length c → start + h.size ≤ length c' → ((r : ℕ) → r < h.size → get_or c' (start + r) 0 ≡ get_or c (h.start + r) 0)
    → take h.size (take size (drop start c')) ≡ region_of h c
front h size start c c' l a b e = take-take h.size size (drop start c') l ∙ part_ext c c' h.start start h.size a b e

-- what widening in place asks of the numbers
pub record WidenFits (h : Header) (size : ℕ) (t : Top) (c : List ℕ) : Type 0 where
  pub more : h.size ≤ size
  pub end : h.start + h.size ≤ t.cells
  pub top : t.cells + (size - h.size) ≤ length c
  pub cells : length c ≤ CELLS_MAX
  pub entry : h.entry < t.entries
  pub entries : t.entries ≤ DIRECTORY_MAX

module _ {n i size : ℕ} {t : Top} {s dir c : List ℕ} (gr : Growing n i size t s dir c) where
  grown-at : {t' : Top} {s' dir' c' : List ℕ} (start entry : ℕ) → header_at s' i ≡ with_region (header_at s i) size start entry → Laid n t'.cells t'.entries s' dir' c'
      → start + (header_at s i).size ≤ length c' → ((r : ℕ) → r < (header_at s i).size → get_or c' (start + r) 0 ≡ get_or c ((header_at s i).start + r) 0)
      → ((j : ℕ) → j < n → (j ≡ i → ⊥) → raw_at s' c' j ≡ raw_at s c j)
      → length s' ≡ length s → length dir' ≡ length dir → length c' ≡ length c → Grown n i size t' s dir c s' dir' c'
  grown-at {t'} {s'} {dir'} {c'} start entry here laid b e others sl dl cl =
      record {
        laid = laid;
        header = rw here;
        front = rw here (front (header_at s i) size start c c' gr.more (gr.laid.inside i gr.within) b e);
        others = others;
        slots_len = sl;
        dir_len = dl;
        cells_len = cl;
      }

  fits : i * SLOT_WORDS + SLOT_WORDS ≤ length s
  fits = omega (arith, gr.laid.slots_fit, gr.within)

  -- ---- at the top

  module _ (nz : (header_at s i).size ≡ 0 → ⊥) (ends : (header_at s i).start + (header_at s i).size ≡ t.cells) (room : (header_at s i).start + size ≤ length c) where
    extended : Laid n ((header_at s i).start + size) t.entries (set_header s i (with_region (header_at s i) size (header_at s i).start (header_at s i).entry)) dir c
    extended =
        let g = gr.laid in
        let h : Header = header_at s i in
        let new : Header = with_region h size h.start h.entry in
        let is : (j : ℕ) → j ≡ i → header_at (set_header s i new) j ≡ new = λ j e. ap (header_at (set_header s i new)) e ∙ header_at-same s i new fits in
        let other : (j : ℕ) → (j ≡ i → ⊥) → header_at (set_header s i new) j ≡ header_at s j = λ j ne. header_at-other s i j new ne in
        let sl = length-set_header s i new in
        let mo = gr.more in
        record {
          slots_max = g.slots_max;
          slots_fit = omega (arith, g.slots_fit);
          cells_max = g.cells_max;
          dir_fits = g.dir_fits;
          dir_max = g.dir_max;
          top_fits = room;
          inside = λ j lj. by_cases (same_or_not j i) (λ e. rw (is j e) room) (λ ne. rw (other j ne) (g.inside j lj));
          below = λ j lj zj.
              by_cases (same_or_not j i)
              (λ e. rw (is j e) (omega arith))
              (λ ne. rw (other j ne) (let q = g.below j lj (rw (other j ne) at zj) in omega arith));
          listed = λ j lj zj.
              by_cases (same_or_not j i)
              (λ e. rw (is j e, e) (g.listed i gr.within nz))
              (λ ne. rw (other j ne) (g.listed j lj (rw (other j ne) at zj)));
          ordered = λ a b la lb za zb lt.
              by_cases (same_or_not a i)
              (λ ea.
              by_cases (same_or_not b i)
              (λ eb. absurd (let q : (header_at (set_header s i new) a).entry ≡ (header_at (set_header s i new) b).entry = ap (λ (j : ℕ). (header_at (set_header s i new) j).entry) (ea ∙ sym eb) in omega arith))
              (λ nb.
              let zb' = rw (other b nb) at zb in
              let lt' = rw (is a ea, other b nb) at lt in
              absurd (omega (arith, g.ordered i b gr.within lb nz zb' lt', g.below b lb zb', zb'))))
              (λ na.
              by_cases (same_or_not b i)
              (λ eb. rw (other a na, is b eb) (g.ordered a i la gr.within (rw (other a na) at za) nz (rw (other a na, is b eb) at lt)))
              (λ nb. rw (other a na, other b nb) (g.ordered a b la lb (rw (other a na) at za) (rw (other b nb) at zb) (rw (other a na, other b nb) at lt))));
        }

    pub extend_fits : {h : Header} → h ≡ header_at s i → h.start + size ≤ CELLS_MAX
    extend_fits eh = rw eh (omega (arith, room, gr.laid.cells_max))

    pub grown_top : {h : Header} {s' : List ℕ} → h ≡ header_at s i → s' ≡ set_header s i (with_region h size h.start h.entry) → Grown n i size (top_of (h.start + size) t.entries) s dir c s' dir c
    grown_top {h} {s'} eh es =
        let new : Header = with_region (header_at s i) size (header_at s i).start (header_at s i).entry in
        let es' : s' ≡ set_header s i new = es ∙ ap (λ (q : Header). set_header s i (with_region q size q.start q.entry)) eh in
        rw (eh, es')
        (grown-at {t' = top_of ((header_at s i).start + size) t.entries} (header_at s i).start (header_at s i).entry (header_at-same s i new fits) extended
        (gr.laid.inside i gr.within) (λ r l. refl) (λ j lj ne. raw-other s c i j new ne) (length-set_header s i new) refl refl)

  -- ---- at a new place

  pub lift_fits : {h : Header} → t.cells + size ≤ length c → h ≡ header_at s i → ((h.size ≡ 0 → ⊥) → h.start ≤ t.cells) × (t.cells + h.size ≤ length c) × (length c ≤ CELLS_MAX)
  lift_fits room eh = rw eh ((λ nz. omega (arith, gr.laid.below i gr.within nz)), omega (arith, gr.more), gr.laid.cells_max)

  pub grown-moved : {h : Header} {s' dir' c' : List ℕ} → t.cells + size ≤ length c → t.entries < length dir → t.entries < DIRECTORY_MAX → h ≡ header_at s i → Moved c c' h.start t.cells h.size
      → s' ≡ set_header s i (with_region h size t.cells t.entries) → dir' ≡ set dir t.entries i → Grown n i size (top_of (t.cells + size) (t.entries + 1)) s dir c s' dir' c'
  grown-moved {h} {s'} {dir'} {c'} room de dm eh mv es ed =
      let new : Header = with_region (header_at s i) size t.cells t.entries in
      let es' : s' ≡ set_header s i new = es ∙ ap (λ (q : Header). set_header s i (with_region q size t.cells t.entries)) eh in
      let mv' : Moved c c' (header_at s i).start t.cells (header_at s i).size = rw eh at mv in
      let g = gr.laid in
      let mo = gr.more in
      let cl = mv'.len in
      let laid : Laid n (t.cells + size) (t.entries + 1) (set_header s i new) (set dir t.entries i) c =
      laid-put g n i new g.slots_max g.slots_fit gr.within (λ j lj ne. lj) refl room refl de dm in
      rw (es', ed)
      (grown-at {t' = top_of (t.cells + size) (t.entries + 1)} t.cells t.entries (header_at-same s i new fits) (laid_cells laid c' cl)
      (omega arith) (λ r l. mv'.inside r l)
      (λ j lj ne. raw-other s c' i j new ne ∙ raw_above g c' cl (λ q l. mv'.outside q (inl l)) j lj)
      (length-set_header s i new) (length-set dir t.entries i) cl)

  -- ---- in place, the cells above moved up

  module _ (nz : (header_at s i).size ≡ 0 → ⊥) (room : t.cells + size ≤ length c + (header_at s i).size) where
    pub widen_fits : {h : Header} → h ≡ header_at s i → WidenFits h size t c
    widen_fits eh =
        rw eh
        (record {
          more = gr.more;
          end = gr.laid.below i gr.within nz;
          top = omega (arith, gr.more);
          cells = gr.laid.cells_max;
          entry = (gr.laid.listed i gr.within nz).0;
          entries = gr.laid.dir_max;
        })

    pub widen_shifting : {h : Header} → h ≡ header_at s i → Shifting n (h.entry + 1) t.entries (size - h.size) s dir
    widen_shifting eh =
        let g = gr.laid in
        rw eh
        (record {
          slots_max = g.slots_max;
          slots_fit = g.slots_fit;
          dir_fits = g.dir_fits;
          dir_max = g.dir_max;
          k_last = omega (arith, (g.listed i gr.within nz).0);
          by_max = omega (arith, g.cells_max);
          listed = λ j lj zj. (g.listed j lj zj).1;
          starts_max = λ j lj zj l. omega (arith, g.inside j lj, g.cells_max);
        })

    module _ {s₁ s' c' : List ℕ}
        (mv : Moved c c' ((header_at s i).start + (header_at s i).size) ((header_at s i).start + (header_at s i).size + (size - (header_at s i).size)) (t.cells - ((header_at s i).start + (header_at s i).size)))
        (sh : Shifted n ((header_at s i).entry + 1) t.entries (size - (header_at s i).size) s s₁)
        (es : s' ≡ set_header s₁ i (with_region (header_at s i) size (header_at s i).start (header_at s i).entry)) where
      is : header_at s' i ≡ with_region (header_at s i) size (header_at s i).start (header_at s i).entry
      is = ap (λ (q : List ℕ). header_at q i) es ∙ header_at-same s₁ i (with_region (header_at s i) size (header_at s i).start (header_at s i).entry) (omega (arith, fits, sh.len))

      other : (j : ℕ) → (j ≡ i → ⊥) → header_at s' j ≡ header_at s₁ j
      other j ne = ap (λ (q : List ℕ). header_at q j) es ∙ header_at-other s₁ i j (with_region (header_at s i) size (header_at s i).start (header_at s i).entry) ne

      -- a slot without cells, and where another's region lies
      empty : (j : ℕ) → j < n → (header_at s j).size ≡ 0 → header_at s' j ≡ header_at s j
      empty j lj z = other j (λ e. nz (rw (← e) z)) ∙ sh.stayed j lj (inl z)

      apart : (j : ℕ) → j < n → (j ≡ i → ⊥) → ((header_at s j).size ≡ 0 → ⊥) → (header_at s j).entry ≡ (header_at s i).entry → ⊥
      apart j lj ne zj e = ne (sym (gr.laid.listed j lj zj).1 ∙ ap (λ (q : ℕ). get_or dir q 0) e ∙ (gr.laid.listed i gr.within nz).1)

      low : (j : ℕ) → j < n → (header_at s j).entry < (header_at s i).entry → header_at s' j ≡ header_at s j
      low j lj lt = other j (λ e. absurd (let q : (header_at s j).entry ≡ (header_at s i).entry = ap (λ (a : ℕ). (header_at s a).entry) e in omega arith)) ∙ sh.stayed j lj (inr (inl (omega arith)))

      high : (j : ℕ) → j < n → ((header_at s j).size ≡ 0 → ⊥) → (header_at s i).entry < (header_at s j).entry
          → header_at s' j ≡ with_region (header_at s j) (header_at s j).size ((header_at s j).start + (size - (header_at s i).size)) (header_at s j).entry
      high j lj zj lt =
          other j (λ e. absurd (let q : (header_at s j).entry ≡ (header_at s i).entry = ap (λ (a : ℕ). (header_at s a).entry) e in omega arith))
          ∙ sh.moved j lj zj (omega arith) (gr.laid.listed j lj zj).0

      -- a region after the widening
      record Wide (j : ℕ) : Type 0 where
        entry : (header_at s' j).entry ≡ (header_at s j).entry
        same : (header_at s j).entry < (header_at s i).entry → (header_at s' j).start + (header_at s' j).size ≡ (header_at s j).start + (header_at s j).size
        still : (header_at s j).entry ≤ (header_at s i).entry → (header_at s' j).start ≡ (header_at s j).start
        later : (header_at s i).entry < (header_at s j).entry → (header_at s' j).start ≡ (header_at s j).start + (size - (header_at s i).size)
        ends : (header_at s' j).start + (header_at s' j).size ≤ (header_at s j).start + (header_at s j).size + (size - (header_at s i).size)

      wide : (j : ℕ) → j < n → ((header_at s j).size ≡ 0 → ⊥) → Wide j
      wide j lj zj =
          by_cases (same_or_not j i)
          (λ e.
          rw e
          (record {
            entry = rw is;
            same = λ l. absurd (omega arith);
            still = λ l. rw is;
            later = λ l. absurd (omega arith);
            ends = rw is (omega (arith, gr.more));
          }))
          (λ ne.
          by_cases (lt_or_le (header_at s j).entry (header_at s i).entry)
          (λ lt.
          let e = low j lj lt in
          record { entry = rw e; same = λ l. rw e; still = λ l. rw e; later = λ l. absurd (omega arith); ends = rw e (omega arith) })
          (λ ge.
          let lt : (header_at s i).entry < (header_at s j).entry = omega (arith, apart j lj ne zj) in
          let e = high j lj zj lt in
          record { entry = rw e; same = λ l. absurd (omega arith); still = λ l. absurd (omega arith); later = λ l. rw e; ends = rw e (omega arith) }))

      filled : (j : ℕ) → j < n → ((header_at s' j).size ≡ 0 → ⊥) → (header_at s j).size ≡ 0 → ⊥
      filled j lj zj z = zj (ap (λ (q : Header). q.size) (empty j lj z) ∙ z)

      widened : Laid n (t.cells + (size - (header_at s i).size)) t.entries s' dir c'
      widened =
          let g = gr.laid in
          let mo = gr.more in
          let sl : length s' ≡ length s = ap length es ∙ length-set_header s₁ i (with_region (header_at s i) size (header_at s i).start (header_at s i).entry) ∙ sh.len in
          let cl = mv.len in
          let end : (j : ℕ) → j < n → ((header_at s j).size ≡ 0 → ⊥) → (header_at s' j).start + (header_at s' j).size ≤ t.cells + (size - (header_at s i).size) =
          λ j lj zj. omega (arith, (wide j lj zj).ends, g.below j lj zj) in
          record {
            slots_max = g.slots_max;
            slots_fit = omega (arith, g.slots_fit);
            cells_max = omega (arith, g.cells_max);
            dir_fits = g.dir_fits;
            dir_max = g.dir_max;
            top_fits = omega arith;
            inside = λ j lj.
                by_cases (same_or_not (header_at s j).size 0)
                (λ z. rw (empty j lj z) (omega (arith, g.inside j lj)))
                (λ zj. omega (arith, end j lj zj));
            below = λ j lj zj. end j lj (filled j lj zj);
            listed = λ j lj zj.
                (let q = g.listed j lj (filled j lj zj) in
                let e = (wide j lj (filled j lj zj)).entry in
                (omega arith, ap (λ (a : ℕ). get_or dir a 0) e ∙ q.1));
            ordered = λ a b la lb za zb lt.
                (let wa = wide a la (filled a la za) in
                let wb = wide b lb (filled b lb zb) in
                let ea = wa.entry in
                let eb = wb.entry in
                let ord = g.ordered a b la lb (filled a la za) (filled b lb zb) (omega arith) in
                by_cases (lt_or_le (header_at s i).entry (header_at s b).entry)
                (λ l. omega (arith, wa.ends, wb.later l))
                (λ u. omega (arith, wa.same (omega arith), wb.still u)));
          }

      widened_others : (j : ℕ) → j < n → (j ≡ i → ⊥) → raw_at s' c' j ≡ raw_at s c j
      unfolding raw_at
      widened_others j lj ne =
          let g = gr.laid in
          let mo = gr.more in
          let cl = mv.len in
          by_cases (same_or_not (header_at s j).size 0)
          (λ z. raw-kept s s' c' j (empty j lj z) ∙ raw-cells-kept g c' cl j lj (λ q a b. absurd (omega arith)))
          (λ zj.
          by_cases (lt_or_le (header_at s j).entry (header_at s i).entry)
          (λ lt.
          raw-kept s s' c' j (low j lj lt)
          ∙ raw-cells-kept g c' cl j lj (λ q a b. mv.outside q (inl (omega (arith, g.ordered j i lj gr.within zj nz lt)))))
          (λ ge.
          let lt : (header_at s i).entry < (header_at s j).entry = omega (arith, apart j lj ne zj) in
          let ord = g.ordered i j gr.within lj nz zj lt in
          let bl = g.below j lj zj in
          rw (high j lj zj lt)
          (ap (raw_of (header_at s j))
          (part_ext c c' (header_at s j).start ((header_at s j).start + (size - (header_at s i).size)) (header_at s j).size (g.inside j lj) (omega arith)
          (λ r lr.
          let k : ℕ = (header_at s j).start + r - ((header_at s i).start + (header_at s i).size) in
          ap (λ (q : ℕ). get_or c' q 0) (omega arith) ∙ mv.inside k (omega arith) ∙ ap (λ (q : ℕ). get_or c q 0) (omega arith))))))

      grown_wide : Grown n i size (top_of (t.cells + (size - (header_at s i).size)) t.entries) s dir c s' dir c'
      grown_wide =
          let g = gr.laid in
          let mo = gr.more in
          let cl = mv.len in
          grown-at {t' = top_of (t.cells + (size - (header_at s i).size)) t.entries} (header_at s i).start (header_at s i).entry is widened
          (omega (arith, g.inside i gr.within))
          (λ r l. mv.outside ((header_at s i).start + r) (inl (omega arith)))
          widened_others
          (ap length es ∙ length-set_header s₁ i (with_region (header_at s i) size (header_at s i).start (header_at s i).entry) ∙ sh.len) refl cl

    pub grown_widened : {h : Header} {s₁ s' c' : List ℕ} → h ≡ header_at s i → Moved c c' (h.start + h.size) (h.start + h.size + (size - h.size)) (t.cells - (h.start + h.size))
        → Shifted n (h.entry + 1) t.entries (size - h.size) s s₁ → s' ≡ set_header s₁ i (with_region h size h.start h.entry)
        → Grown n i size (top_of (t.cells + (size - h.size)) t.entries) s dir c s' dir c'
    grown_widened {h} {s₁} {s'} {c'} eh mv sh es =
        rw eh (grown_wide (rw eh at mv) (rw eh at sh) (es ∙ ap (λ (q : Header). set_header s₁ i (with_region q size q.start q.entry)) eh))

-- ---- after a compaction

module _ {n i size : ℕ} {t : Top} {s dir c : List ℕ} (gr : Growing n i size t s dir c) {p : Top} {s₁ dir₁ c₁ : List ℕ} (k : Compacted n p s dir c s₁ dir₁ c₁) where
  pub growing_still : Growing n i size p s₁ dir₁ c₁
  growing_still = record { laid = k.laid; within = gr.within; more = omega (arith, gr.more, kept-size k.kept i gr.within) }

  pub growing_room : sizes_of s n + size ≤ length c + (header_at s i).size → p.cells + size ≤ length c₁ + (header_at s₁ i).size
  growing_room l = omega (arith, k.tight, k.kept.cells_len, kept-size k.kept i gr.within)

  pub grown-after : {t' : Top} {s₂ dir₂ c₂ : List ℕ} → Grown n i size t' s₁ dir₁ c₁ s₂ dir₂ c₂ → Grown n i size t' s dir c s₂ dir₂ c₂
  unfolding raw_at
  grown-after {t'} {s₂} {dir₂} {c₂} g =
      let same : raw_at s₁ c₁ i ≡ raw_at s c i = k.kept.same i gr.within in
      record {
        laid = g.laid;
        header = g.header ∙ ap (λ (r : RawSlot). header_from r size (header_at s₂ i).start (header_at s₂ i).entry) same;
        front = ap (λ (m : ℕ). take m (region_of (header_at s₂ i) c₂)) (sym (kept-size k.kept i gr.within)) ∙ g.front ∙ ap (λ (r : RawSlot). r.cells) same;
        others = λ j lj ne. g.others j lj ne ∙ k.kept.same j lj;
        slots_len = g.slots_len ∙ k.kept.slots_len;
        dir_len = g.dir_len ∙ k.kept.dir_len;
        cells_len = g.cells_len ∙ k.kept.cells_len;
      }

  pub regrow_fits : sizes_of s n + size ≤ length c + (header_at s i).size → p.cells + size ≤ 4194304
  regrow_fits l = omega (arith, growing_room l, growing_still.laid.inside i gr.within, growing_still.laid.cells_max)

  pub relocate_asks : n < length dir → p.cells + size ≤ length c₁ → Growing n i size p s₁ dir₁ c₁ × (p.cells + size ≤ length c₁) × (p.entries < length dir₁) × (p.entries < 131072)
  relocate_asks l r = (growing_still, r, omega (arith, k.few, k.kept.dir_len), omega (arith, k.few, gr.laid.slots_max))

  pub widen_asks : sizes_of s n + size ≤ length c + (header_at s i).size → length c₁ < p.cells + size → Growing n i size p s₁ dir₁ c₁ × ((header_at s₁ i).size ≡ 0 → ⊥) × (p.cells + size ≤ length c₁ + (header_at s₁ i).size)
  widen_asks l r = let q = growing_room l in (growing_still, (λ z. absurd (omega arith)), q)

-- ---- what each way asks of the numbers

pub record GrowFits (h : Header) (size : ℕ) (t : Top) : Type 0 where
  pub region : h.start + h.size ≤ CELLS_MAX
  pub size-max : size ≤ 2097152
  pub top_max : t.cells ≤ CELLS_MAX

module _ {n i size : ℕ} {t : Top} {s dir c : List ℕ} (gr : Growing n i size t s dir c) {h : Header} (eh : h ≡ header_at s i) where
  pub grow_fits : sizes_of s n + size ≤ length c + (header_at s i).size → GrowFits h size t
  grow_fits l =
      let g = gr.laid in
      let ins = g.inside i gr.within in
      rw eh
      (record {
        region = omega (arith, g.cells_max);
        size-max = omega (arith, g.cells_max);
        top_max = omega (arith, g.top_fits, g.cells_max);
      })

  pub extend_asks : (h.size ≡ 0 → ⊥) → h.start + h.size ≡ t.cells → h.start + size ≤ length c
      → Growing n i size t s dir c × ((header_at s i).size ≡ 0 → ⊥) × ((header_at s i).start + (header_at s i).size ≡ t.cells) × ((header_at s i).start + size ≤ length c)
  extend_asks nz ends room = (gr, rw (← eh) nz, rw (← eh) ends, rw (← eh) room)

-- ---- what growth leaves

module _ {n i size : ℕ} {t : Top} {s dir c s' dir' c' : List ℕ} (g : Grown n i size t s dir c s' dir' c') where
  pub grown-size : (header_at s' i).size ≡ size
  grown-size = ap (λ (h : Header). h.size) g.header

  pub grown-half : (j : ℕ) → j < n → (header_at s' j).half ≡ (header_at s j).half
  unfolding raw_at
  grown-half j l =
      by_cases (same_or_not j i)
      (λ e. rw e (ap (λ (h : Header). h.half) g.header))
      (λ ne. ap (λ (r : RawSlot). r.half) (g.others j l ne))

  pub grown-kind : (j : ℕ) → j < n → (header_at s' j).kind ≡ (header_at s j).kind
  unfolding raw_at
  grown-kind j l =
      by_cases (same_or_not j i)
      (λ e. rw e (ap (λ (h : Header). h.kind) g.header))
      (λ ne. ap (λ (r : RawSlot). r.kind) (g.others j l ne))

  pub grown_sizes : i < n → sizes_of s' n + (header_at s i).size ≡ sizes_of s n + size
  unfolding raw_at
  grown_sizes l =
      omega
      (arith, sum-put (λ j. (header_at s j).size) (λ j. (header_at s' j).size) n i l (λ j lj ne. ap (λ (r : RawSlot). r.size) (g.others j lj ne)), grown-size)

  -- the slot itself, its new region given
  pub grown-raw : raw_at s' c' i ≡ raw_of (with_region (header_at s i) size (header_at s' i).start (header_at s' i).entry) (region_of (header_at s' i) c')
  unfolding raw_at
  grown-raw = ap (λ (h : Header). raw_of h (region_of (header_at s' i) c')) g.header
