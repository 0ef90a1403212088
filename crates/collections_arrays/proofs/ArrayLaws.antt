-- Arrays: an item taken off the end. Assumes nothing.
use Rattle.std.proofs.Common.{Result, Ok, Err}
use Prim.Native.Nat.{ℕ, ◌+◌, ◌*◌, ◌-◌, ◌≤◌, ◌<◌}
use mathlib.Core.Path.{◌≡◌, refl, ap, sym, ◌∙◌}
use mathlib.Core.Bool.{true, false, not}
use mathlib.Core.List.{List, [], ◌∷◌}
use native.Mathlib.Omega.{arith}
use lib.ListN.{get_or, length, set, take}
use lib.Seq.{get_or-take, length-take-le, take-take}
use Rattle.account.specs.Account.{charged, fits}
use Rattle.heap_slots.specs.Header.{header_at}
use Rattle.heap_slots.specs.Limits.{CELLS_MAX, SLOT_WORDS}
use Rattle.heap_slots.specs.declared.Header.{Header}
use Rattle.heap_slots.specs.declared.Scalars.{Scalars}
use Rattle.heap_cells.specs.Regions.{RawSlot, raw_at, region_of}
use Rattle.heap_cells.proofs.RawLaws.{region-get, region-length}
use Rattle.layout.specs.Layout.{Layout}
use Rattle.model.specs.Calls as Calls
use Rattle.model.specs.Calls.{effect}
use Rattle.model.specs.Content.{array}
use Rattle.model.specs.Model.{view_of}
use Rattle.model.specs.Replies.{number}
use Rattle.model.specs.Refusals.{first, is_empty, target, unless}
use Rattle.model.specs.Rules.{item, pop_item, same_room}
use Rattle.model.specs.Terms.{an_array, charging, items, popped, terms}
use Rattle.heap.proofs.GoodLaws.{good_as, holds_as}
use Rattle.heap.specs.declared.Refusal.{Refusal}
use Rattle.heap.specs.declared.Refusal.TheVariants as No
use Rattle.heap.specs.Answers.{answered, number_of, refused}
use Rattle.heap.specs.Kinds.{content_of}
use Rattle.heap.specs.Locating.{Locates}
use Rattle.heap.specs.State.{State, model_of, more_of, raw_of, with_slots}
use Rattle.heap.specs.Good.{Good, SlotGood}
use Rattle.heap.specs.Promise.{Performs}
use Rattle.heap.proofs.DoesLaws.{does_5, does-own, first_none, first_passes, first_refuses}
use Rattle.heap.proofs.KindLaws.{content-array, raw_words, room-array, says_array}
use Rattle.heap.proofs.ReachLaws.{Target, located_at, target_met}
use Rattle.heap.proofs.ReadLaws.{object-refused, reads_array, reads_items}
use Rattle.heap.proofs.StepLaws.{own-len, raw-words, touched_words}
use Rattle.heap.proofs.StoreLaws.{Stored, does_stored_charged}
use Rattle.heap.proofs.TouchLaws.{touched_none}
use Rattle.collections_growth.specs.Words.{ItemIs}

-- ---- an array that is located

-- slot i holds the array that w reaches
pub record ArrayHere (t : State) (w i : ℕ) (h : Header) : Type 0 where
  pub good : Good t
  pub target : Target t w i 6
  pub header : h ≡ header_at t.slots i

pub array_at : {t : State} {w i : ℕ} {h : Header} → Good t → Target t w i 6 → h ≡ header_at t.slots i → ArrayHere t w i h
array_at g o p = record { good = g; target = o; header = p }

pub array-here : {t : State} {w i : ℕ} {r : Result ℕ Refusal} {h : Header} → Good t → Locates t.slots t.heap.fresh w 6 r → r ≡ Ok i → h ≡ header_at t.slots i → ArrayHere t w i h
array-here g d e p = array_at g (located_at g d e) p

-- a slot of kind 6 with the tag of a good one
pub array-good : {r r' : RawSlot} {x : Scalars} (x' : Scalars) → SlotGood r x → r'.half ≡ r.half → r'.kind ≡ 6 → r'.len ≤ r'.size → SlotGood r' x'
array-good x' g a k l = good_as 6 k (omega arith) (omega (arith, g.half_low)) (omega (arith, g.half_high)) l

module _ {t : State} {w i : ℕ} {h : Header} (m : ArrayHere t w i h) where
  pub array-inside : (h.len ≤ h.size) × (h.start + h.size ≤ length t.cells) × (length t.cells ≤ CELLS_MAX)
  unfolding raw_at
  array-inside =
      let o = m.target in
      rw m.header (holds_as 6 o.kind-is (m.good.each i o.reached.within), m.good.laid.inside i o.reached.within, m.good.laid.cells_max)

  pub array-items : (l : Layout) → items (model_of l t) w ≡ take h.len (region_of h t.cells)
  unfolding raw_at
  array-items l = reads_items l m.target ∙ rw m.header

  pub items-length : length (take h.len (region_of h t.cells)) ≡ h.len
  items-length = let a = array-inside in length-take-le h.len (region_of h t.cells) (omega (arith, a.0, region-length h t.cells a.1))

  -- an item is a cell
  pub item-cell : (p : ℕ) → p < h.len → get_or (take h.len (region_of h t.cells)) p 0 ≡ get_or t.cells (h.start + p) 0
  item-cell p l = get_or-take h.len (region_of h t.cells) p 0 l ∙ region-get h t.cells p (omega (arith, array-inside.0))

-- ---- pop

empty-list : (xs : List ℕ) → length xs ≡ 0 → unless (not (is_empty xs)) 3 ≡ number_of No.Outside
unfolding unless is_empty number_of
empty-list [] e = refl
empty-list (x ∷ xs) e = absurd (omega arith)

some-list : (xs : List ℕ) → (length xs ≡ 0 → ⊥) → unless (not (is_empty xs)) 3 ≡ 0
unfolding unless is_empty
some-list [] h = absurd (h refl)
some-list (x ∷ xs) h = refl

module _ {t : State} {w : ℕ} {r : Result ℕ Refusal} {q : Refusal} (g : Good t) (d : Locates t.slots t.heap.fresh w 6 r) (e : r ≡ Err q) where
  pub pop-refused : Performs (Calls.pop w) t (refused q) t
  unfolding terms effect charging
  pop-refused l = object-refused l g (Calls.pop w) {rest = unless (not (is_empty (items (model_of l t) w))) 3 ∷ []} d e says_array refl refl

module _ {t : State} {w i : ℕ} {h : Header} (m : ArrayHere t w i h) where
  pub pop-empty : h.len ≡ 0 → Performs (Calls.pop w) t (refused No.Outside) t
  unfolding terms effect charging
  pop-empty z l =
      does-own l m.good (Calls.pop w) No.Outside refl
      (first_passes (unless (not (is_empty (items (model_of l t) w))) 3 ∷ []) (target_met l m.good m.target says_array)
      ∙ first_refuses [] No.Outside (rw (array-items m l) (empty-list (take h.len (region_of h t.cells)) (items-length m ∙ z))))

  module _ (nz : h.len ≡ 0 → ⊥) where
    pop_passes : (l : Layout) → first (target (view_of (model_of l t)) an_array w ∷ unless (not (is_empty (items (model_of l t) w))) 3 ∷ []) ≡ 0
    pop_passes l =
        first_passes (unless (not (is_empty (items (model_of l t) w))) 3 ∷ []) (target_met l m.good m.target says_array)
        ∙ first_passes [] (rw (array-items m l) (some-list (take h.len (region_of h t.cells)) (λ z. nz (sym (items-length m) ∙ z))))
        ∙ first_none

    pub pop-over : fits t.heap.account 0 ≡ false → Performs (Calls.pop w) t (refused No.OverBudget) t
    unfolding terms effect charging
    pop-over f l = does_5 l m.good (Calls.pop w) (pop_passes l) refl f refl

    pop-content : (r : RawSlot) (x : Scalars) → r.kind ≡ 6 → length (take r.len r.cells) ≡ r.len → content_of (raw_words r r.value r.mode (r.len - 1)) x ≡ pop_item (content_of r x)
    unfolding pop_item
    pop-content r x k e =
        content-array (raw_words r r.value r.mode (r.len - 1)) x k
        ∙ rw (content-array r x k, e) (ap (λ (z : List ℕ). array record { type = r.mode; items = z }) (sym (take-take (r.len - 1) r.len r.cells (omega arith))))

    pop_stored : {s' : List ℕ} → s' ≡ set t.slots (i * SLOT_WORDS + 4) (h.len - 1) → Stored t (with_slots t s') i pop_item same_room
    unfolding raw_at same_room
    pop_stored {s'} e =
        let o = m.target in
        let li = o.reached.within in
        let w = own-len {s = t.slots} {s' = s'} {i = i} (omega (arith, li, m.good.fresh, m.good.slots_fit)) {v = (header_at t.slots i).len - 1} (e ∙ rw m.header) in
        let after : raw_of (with_slots t s') i ≡ raw_words (raw_of t i) (raw_of t i).value (raw_of t i).mode ((raw_of t i).len - 1) = raw-words t.cells w in
        let g = m.good.each i li in
        record {
          touched = touched_words (touched_none i m.good) w;
          slot-good = rw after (array-good (more_of t i) g refl o.kind-is (omega (arith, holds_as 6 o.kind-is g)));
          content = rw after (pop-content (raw_of t i) (more_of t i) o.kind-is (rw (← m.header) (items-length m)));
          room = rw after (room-array (raw_words (raw_of t i) (raw_of t i).value (raw_of t i).mode ((raw_of t i).len - 1)) o.kind-is ∙ sym (room-array (raw_of t i) o.kind-is));
        }

    pub pop-taken : {v : ℕ} {s' : List ℕ} → fits t.heap.account 0 ≡ true → t.heap.account ≡ charged t.heap.account 0 → ItemIs t h.mode (get_or t.cells (h.start + (h.len - 1)) 0) v →
        s' ≡ set t.slots (i * SLOT_WORDS + 4) (h.len - 1) → Performs (Calls.pop w) t (answered (number v)) (with_slots t s')
    unfolding terms effect charging popped raw_at
    pop-taken f a v e l =
        does_stored_charged l m.good m.target.reached (pop_stored e) (Calls.pop w) refl refl f a (pop_passes l) refl
        (ap number
        (reads_array l 0 (λ z. item (view_of (model_of l t)) z.type (get_or z.items (length z.items - 1) 0)) m.target
        ∙ rw (← m.header, items-length m, item-cell m (h.len - 1) (omega (arith, nz))) (v.is l)))
