-- A new object is placed. Assumes nothing.
use Rattle.std.proofs.Common.{Ok, Err}
use Prim.Native.Nat.{ℕ, ◌+◌, ◌*◌, ◌-◌, ◌%◌, ◌≤◌, ◌<◌}
use mathlib.Core.Path.{◌≡◌, refl, ap, sym, ◌∙◌, fun_ext}
use mathlib.Core.Bool.{Bool, true, false, cond, not, ◌||◌}
use mathlib.Core.List.{List, []}
use mathlib.Core.Option.{some}
use native.Mathlib.Omega.{arith}
use native.Mathlib.Numerals.{add-one}
use borrow.Author.Tests.{leb-false, leb-true, ltb-false, ltb-true}
use lib.Dec.{eqb, leb, ltb}
use lib.ListN.{length, get_or, set, take, drop, length-set}
use Rattle.heap_slots.specs.Limits.{BOX_HALF, GENERATIONS, HALF, HALF_END, SLOT_WORDS}
use Rattle.account.specs.declared.Account.{Account}
use Rattle.account.specs.Account.{charged, fits, saturated}
use Rattle.heap_slots.specs.Header.{header_at, set_header, with_region}
use Rattle.heap_slots.specs.FreeList.{Takes, free_list, taken_half, taken_slot}
use Rattle.heap_slots.specs.declared.Header.{Header}
use Rattle.heap_slots.specs.declared.Scalars.{Scalars}
use Rattle.heap_slots.specs.declared.TakenSlot.{TakenSlot}
use Rattle.heap_slots.proofs.Cases.{by_cases, lt_or_le, same_or_not}
use Rattle.heap_slots.proofs.FreeListLaws.{TakenFacts, free-none, free-pop, listed-taken, taken_facts, taken-max}
use Rattle.heap_slots.proofs.HeaderLaws.{header_at-other, header_at-same, length-set_header}
use Rattle.heap_cells.specs.Regions.{Laid, RawSlot, raw_at, sum_to}
use Rattle.heap_cells.proofs.SumLaws.{sum_ext, sum-put}
use Rattle.heap_cells.proofs.RawLaws.{raw-other, raw_same}
use Rattle.heap_cells.proofs.LaidLaws.{laid-drop, laid-put}
use Rattle.history.proofs.Facts.{eqb_no, eqb_self, eqb_yes, leb_no, leb_yes}
use Rattle.history.proofs.Judging.{fits_so, says_none}
use Rattle.history.proofs.Lift.{seen, step_reuses, step_takes}
use Rattle.layout.specs.Layout.{Layout}
use Rattle.map_store.specs.Store.{Room}
use Rattle.model.specs.Calls.{Call, add, effect}
use Rattle.model.specs.Content.{Content, cells_of, is_box}
use Rattle.model.specs.Reference.{flag, word}
use Rattle.model.specs.Replies.{Lent, nothing, reference_made, reply}
use Rattle.model.specs.Slots.{place, update}
use Rattle.model.specs.Slots as Slots
use Rattle.model.specs.Model.{view_of}
use Rattle.model.specs.Refusals.{added, budget, first, slotless}
use Rattle.model.specs.Terms.{terms}
use Rattle.model.specs.Step.{accept, account_after, answer_of, collections_after, paid, refusal_of, step}
use Rattle.heap.specs.declared.Refusal.{Refusal}
use Rattle.heap.specs.declared.Refusal.TheVariants as No
use Rattle.heap.specs.Answers.{accepted, number_of}
use Rattle.heap.specs.Kinds.{content_of, room_of}
use Rattle.heap.specs.State.{State, model_of, more_of, raw_of, slot_from, slot_of, with_placed}
use Rattle.heap.specs.Good.{Good, SlotGood, coroutine_of, filled}
use Rattle.heap.specs.Promise.{Does}
use Rattle.heap.specs.Placing.{flag_of, grown_heap, judged_new, new_half, new_header, new_raw, new_word, next_region, next_slot, placed_plain, placed_region}
use Rattle.heap.proofs.GoodLaws.{good-kept, holds_as}
use Rattle.heap.proofs.KindLaws.{box_test, cells_of_content, object-some}
use Rattle.heap.proofs.SlotLaws.{raw-length, slot-listed, slot_missing, slot_unspent, slot-unused, slot-used}
use Rattle.heap.proofs.DoesLaws.{cells_left, does_5, does_6, does_7}

-- ---- the slot taken

abbrev taken : State → ℕ → TakenSlot
taken t kind = record { slot = next_slot t; half = new_half t kind; fresh = cond (eqb t.heap.free 0) (t.heap.fresh + 1) t.heap.fresh; free = t.heap.free - 1 }

takes : (t : State) (kind : ℕ) → Takes t.slots t.list t.heap.fresh t.heap.free (flag_of kind) (taken t kind)
takes t kind = record { slot = refl; half = refl; fresh_is = refl; free_is = refl }

-- any place for the region: the record's top and entries, and the directory, as they will be
abbrev placed_at : State → Header → ℕ → ℕ → ℕ → ℕ → ℕ → List ℕ → State
placed_at t h start entry bytes top entries dir = with_placed t (grown_heap t.heap h.kind bytes h.size top entries) (set_header t.slots (next_slot t) (new_header t h start entry)) dir

pub flag-max : (kind : ℕ) → flag_of kind ≤ 32768
flag-max kind = go (eqb kind 5)
  where
    go : (b : Bool) → cond b 32768 0 ≤ 32768
    go true = omega arith
    go false = omega arith

pub coroutine-max : (kind : ℕ) → coroutine_of kind ≤ 1
coroutine-max kind = go (eqb kind 11)
  where
    go : (b : Bool) → cond b 1 0 ≤ 1
    go true = omega arith
    go false = omega arith

-- a tag with and without the box flag
tag_of : (n : ℕ) (b : Bool) → HALF ≤ n → n < BOX_HALF → ((n + cond b 32768 0) % GENERATIONS ≡ n % GENERATIONS) × (leb BOX_HALF (n + cond b 32768 0) ≡ b)
tag_of n true lo hi = (omega arith, leb_yes BOX_HALF (n + 32768) (omega arith))
tag_of n false lo hi = (omega arith, leb_no BOX_HALF (n + 0) (omega arith))

flag_is : (b : Bool) → flag b ≡ cond b 32768 0
flag_is true = refl
flag_is false = refl

-- bytes may be saturated before they are charged
saturated_twice : (n : ℕ) → saturated (saturated n) ≡ saturated n
unfolding saturated
saturated_twice n = omega arith

pub fits-saturated : (a : Account) (n : ℕ) → fits a (saturated n) ≡ fits a n
unfolding fits
fits-saturated a n = rw (saturated_twice n)

pub charged-saturated : (a : Account) (n : ℕ) → charged a (saturated n) ≡ charged a n
unfolding charged
charged-saturated a n = rw (saturated_twice n)

-- what a slot with an object must meet does not depend on its tag
any_half : {p : ℕ} (h : Header) (l : List ℕ) (x : Scalars) → SlotGood (new_raw p h l) x → (h.kind ≡ 0 → ⊥) → (half : ℕ) → HALF ≤ half → half < HALF_END → SlotGood (new_raw half h l) x
any_half h l x g nz half lo hi = good-kept g refl lo hi (λ z. absurd (nz z)) refl refl refl (λ e m. m) (λ e. refl)

module _ {t : State} (g : Good t) (h : Header) (start entry bytes top entries : ℕ) (dir : List ℕ) (some_kind : h.kind ≡ 0 → ⊥) (left : t.heap.free ≡ 0 → t.heap.fresh < t.heap.size) where
  abbrev after : State
  after = placed_at t h start entry bytes top entries dir

  facts : TakenFacts t.slots t.list t.heap.fresh t.heap.free (flag_of h.kind) (taken t h.kind)
  facts = taken_facts g.listed (takes t h.kind)

  fresh-fits : (taken t h.kind).fresh ≤ t.heap.size
  fresh-fits = taken-max t.heap.size (takes t h.kind) g.fresh left

  fresh-grows : t.heap.fresh ≤ after.heap.fresh
  fresh-grows =
      by_cases (same_or_not t.heap.free 0)
      (λ z. rw (eqb_yes t.heap.free 0 z) (omega arith))
      (λ nz. rw (eqb_no t.heap.free 0 nz) (omega arith))

  slot-fits : next_slot t * SLOT_WORDS + SLOT_WORDS ≤ length t.slots
  slot-fits = omega (arith, facts.within, fresh-fits, g.slots_fit)

  -- the slot taken has no object and no cells
  was_empty : next_slot t < t.heap.fresh → ((header_at t.slots (next_slot t)).kind ≡ 0) × ((header_at t.slots (next_slot t)).size ≡ 0)
  unfolding taken_slot raw_at
  was_empty l =
      by_cases (same_or_not t.heap.free 0)
      (λ z. absurd (let e : next_slot t ≡ t.heap.fresh = rw (eqb_yes t.heap.free 0 z) in omega arith))
      (λ nz.
      let e : next_slot t ≡ get_or t.list (t.heap.free - 1) 0 = rw (eqb_no t.heap.free 0 nz) in
      let k : (header_at t.slots (next_slot t)).kind ≡ 0 = rw e (g.listed.empty (t.heap.free - 1) (omega arith)) in
      (k, (holds_as 0 k (g.each (next_slot t) l)).1))

  here : header_at after.slots (next_slot t) ≡ new_header t h start entry
  here = header_at-same t.slots (next_slot t) (new_header t h start entry) slot-fits

  there : (j : ℕ) → (j ≡ next_slot t → ⊥) → header_at after.slots j ≡ header_at t.slots j
  there j ne = header_at-other t.slots (next_slot t) j (new_header t h start entry) ne

  -- the slot's new object, as the caller gave it
  pub placed-raw : raw_of after (next_slot t) ≡ new_raw (new_half t h.kind) h (take h.size (drop start t.cells))
  placed-raw = raw_same t.slots t.cells (next_slot t) (new_header t h start entry) slot-fits

  placed-others : (j : ℕ) → (j ≡ next_slot t → ⊥) → raw_of after j ≡ raw_of t j
  placed-others j ne = raw-other t.slots t.cells (next_slot t) j (new_header t h start entry) ne

  -- sums over the slots, one more or not
  one_more : (f f' : ℕ → ℕ) → ((j : ℕ) → (j ≡ next_slot t → ⊥) → f' j ≡ f j) → (next_slot t < t.heap.fresh → f (next_slot t) ≡ 0) → sum_to f' after.heap.fresh ≡ sum_to f t.heap.fresh + f' (next_slot t)
  unfolding taken_slot sum_to
  one_more f f' same z =
      by_cases (same_or_not t.heap.free 0)
      (λ e.
      rw (eqb_yes t.heap.free 0 e, add-one t.heap.fresh)
      (ap (λ (n : ℕ). n + f' t.heap.fresh) (sum_ext f f' t.heap.fresh (λ j l. same j (λ q. let x : next_slot t ≡ t.heap.fresh = rw (eqb_yes t.heap.free 0 e) in omega (arith, q))))))
      (λ ne.
      let x : after.heap.fresh ≡ t.heap.fresh = rw (eqb_no t.heap.free 0 ne) in
      let l : next_slot t < t.heap.fresh = omega (arith, facts.within) in
      rw x (omega (arith, sum-put f f' t.heap.fresh (next_slot t) l (λ j lj n. same j n), z l)))

  module _ (fit : SlotGood (new_raw HALF h (take h.size (drop start t.cells))) (more_of t (next_slot t))) (laid : Laid after.heap.fresh top entries after.slots dir t.cells)
      (dir-length : length dir ≡ length t.directory) (room : t.heap.taken + h.size ≤ length t.cells) where
    placed-slot : SlotGood (raw_of after (next_slot t)) (more_of after (next_slot t))
    placed-slot = rw placed-raw (any_half h (take h.size (drop start t.cells)) (more_of t (next_slot t)) fit some_kind (new_half t h.kind) (omega (arith, facts.low)) (omega (arith, facts.high, flag-max h.kind)))

    pub placed-good : Good after
    unfolding raw_at
    placed-good = record {
      some_slot = g.some_slot;
      slots_max = g.slots_max;
      slots_fit = rw (length-set_header t.slots (next_slot t) (new_header t h start entry)) g.slots_fit;
      scalars_fit = g.scalars_fit;
      list_fit = g.list_fit;
      directory_fit = rw dir-length g.directory_fit;
      weights = g.weights;
      fresh = fresh-fits;
      each = λ j l. by_cases (same_or_not j (next_slot t)) (λ e. rw e placed-slot) (λ ne. rw (placed-others j ne) (g.each j (facts.old j l ne)));
      laid = laid;
      taken =
          sym
          (one_more (λ j. (header_at t.slots j).size) (λ j. (header_at after.slots j).size) (λ j ne. ap (λ (x : Header). x.size) (there j ne)) (λ l. (was_empty l).1)
          ∙ rw (ap (λ (x : Header). x.size) here, g.taken));
      cells_fit = room;
      listed = listed-taken after.slots g.listed (takes t h.kind) there;
      present =
          sym
          (one_more (filled t) (filled after) (λ j ne. ap (λ (x : Header). cond (eqb x.kind 0) 0 1) (there j ne)) (λ l. rw (was_empty l).0)
          ∙ rw (here, eqb_no h.kind 0 some_kind, g.present));
      coroutines =
          sym
          (one_more (λ j. coroutine_of (header_at t.slots j).kind) (λ j. coroutine_of (header_at after.slots j).kind) (λ j ne. ap (λ (x : Header). coroutine_of x.kind) (there j ne)) (λ l. rw (was_empty l).0)
          ∙ rw (here, g.coroutines));
      room =
          by_cases (same_or_not t.heap.free 0)
          (λ z. rw (eqb_yes t.heap.free 0 z) (omega (arith, g.room)))
          (λ nz. rw (eqb_no t.heap.free 0 nz) (omega (arith, g.room)));
    }

    -- ---- the model after it

    abbrev content : Content
    content = content_of (new_raw HALF h (take h.size (drop start t.cells))) (more_of t (next_slot t))

    abbrev space : Room
    space = room_of (new_raw HALF h (take h.size (drop start t.cells)))

    content-here : content_of (raw_of after (next_slot t)) (more_of after (next_slot t)) ≡ content
    unfolding content_of
    content-here = rw placed-raw

    space_here : room_of (raw_of after (next_slot t)) ≡ space
    unfolding room_of
    space_here = rw placed-raw

    box-here : is_box content ≡ eqb h.kind 5
    box-here = box_test (new_raw HALF h (take h.size (drop start t.cells))) (more_of t (next_slot t)) (omega (arith, some_kind)) fit.kind

    -- the generation of the slot's next object
    taken-gen : taken_half t.slots t.list t.heap.free ≡ HALF + (slot_of t (next_slot t)).gen
    unfolding taken_half taken_slot slot_from raw_at
    taken-gen =
        by_cases (same_or_not t.heap.free 0)
        (λ z. rw (eqb_yes t.heap.free 0 z, slot-unused t t.heap.fresh (omega arith)))
        (λ nz.
        let l : t.heap.free - 1 < t.heap.free = omega arith in
        rw (eqb_no t.heap.free 0 nz, slot-used t (get_or t.list (t.heap.free - 1) 0) (g.listed.inside (t.heap.free - 1) l))
        (omega (arith, g.listed.low (t.heap.free - 1) l, g.listed.high (t.heap.free - 1) l)))

    slot-new : slot_of after (next_slot t) ≡ Slots.filled (slot_of t (next_slot t)) content space
    unfolding slot_from Slots.filled
    slot-new =
        let n = taken_half t.slots t.list t.heap.free in
        let lo : HALF ≤ n = omega (arith, taken-gen) in
        let hi : n < BOX_HALF = omega (arith, facts.high) in
        let v = tag_of n (eqb h.kind 5) lo hi in
        let gen : (n + flag_of h.kind) % GENERATIONS ≡ (slot_of t (next_slot t)).gen = v.0 ∙ omega (arith, taken-gen) in
        let kind : (raw_of after (next_slot t)).kind ≡ 0 → ⊥ = λ e. some_kind (sym (ap (λ (r : RawSlot). r.kind) placed-raw) ∙ e) in
        let half : (raw_of after (next_slot t)).half ≡ n + flag_of h.kind = ap (λ (r : RawSlot). r.half) placed-raw in
        slot-used after (next_slot t) facts.within
        ∙ rw (object-some (raw_of after (next_slot t)) (more_of after (next_slot t)) kind, content-here, space_here, half, gen, v.1, box-here)

    slot_old : (j : ℕ) → (j ≡ next_slot t → ⊥) → slot_of after j ≡ slot_of t j
    slot_old j ne =
        by_cases (lt_or_le j after.heap.fresh)
        (λ l. slot-used after j l ∙ rw (placed-others j ne) (sym (slot-used t j (facts.old j l ne))))
        (λ l. slot-unused after j l ∙ sym (slot-unused t j (omega (arith, l, fresh-grows))))

    slots-new : slot_of after ≡ update (slot_of t) (next_slot t) (Slots.filled (slot_of t (next_slot t)) content space)
    unfolding update
    slots-new =
        fun_ext
        (λ j.
        by_cases (same_or_not (next_slot t) j)
        (λ e. rw (← e) (slot-new ∙ rw (eqb_self (next_slot t))))
        (λ ne. slot_old j (λ e. ne (sym e)) ∙ rw (eqb_no (next_slot t) j ne)))

    content-cells : cells_of content space ≡ h.size
    content-cells =
        cells_of_content (new_raw HALF h (take h.size (drop start t.cells))) (more_of t (next_slot t)) fit
        (ap (λ (r : RawSlot). length r.cells) (sym placed-raw) ∙ raw-length laid (next_slot t) facts.within ∙ ap (λ (r : RawSlot). r.size) placed-raw)
        some_kind

    module _ (l : Layout) (k : Call) {n : ℕ} {x : Lent} (effect_is : effect (view_of (model_of l t)) k ≡ add content space) (charge-is : (terms (model_of l t) k).charge ≡ some n) (bytes_are : bytes ≡ saturated n)
        (in_budget : fits t.heap.account bytes ≡ true) (own : first (terms (model_of l t) k).refusals ≡ 0) (Lent-is : (terms (model_of l t) k).lent_after ≡ x) where
      slot-left : slotless (model_of l t).table (add content space) ≡ 0
      slot-left =
          by_cases (same_or_not t.heap.free 0)
          (λ z. slot_unspent l t content space (left z))
          (λ nz. slot-listed l t content space nz)

      not_refused : refusal_of (model_of l t) (terms (model_of l t) k) (effect (view_of (model_of l t)) k) ≡ 0
      unfolding added model_of
      not_refused =
          says_none (model_of l t) (terms (model_of l t) k) (effect (view_of (model_of l t)) k) own
          (rw charge-is (fits_so t.heap.account n (sym (fits-saturated t.heap.account n) ∙ rw (← bytes_are) in_budget)))
          (rw effect_is slot-left)
          (rw (effect_is, content-cells) (cells_left l g h.size room))

      placed-step : step (model_of l t) k ≡ accept (model_of l t) (terms (model_of l t) k) (add content space) (place (model_of l t).table content space (next_slot t) (free_list t.list (t.heap.free - 1)) after.heap.fresh)
      unfolding model_of taken_slot
      placed-step =
          by_cases (same_or_not t.heap.free 0)
          (λ z.
          step_takes (model_of l t) k content space not_refused effect_is (free-none t.list t.heap.free z) (left z)
          ∙ rw (eqb_yes t.heap.free 0 z, add-one t.heap.fresh, free-none t.list (t.heap.free - 1) (omega arith)))
          (λ nz.
          step_reuses (model_of l t) k content space (get_or t.list (t.heap.free - 1) 0) (free_list t.list (t.heap.free - 1)) not_refused effect_is (free-pop t.list t.heap.free nz)
          ∙ rw (eqb_no t.heap.free 0 nz))

      word_made : word record { gen = (slot_of t (next_slot t)).gen; boxed = is_box content; slot = next_slot t } ≡ new_word t h.kind
      unfolding word
      word_made = rw (box-here, flag_is (eqb h.kind 5)) (omega (arith, taken-gen))

      pub does-placed : Does l k t record { refusal = 0; answer = reference_made (new_word t h.kind); lent = x } after
      unfolding seen accept place answer_of account_after collections_after paid model_of
      does-placed = record {
        shows = rw (placed-step, Lent-is, word_made);
        next = rw (placed-step, charge-is, slots-new, bytes_are, charged-saturated t.heap.account n);
        good = placed-good;
        kept = λ z. absurd (z refl);
      }

-- ---- whether it is refused

pub record Judged (t : State) (bytes size : ℕ) : Type 0 where
  pub in_budget : fits t.heap.account bytes ≡ true
  pub left : t.heap.free ≡ 0 → t.heap.fresh < t.heap.size
  pub room : t.heap.taken + size ≤ length t.cells

slot_test : (free fresh size : ℕ) → (not (eqb free 0) || ltb fresh size) ≡ true → free ≡ 0 → fresh < size
slot_test free fresh size e z = ltb-true fresh size (rw (eqb_yes free 0 z) at e)

no-slot_test : (free fresh size : ℕ) → (not (eqb free 0) || ltb fresh size) ≡ false → (free ≡ 0) × (size ≤ fresh)
no-slot_test free fresh size e =
    by_cases (same_or_not free 0)
    (λ z. (z, ltb-false fresh size (rw (eqb_yes free 0 z) at e)))
    (λ nz. absurd (let y : true ≡ false = rw (eqb_no free 0 nz) at e in let z : ◌≡◌ {A = ℕ} 0 1 = cc in omega arith))

accepted-refused : {q : Refusal} → Err q ≡ accepted → ⊥
accepted-refused e = let z : ◌≡◌ {A = ℕ} 0 1 = cc in absurd (omega arith)

pub judged-accepted : (t : State) (bytes size : ℕ) → judged_new t.heap (length t.cells) bytes size ≡ accepted → Judged t bytes size
unfolding judged_new
judged-accepted t bytes size e = go (fits t.heap.account bytes) (not (eqb t.heap.free 0) || ltb t.heap.fresh t.heap.size) (leb (t.heap.taken + size) (length t.cells)) refl refl refl e
  where
    go : (a b c : Bool) → fits t.heap.account bytes ≡ a → (not (eqb t.heap.free 0) || ltb t.heap.fresh t.heap.size) ≡ b → leb (t.heap.taken + size) (length t.cells) ≡ c →
        cond a (cond b (cond c accepted (Err No.NoCells)) (Err No.NoSlot)) (Err No.OverBudget) ≡ accepted → Judged t bytes size
    go true true true x y z e = record { in_budget = x; left = slot_test t.heap.free t.heap.fresh t.heap.size y; room = leb-true _ _ z }
    go true true false x y z e = absurd (accepted-refused e)
    go true false c x y z e = absurd (accepted-refused e)
    go false b c x y z e = absurd (accepted-refused e)

module _ (l : Layout) {t : State} (g : Good t) (bytes size : ℕ) (k : Call) {c : Content} {s : Room} {n : ℕ} {x : Lent} (effect_is : effect (view_of (model_of l t)) k ≡ add c s) (charge-is : (terms (model_of l t) k).charge ≡ some n)
    (bytes_are : bytes ≡ saturated n) (cells_are : cells_of c s ≡ size) (own : first (terms (model_of l t) k).refusals ≡ 0) (Lent-is : (terms (model_of l t) k).lent_before ≡ x) where
  fits-is : fits t.heap.account bytes ≡ fits t.heap.account n
  fits-is = ap (fits t.heap.account) bytes_are ∙ fits-saturated t.heap.account n

  in_budget : fits t.heap.account bytes ≡ true → budget t.heap.account (some n) ≡ 0
  in_budget f = fits_so t.heap.account n (sym fits-is ∙ f)

  -- the first of 5, 6 and 7 that is met
  pub judged-refused : {q : Refusal} → judged_new t.heap (length t.cells) bytes size ≡ Err q → Does l k t record { refusal = number_of q; answer = reply nothing; lent = x } t
  unfolding judged_new added
  judged-refused {q} e = go (fits t.heap.account bytes) (not (eqb t.heap.free 0) || ltb t.heap.fresh t.heap.size) (leb (t.heap.taken + size) (length t.cells)) refl refl refl e
    where
      go : (a b d : Bool) → fits t.heap.account bytes ≡ a → (not (eqb t.heap.free 0) || ltb t.heap.fresh t.heap.size) ≡ b → leb (t.heap.taken + size) (length t.cells) ≡ d →
          cond a (cond b (cond d accepted (Err No.NoCells)) (Err No.NoSlot)) (Err No.OverBudget) ≡ Err q → Does l k t record { refusal = number_of q; answer = reply nothing; lent = x } t
      go true true true f y z e = absurd (accepted-refused (sym e))
      go true true false f y z e =
          let q' : No.NoCells ≡ q = (cc) in
          let o = leb-false (t.heap.taken + size) (length t.cells) z in
          let left : slotless (model_of l t).table (add c s) ≡ 0 =
          by_cases (same_or_not t.heap.free 0) (λ e. slot_unspent l t c s (slot_test t.heap.free t.heap.fresh t.heap.size y e)) (λ ne. slot-listed l t c s ne) in
          rw (← q') (does_7 l g k size own charge-is (in_budget f) effect_is left cells_are (omega (arith, g.cells_fit)) o Lent-is)
      go true false d f y z e =
          let q' : No.NoSlot ≡ q = (cc) in
          let w = no-slot_test t.heap.free t.heap.fresh t.heap.size y in
          rw (← q') (does_6 l g k own charge-is (in_budget f) effect_is (slot_missing l t c s w.0 w.1) Lent-is)
      go false b d f y z e = let q' : No.OverBudget ≡ q = (cc) in rw (← q') (does_5 l g k own charge-is (sym fits-is ∙ f) Lent-is)

-- ---- with and without a region

module _ {t : State} (g : Good t) (h : Header) (bytes : ℕ) (some_kind : h.kind ≡ 0 → ⊥) where
  plain_laid : (t.heap.free ≡ 0 → t.heap.fresh < t.heap.size) → Laid (placed_plain t h bytes).heap.fresh t.heap.top t.heap.entries (placed_plain t h bytes).slots t.directory t.cells
  plain_laid left =
      let f = facts g (with_region h 0 0 0) 0 0 bytes t.heap.top t.heap.entries t.directory some_kind left in
      let m = fresh-fits g (with_region h 0 0 0) 0 0 bytes t.heap.top t.heap.entries t.directory some_kind left in
      laid-drop g.laid (placed_plain t h bytes).heap.fresh (next_slot t) (new_header t (with_region h 0 0 0) 0 0) (omega (arith, m, g.slots_max)) (omega (arith, m, g.slots_fit)) f.within f.old refl refl

  region-laid : (t.heap.free ≡ 0 → t.heap.fresh < t.heap.size) → t.heap.top + h.size ≤ length t.cells → t.heap.entries < t.heap.size * 2 →
      Laid (placed_region t h bytes).heap.fresh (t.heap.top + h.size) (t.heap.entries + 1) (placed_region t h bytes).slots (placed_region t h bytes).directory t.cells
  region-laid left top entry =
      let f = facts g h t.heap.top t.heap.entries bytes t.heap.top t.heap.entries t.directory some_kind left in
      let m = fresh-fits g h t.heap.top t.heap.entries bytes t.heap.top t.heap.entries t.directory some_kind left in
      laid-put g.laid (placed_region t h bytes).heap.fresh (next_slot t) (new_header t h t.heap.top t.heap.entries) (omega (arith, m, g.slots_max)) (omega (arith, m, g.slots_fit)) f.within f.old refl top refl
      (omega (arith, entry, g.directory_fit)) (omega (arith, entry, g.slots_max))

  pub plain_good : Judged t bytes 0 → SlotGood (new_raw HALF (with_region h 0 0 0) []) (more_of t (next_slot t)) → Good (placed_plain t h bytes)
  plain_good j fit = placed-good g (with_region h 0 0 0) 0 0 bytes t.heap.top t.heap.entries t.directory some_kind j.left fit (plain_laid j.left) refl j.room

  pub region-good : Judged t bytes h.size → t.heap.top + h.size ≤ length t.cells → t.heap.entries < t.heap.size * 2 → SlotGood (new_raw HALF h (next_region t h.size)) (more_of t (next_slot t)) → Good (placed_region t h bytes)
  region-good j top entry fit =
      placed-good g h t.heap.top t.heap.entries bytes (t.heap.top + h.size) (t.heap.entries + 1) (set t.directory t.heap.entries (next_slot t)) some_kind j.left fit (region-laid j.left top entry)
      (length-set t.directory t.heap.entries (next_slot t)) j.room

  module _ (l : Layout) (k : Call) {n : ℕ} {x : Lent} (charge-is : (terms (model_of l t) k).charge ≡ some n) (bytes_are : bytes ≡ saturated n) (own : first (terms (model_of l t) k).refusals ≡ 0)
      (Lent-is : (terms (model_of l t) k).lent_after ≡ x) where
    pub does_plain : {c : Content} {s : Room} → Judged t bytes 0 → SlotGood (new_raw HALF (with_region h 0 0 0) []) (more_of t (next_slot t)) → effect (view_of (model_of l t)) k ≡ add c s →
        content_of (new_raw HALF (with_region h 0 0 0) []) (more_of t (next_slot t)) ≡ c → room_of (new_raw HALF (with_region h 0 0 0) []) ≡ s →
        Does l k t record { refusal = 0; answer = reference_made (new_word t h.kind); lent = x } (placed_plain t h bytes)
    does_plain j fit effect_is content_is room_is =
        does-placed g (with_region h 0 0 0) 0 0 bytes t.heap.top t.heap.entries t.directory some_kind j.left fit (plain_laid j.left) refl j.room l k (rw (effect_is, content_is, room_is)) charge-is bytes_are
        j.in_budget own Lent-is

    pub does-region : {c : Content} {s : Room} → Judged t bytes h.size → t.heap.top + h.size ≤ length t.cells → t.heap.entries < t.heap.size * 2 →
        SlotGood (new_raw HALF h (next_region t h.size)) (more_of t (next_slot t)) → effect (view_of (model_of l t)) k ≡ add c s → content_of (new_raw HALF h (next_region t h.size)) (more_of t (next_slot t)) ≡ c →
        room_of (new_raw HALF h (next_region t h.size)) ≡ s → Does l k t record { refusal = 0; answer = reference_made (new_word t h.kind); lent = x } (placed_region t h bytes)
    does-region j top entry fit effect_is content_is room_is =
        does-placed g h t.heap.top t.heap.entries bytes (t.heap.top + h.size) (t.heap.entries + 1) (set t.directory t.heap.entries (next_slot t)) some_kind j.left fit (region-laid j.left top entry)
        (length-set t.directory t.heap.entries (next_slot t)) j.room l k (rw (effect_is, content_is, room_is)) charge-is bytes_are j.in_budget own Lent-is
