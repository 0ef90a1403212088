-- From the lookup of a word to what the model says of it: the object that it reaches, or the refusal. Assumes nothing.
use Rattle.std.proofs.Common.{Result, Ok, Err}
use Prim.Native.Nat.{ℕ, ◌+◌, ◌*◌, ◌%◌, ◌≤◌, ◌<◌}
use mathlib.Core.Path.{◌≡◌, refl, ap, sym, ◌∙◌}
use mathlib.Core.Bool.{Bool, true, false, cond, ◌&&◌, beq}
use mathlib.Core.Option.{none, some}
use native.Mathlib.Omega.{arith}
use borrow.Author.Tests.{eqb-false, eqb-true, leb-false, leb-true}
use lib.Dec.{eqb, leb}
use lib.ListN.{length}
use Rattle.heap_slots.specs.Limits.{BOX_HALF, GENERATIONS, HALF, SLOT_WORDS, SLOTS_MAX}
use Rattle.words.specs.Word.{decode_word, ref_slot, ref_tag}
use Rattle.words.specs.declared.Raw.TheVariants as R
use Rattle.heap_slots.specs.Header.{header_at}
use Rattle.heap_slots.specs.Lookup.{Finds, hit_first}
use Rattle.heap_slots.specs.declared.Miss.{Miss}
use Rattle.heap_slots.specs.declared.Miss.TheVariants as F
use Rattle.heap_slots.proofs.Cases.{by_cases, lt_or_le, same_or_not}
use Rattle.heap_slots.proofs.LookupLaws.{FoundNone, finds_so, found_at, found-dead, found-nil, found_wrong}
use Rattle.heap_cells.specs.Regions.{raw_at}
use Rattle.history.proofs.Facts.{eqb_self, eqb_yes, leb_no, leb_yes}
use Rattle.history.proofs.Judging.{look-no-slot, look-slot, target-dead, target-nil, target-reached}
use Rattle.layout.specs.Layout.{Layout}
use Rattle.model.specs.Reference.{Ref, ref_in, ref_of}
use Rattle.model.specs.Content.{Content}
use Rattle.model.specs.View.{look, look_live}
use Rattle.model.specs.Slots.{Object, live, live_object, room_at, room_in}
use Rattle.model.specs.Slots as Slots
use Rattle.model.specs.Model.{view_of}
use Rattle.model.specs.Refusals.{target, unless}
use Rattle.heap.specs.declared.Refusal.{Refusal}
use Rattle.heap.specs.declared.Refusal.TheVariants.{DeadReference, NilTarget, OtherKind}
use Rattle.heap.specs.Answers.{missing, number_of}
use Rattle.heap.specs.Kinds.{content_of, room_of}
use Rattle.heap.specs.Locating.{Locates, located_by, located_in}
use Rattle.heap.specs.State.{State, model_of, more_of, raw_of, slot_from, slot_of}
use Rattle.heap.specs.Good.{Good}
use Rattle.heap.proofs.KindLaws.{Says, kind_test, object-none, object-some}
use Rattle.heap.proofs.SlotLaws.{halves, slot-unused, slot-used}

-- ---- a slot's first word and the tag of a reference

-- the box flag and the generation are the tag
leb_half : (h t : ℕ) → h ≡ HALF + t → leb BOX_HALF h ≡ leb 0x8000 t
leb_half h t e =
    by_cases (lt_or_le t 0x8000)
    (λ l. leb_no BOX_HALF h (omega arith) ∙ sym (leb_no 0x8000 t l))
    (λ l. leb_yes BOX_HALF h (omega arith) ∙ sym (leb_yes 0x8000 t l))

beq_self : (b : Bool) → beq b b ≡ true
beq_self true = refl
beq_self false = refl

beq_true : (a b : Bool) → beq a b ≡ true → a ≡ b
beq_true true true e = refl
beq_true true false e = sym e
beq_true false true e = e
beq_true false false e = refl

-- equal generation and flag: the same tag
half_is : (h t : ℕ) → HALF ≤ h → h < 131072 → t < 65536 → t % 0x8000 ≡ h % GENERATIONS → leb 0x8000 t ≡ leb BOX_HALF h → h ≡ HALF + t
half_is h t lo hi lt e b =
    by_cases (lt_or_le t 0x8000)
    (λ l. let k : h < BOX_HALF = leb-false BOX_HALF h (sym b ∙ leb_no 0x8000 t l) in omega arith)
    (λ l. let k : BOX_HALF ≤ h = leb-true BOX_HALF h (sym b ∙ leb_yes 0x8000 t l) in omega arith)

-- ---- the object that a word reaches

pub record Reached (t : State) (w i : ℕ) : Type 0 where
  pub within : i < t.heap.fresh
  pub present : (raw_of t i).kind ≡ 0 → ⊥
  pub half : (raw_of t i).half ≡ HALF + ref_tag w
  pub tag : ref_tag w < 65536
  pub reads : decode_word w ≡ R.Ref i (ref_tag w)

look-live : (r : Ref) (g : ℕ) (b : Bool) (o : Object) → r.gen ≡ g → r.boxed ≡ b → look_live r (live_object g b (some o)) ≡ some o.content
unfolding look_live live_object
look-live r g b o p q = rw (← p, ← q, eqb_self r.gen, beq_self r.boxed)

module _ {t : State} {w i : ℕ} (h : Reached t w i) where
  pub reached-ref : ref_in w ≡ some (ref_of i (ref_tag w))
  unfolding ref_in
  reached-ref = rw h.reads

  pub reached-gen : (ref_of i (ref_tag w)).gen ≡ (slot_of t i).gen
  unfolding ref_of slot_from
  reached-gen = rw (slot-used t i h.within) (omega (arith, h.half))

  pub reached-boxed : (ref_of i (ref_tag w)).boxed ≡ (slot_of t i).boxed
  unfolding ref_of slot_from
  reached-boxed = rw (slot-used t i h.within) (sym (leb_half (raw_of t i).half (ref_tag w) h.half))

  pub reached-object : (slot_of t i).object ≡ some record { content = content_of (raw_of t i) (more_of t i); room = room_of (raw_of t i) }
  unfolding slot_from
  reached-object = rw (slot-used t i h.within) (object-some (raw_of t i) (more_of t i) h.present)

  module _ (l : Layout) where
    pub reached-look : look (view_of (model_of l t)) w ≡ some (content_of (raw_of t i) (more_of t i))
    unfolding view_of model_of live
    reached-look =
        look-slot l (model_of l t).table w i (ref_tag w) h.reads
        ∙ rw reached-object
        (look-live (ref_of i (ref_tag w)) (slot_of t i).gen (slot_of t i).boxed record { content = content_of (raw_of t i) (more_of t i); room = room_of (raw_of t i) } reached-gen reached-boxed)

    pub reached-target : (is : Content → Bool) → target (view_of (model_of l t)) is w ≡ unless (is (content_of (raw_of t i) (more_of t i))) 2
    reached-target is = target-reached (view_of (model_of l t)) is w i (ref_tag w) (content_of (raw_of t i) (more_of t i)) h.reads reached-look

    pub reached-room : Slots.room_of (model_of l t).table w ≡ room_of (raw_of t i)
    unfolding Slots.room_of room_at room_in model_of ref_of
    reached-room = rw (reached-ref, reached-object)

-- ---- a word that reaches no object

look_none : (r : Ref) (g : ℕ) (b : Bool) (o : Object) → (r.gen ≡ g → r.boxed ≡ b → ⊥) → look_live r (live_object g b (some o)) ≡ none
unfolding look_live live_object
look_none r g b o z = go (eqb r.gen g) (beq r.boxed b) refl refl
  where
    go : (x y : Bool) → eqb r.gen g ≡ x → beq r.boxed b ≡ y → cond (x && y) (some o.content) none ≡ none
    go true true p q = absurd (z (eqb-true _ _ p) (beq_true _ _ q))
    go true false p q = refl
    go false true p q = refl
    go false false p q = refl

module _ (l : Layout) {t : State} {w : ℕ} (g : Good t) where
  missed-look : FoundNone t.slots t.heap.fresh w → look (view_of (model_of l t)) w ≡ none
  unfolding view_of model_of live live_object look_live slot_from raw_at ref_of
  missed-look m =
      look-slot l (model_of l t).table w (ref_slot w) (ref_tag w) m.reads
      ∙ by_cases (lt_or_le (ref_slot w) t.heap.fresh)
      (λ lt.
      rw (slot-used t (ref_slot w) lt)
      (by_cases (same_or_not (raw_of t (ref_slot w)).kind 0)
      (λ e. rw (object-none (raw_of t (ref_slot w)) (more_of t (ref_slot w)) e))
      (λ ne.
      rw (object-some (raw_of t (ref_slot w)) (more_of t (ref_slot w)) ne)
      (look_none (ref_of (ref_slot w) (ref_tag w)) ((raw_of t (ref_slot w)).half % GENERATIONS) (leb BOX_HALF (raw_of t (ref_slot w)).half) record { content = content_of (raw_of t (ref_slot w)) (more_of t (ref_slot w)); room = room_of (raw_of t (ref_slot w)) }
      (λ p q. m.none lt ne (half_is (raw_of t (ref_slot w)).half (ref_tag w) (g.each (ref_slot w) lt).half_low (g.each (ref_slot w) lt).half_high m.tag p q))))))
      (λ ge. rw (slot-unused t (ref_slot w) ge))

  pub nil_reads : {f : Result ℕ Miss} → Finds t.slots t.heap.fresh w f → f ≡ Err F.Nil → decode_word w ≡ R.Nil
  nil_reads d e = found-nil (halves g) d e

  pub nil-look : {f : Result ℕ Miss} → Finds t.slots t.heap.fresh w f → f ≡ Err F.Nil → look (view_of (model_of l t)) w ≡ none
  unfolding ref_in
  nil-look d e = look-no-slot (view_of (model_of l t)) w (rw (nil_reads d e))

  pub nil-target : {f : Result ℕ Miss} → Finds t.slots t.heap.fresh w f → f ≡ Err F.Nil → (is : Content → Bool) → target (view_of (model_of l t)) is w ≡ 1
  nil-target d e is = target-nil (view_of (model_of l t)) is w (nil_reads d e)

  -- a reference that misses
  pub dead_reads : {f : Result ℕ Miss} → Finds t.slots t.heap.fresh w f → f ≡ Err F.Dead → decode_word w ≡ R.Ref (ref_slot w) (ref_tag w)
  dead_reads d e = (found-dead (halves g) d e).reads

  pub dead-look : {f : Result ℕ Miss} → Finds t.slots t.heap.fresh w f → f ≡ Err F.Dead → look (view_of (model_of l t)) w ≡ none
  dead-look d e = missed-look (found-dead (halves g) d e)

  pub dead-target : {f : Result ℕ Miss} → Finds t.slots t.heap.fresh w f → f ≡ Err F.Dead → (is : Content → Bool) → target (view_of (model_of l t)) is w ≡ 11
  dead-target d e is = target-dead (view_of (model_of l t)) is w (ref_slot w) (ref_tag w) (dead_reads d e) (dead-look d e)

  -- neither nil nor a reference
  pub wrong_look : {f : Result ℕ Miss} → Finds t.slots t.heap.fresh w f → f ≡ Err F.Wrong → look (view_of (model_of l t)) w ≡ none
  unfolding ref_in
  wrong_look d e = look-no-slot (view_of (model_of l t)) w (found_wrong (halves g) d none none (λ slot tag. some (ref_of slot tag)) e)

  pub wrong_target : {f : Result ℕ Miss} → Finds t.slots t.heap.fresh w f → f ≡ Err F.Wrong → (is : Content → Bool) → target (view_of (model_of l t)) is w ≡ 2
  unfolding target
  wrong_target d e is = found_wrong (halves g) d 1 2 _ e

pub found-reached : {t : State} {w i : ℕ} {f : Result ℕ Miss} → Good t → Finds t.slots t.heap.fresh w f → f ≡ Ok i → Reached t w i
unfolding raw_at
found-reached g d e =
    let a = found_at (halves g) d e in
    record { within = a.within; present = a.present; half = a.half; tag = a.tag; reads = a.reads }

-- ---- an object of one kind, or the refusal

-- the object of this kind that a word reaches
pub record Target (t : State) (w i kind : ℕ) : Type 0 where
  pub reached : Reached t w i
  pub kind-is : (raw_of t i).kind ≡ kind

at-refused : {i : ℕ} {q : Refusal} → ◌≡◌ {A = Result ℕ Refusal} (Ok i) (Err q) → ⊥
at-refused e = let z : ◌≡◌ {A = ℕ} 0 1 = cc in absurd (omega arith)

picked_at : (b : Bool) {i j : ℕ} → ◌≡◌ {A = Result ℕ Refusal} (cond b (Ok j) (Err OtherKind)) (Ok i) → (b ≡ true) × (j ≡ i)
picked_at true x = (refl, (cc))
picked_at false x = absurd (at-refused (sym x))

picked_refused : (b : Bool) (j : ℕ) {q : Refusal} → ◌≡◌ {A = Result ℕ Refusal} (cond b (Ok j) (Err OtherKind)) (Err q) → (b ≡ false) × (OtherKind ≡ q)
picked_refused true j x = absurd (at-refused x)
picked_refused false j x = (refl, (cc))

at-by : {t : State} {w i kind : ℕ} (f : Result ℕ Miss) → Good t → Finds t.slots t.heap.fresh w f → located_by t.slots kind f ≡ Ok i → Target t w i kind
unfolding located_by raw_at
at-by {t} {kind = kind} (Ok j) g d x =
    let p = picked_at (eqb (header_at t.slots j).kind kind) x in
    let e : (header_at t.slots j).kind ≡ kind = eqb-true _ _ p.0 in
    record { reached = found-reached g d (ap Ok p.1); kind-is = rw p.1 at e }
at-by (Err m) g d x = absurd (at-refused (sym x))

refused-by : (l : Layout) {t : State} {w kind : ℕ} {is : Content → Bool} {q : Refusal} → Says is kind → (f : Result ℕ Miss) → Good t → Finds t.slots t.heap.fresh w f → located_by t.slots kind f ≡ Err q →
    target (view_of (model_of l t)) is w ≡ number_of q
unfolding located_by raw_at number_of unless missing
refused-by l {t} {kind = kind} {is = is} s (Ok j) g d x =
    let p = picked_refused (eqb (header_at t.slots j).kind kind) j x in
    let h = found-reached g d refl in
    let k = (g.each j h.within).kind in
    rw (← p.1) (reached-target h l is ∙ rw (kind_test (raw_of t j) (more_of t j) (omega (arith, h.present)) k s ∙ p.0))
refused-by l {is = is} {q = q} s (Err F.Nil) g d x = let e : NilTarget ≡ q = (cc) in rw (← e) (nil-target l g d refl is)
refused-by l {is = is} {q = q} s (Err F.Dead) g d x = let e : DeadReference ≡ q = (cc) in rw (← e) (dead-target l g d refl is)
refused-by l {is = is} {q = q} s (Err F.Wrong) g d x = let e : OtherKind ≡ q = (cc) in rw (← e) (wrong_target l g d refl is)

module _ {t : State} {w kind : ℕ} {r : Result ℕ Refusal} (g : Good t) (d : Locates t.slots t.heap.fresh w kind r) where
  pub located_at : {i : ℕ} → r ≡ Ok i → Target t w i kind
  unfolding located_in
  located_at e = at-by (hit_first t.slots t.heap.fresh w) g (finds_so refl) (sym d.is ∙ e)

  -- the refusal, for every test that says the kind
  pub located_refused : {q : Refusal} → r ≡ Err q → (l : Layout) {is : Content → Bool} → Says is kind → target (view_of (model_of l t)) is w ≡ number_of q
  unfolding located_in
  located_refused e l s = refused-by l s (hit_first t.slots t.heap.fresh w) g (finds_so refl) (sym d.is ∙ e)

-- the object is of the kind that the test says
pub target_met : (l : Layout) {t : State} {w i kind : ℕ} {is : Content → Bool} → Good t → Target t w i kind → Says is kind → target (view_of (model_of l t)) is w ≡ 0
unfolding unless
target_met l {t} {w} {i} {kind} {is} g h s =
    let k = (g.each i h.reached.within).kind in
    reached-target h.reached l is ∙ rw (kind_test (raw_of t i) (more_of t i) (omega (arith, h.reached.present)) k s ∙ eqb_yes (raw_of t i).kind kind h.kind-is)

-- the words of the slot lie in the buffers
pub slot-fits : {t : State} {w i : ℕ} → Good t → Reached t w i → (i < SLOTS_MAX) × (i * SLOT_WORDS + SLOT_WORDS ≤ length t.slots)
slot-fits g h = (omega (arith, h.within, g.fresh, g.slots_max), omega (arith, h.within, g.fresh, g.slots_fit))

pub scalars_fit : {t : State} {w i : ℕ} → Good t → Reached t w i → (i < SLOTS_MAX) × (i * SLOT_WORDS + SLOT_WORDS ≤ length t.scalars)
scalars_fit g h = (omega (arith, h.within, g.fresh, g.slots_max), omega (arith, h.within, g.fresh, g.scalars_fit))

pub located_fits : {t : State} {w kind i : ℕ} {r : Result ℕ Refusal} → Good t → Locates t.slots t.heap.fresh w kind r → r ≡ Ok i → (i < SLOTS_MAX) × (i * SLOT_WORDS + SLOT_WORDS ≤ length t.slots)
located_fits g d e = slot-fits g (located_at g d e).reached

-- it is of no other kind
pub other_kind : {t : State} {w i kind : ℕ} → Target t w i kind → (n : ℕ) → eqb kind n ≡ false → (raw_of t i).kind ≡ n → ⊥
other_kind {kind = kind} o n e z = eqb-false kind n e (sym o.kind-is ∙ z)
