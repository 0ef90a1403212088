-- Opening: buffers cleared, a heap without objects, and the refusals. Assumes nothing.
use Rattle.std.proofs.Common.{Ok, Err}
use Prim.Native.Nat.{ℕ, ◌+◌, ◌*◌, ◌≤◌, ◌<◌}
use mathlib.Core.Path.{◌≡◌, refl, ap, sym, ◌∙◌, fun_ext}
use mathlib.Core.Bool.{Bool, true, false, cond, ◌&&◌}
use mathlib.Core.List.{List, ◌++◌}
use mathlib.Core.Option.{Option, none, some}
use native.Mathlib.Omega.{arith}
use borrow.Author.Tests.{leb-true}
use lib.Dec.{leb}
use lib.ListN.{get_or-append, drop, get_or, get_or-replicate, length, length-append, length-drop, length-replicate, replicate, take}
use lib.Seq.{length-take-le}
use Rattle.heap_slots.specs.Limits.{CELLS_MAX, SLOT_WORDS, SLOTS_MAX}
use Rattle.words.specs.WordLaws.{and_left, and_right}
use Rattle.heap_cells.specs.Regions.{sum_to}
use Rattle.heap_cells.proofs.LaidLaws.{laid-empty}
use Rattle.heap_slots.specs.FreeList.{free_list}
use Rattle.layout.specs.Layout.{Layout, parse}
use Rattle.layout.specs.Sections.{LayoutRead, is_layout, opening_number, layout_of, readable, table_after}
use Rattle.std.specs.Prelude.{Result, IsOk}
use Rattle.layout.specs.declared.BadLayout.{BadLayout}
use Rattle.layout.proofs.Lookup.{none-parsed, tabled-layout}
use Rattle.history.proofs.Facts.{leb_yes}
use Rattle.model.specs.Opening.{Opening, between, open_heap, open_with, opened, sizes_fit}
use Rattle.model.specs.Terms.{is_some}
use Rattle.model.specs.declared.Weights.{Weights}
use Rattle.heap.specs.declared.Refusal.TheVariants.{BadOpening}
use Rattle.heap.specs.State.{State, model_of, state}
use Rattle.heap.specs.Good.{Good, WeightsGood}
use Rattle.heap.specs.Opens.{Beside, Opens, accepts, beside, cleared, new_heap, opened_by, opened_number, room_for, weights_fit}
use Rattle.heap.specs.Answers.{number_of}
use Rattle.heap.proofs.SlotLaws.{slot-unused}

-- ---- places cleared

pub filled : (l part : List ℕ) (n : ℕ) → n ≤ length l → part ≡ replicate (length (take n l)) 0 → part ++ drop n l ≡ cleared l n
filled l part n h e = ap (λ (p : List ℕ). p ++ drop n l) (e ∙ ap (λ (k : ℕ). replicate k 0) (length-take-le n l h))

pub cleared-length : (l : List ℕ) (n : ℕ) → n ≤ length l → length (cleared l n) ≡ length l
cleared-length l n h = length-append (replicate n 0) (drop n l) ∙ omega (arith, length-replicate {A = ℕ} n 0, length-drop n l)

cleared_zero : (l : List ℕ) (n j : ℕ) → j < n → get_or (cleared l n) j 0 ≡ 0
cleared_zero l n j h = get_or-append (replicate n 0) (drop n l) 0 j (omega (arith, length-replicate {A = ℕ} n 0)) ∙ get_or-replicate n j 0 0 h

-- ---- the tests

weight_so : (w : ℕ) → between 1 w 4096 ≡ true → (1 ≤ w) × (w ≤ 4096)
weight_so w h = (leb-true 1 w (and_left (leb 1 w) (leb w 4096) h), leb-true w 4096 (and_right (leb 1 w) (leb w 4096) h))

weights_so : (w : Weights) → weights_fit w ≡ true → WeightsGood w
weights_so w h =
    let f : Weights → Bool = λ w. between 1 w.frame 4096 in
    let c : Weights → Bool = λ w. between 1 w.coroutine 4096 && f w in
    let i : Weights → Bool = λ w. between 1 w.iterator 4096 && c w in
    let e : Weights → Bool = λ w. between 1 w.entry 4096 && i w in
    let h1 : e w ≡ true = and_right (between 1 w.slot 4096) (e w) h in
    let h2 : i w ≡ true = and_right (between 1 w.entry 4096) (i w) h1 in
    let h3 : c w ≡ true = and_right (between 1 w.iterator 4096) (c w) h2 in
    let h4 : f w ≡ true = and_right (between 1 w.coroutine 4096) (f w) h3 in
    record {
      slot = weight_so w.slot (and_left (between 1 w.slot 4096) (e w) h);
      entry = weight_so w.entry (and_left (between 1 w.entry 4096) (i w) h1);
      iterator = weight_so w.iterator (and_left (between 1 w.iterator 4096) (c w) h2);
      coroutine = weight_so w.coroutine (and_left (between 1 w.coroutine 4096) (f w) h3);
      frame = weight_so w.frame h4;
    }

-- what long enough buffers are
pub record RoomFor (size slots scalars list directory marks order : ℕ) : Type 0 where
  pub slots_fit : size * SLOT_WORDS ≤ slots
  pub scalars_fit : size * SLOT_WORDS ≤ scalars
  pub list_fit : size ≤ list
  pub directory_fit : size * 2 ≤ directory
  pub marks_fit : size ≤ marks
  pub order_fit : size * 2 ≤ order

pub room_so : (size slots scalars list directory marks order : ℕ) → room_for size slots scalars list directory marks order ≡ true → RoomFor size slots scalars list directory marks order
unfolding room_for
room_so size slots scalars list directory marks order h =
    let d = leb size marks && leb (size * 2) order in
    let c = leb (size * 2) directory && d in
    let b = leb size list && c in
    let a = leb (size * SLOT_WORDS) scalars && b in
    let h1 : a ≡ true = and_right (leb (size * SLOT_WORDS) slots) a h in
    let h2 : b ≡ true = and_right (leb (size * SLOT_WORDS) scalars) b h1 in
    let h3 : c ≡ true = and_right (leb size list) c h2 in
    let h4 : d ≡ true = and_right (leb (size * 2) directory) d h3 in
    record {
      slots_fit = leb-true (size * SLOT_WORDS) slots (and_left (leb (size * SLOT_WORDS) slots) a h);
      scalars_fit = leb-true (size * SLOT_WORDS) scalars (and_left (leb (size * SLOT_WORDS) scalars) b h1);
      list_fit = leb-true size list (and_left (leb size list) c h2);
      directory_fit = leb-true (size * 2) directory (and_left (leb (size * 2) directory) d h3);
      marks_fit = leb-true size marks (and_left (leb size marks) (leb (size * 2) order) h4);
      order_fit = leb-true (size * 2) order (and_right (leb size marks) (leb (size * 2) order) h4);
    }

-- ---- refused

no-model : (o : Opening) (p : Option Layout) → sizes_fit o ≡ false → is_some (open_with o p) ≡ false
unfolding open_with is_some
no-model o none h = refl
no-model o (some l) h = rw h

and_no : (a : Bool) → a && false ≡ false
and_no true = refl
and_no false = refl

pub sizes_short : (o : Opening) (t : State) (x : Beside) → sizes_fit o ≡ false → accepts o t x ≡ false
unfolding accepts open_heap
sizes_short o t x h = rw (no-model o (parse o.layout) h)

pub room-short : (o : Opening) (t : State) (x : Beside) → room_for o.slots (length t.slots) (length t.scalars) (length t.list) (length t.directory) (length x.marks) (length x.order) ≡ false → accepts o t x ≡ false
unfolding accepts
room-short o t x h = rw (h, and_no (leb 514 (length x.table)), and_no (is_some (open_heap o)))

layout_so : (b : Bool) → ◌≡◌ {A = ℕ} 10 (cond b 0 10) → b ≡ false
layout_so true e = absurd (omega arith)
layout_so false e = refl

-- no layout, or no room for its table
layout-no : (o : Opening) (t : State) (x : Beside) (b : Bool) → is_layout o.layout ≡ b → (b && leb 514 (length x.table)) ≡ false → accepts o t x ≡ false
unfolding accepts open_heap open_with is_some
layout-no o t x true e h = rw h (and_no (is_some (open_heap o)))
layout-no o t x false e h = rw (none-parsed o.layout e)

pub layout-refused : (o : Opening) (t : State) (x : Beside) {table : List ℕ} {r : Result Unit BadLayout} → LayoutRead o.layout x.table table r → opening_number r ≡ 10 → (accepts o t x ≡ false) × (table ≡ x.table)
unfolding table_after
layout-refused o t x w e =
    let f = layout_so (readable o.layout x.table) (sym e ∙ w.number) in
    (layout-no o t x (is_layout o.layout) refl f, w.table ∙ rw f)

opens-no : {o : Opening} {t : State} {x y : Beside} → accepts o t x ≡ false → y ≡ x → Opens o t x (Err BadOpening) y
unfolding opened_by opened_number number_of
opens-no h e = record { answer = rw h; number = rw h; accepted = λ z. absurd (let y : true ≡ false = sym z ∙ h in let w : ◌≡◌ {A = ℕ} 0 1 = cc in omega arith); refused = λ z. e }

pub opens-refused : {o : Opening} {t : State} {x : Beside} → accepts o t x ≡ false → Opens o t x (Err BadOpening) x
opens-refused h = opens-no h refl

pub opens-unread : {o : Opening} {t : State} {x : Beside} {table : List ℕ} {r : Result Unit BadLayout} → LayoutRead o.layout x.table table r → opening_number r ≡ 10 → Opens o t x (Err BadOpening) (beside table x.marks x.order)
opens-unread {o} {t} {x} w e = let f = layout-refused o t x w e in opens-no f.0 (rw f.1)

-- ---- accepted

record Sizes (o : Opening) : Type 0 where
  some_slot : 1 ≤ o.slots
  slots_max : o.slots ≤ SLOTS_MAX
  cells_max : o.cells ≤ CELLS_MAX
  weights : WeightsGood o.weights

sizes_so : (o : Opening) → sizes_fit o ≡ true → Sizes o
unfolding sizes_fit
sizes_so o h =
    let a = between 1 o.slots 65536 in
    let b = leb o.cells CELLS_MAX in
    let h1 = and_right a (b && weights_fit o.weights) h in
    let s = and_left a (b && weights_fit o.weights) h in
    record {
      some_slot = leb-true 1 o.slots (and_left (leb 1 o.slots) (leb o.slots 65536) s);
      slots_max = leb-true o.slots 65536 (and_right (leb 1 o.slots) (leb o.slots 65536) s);
      cells_max = leb-true o.cells CELLS_MAX (and_left b (weights_fit o.weights) h1);
      weights = weights_so o.weights (and_right b (weights_fit o.weights) h1);
    }

pub slots-below : (o : Opening) → sizes_fit o ≡ true → o.slots ≤ SLOTS_MAX
slots-below o h = (sizes_so o h).slots_max

-- a heap without objects, over buffers that hold anything
new-good : (o : Opening) (s x f d c : List ℕ) → o.cells ≡ length c → Sizes o → o.slots * SLOT_WORDS ≤ length s → o.slots * SLOT_WORDS ≤ length x → o.slots ≤ length f → o.slots * 2 ≤ length d →
    Good (state (new_heap o.slots o.limit o.weights) s x f d c)
unfolding sum_to
new-good o s x f d c e z a b l m = record {
  some_slot = z.some_slot;
  slots_max = z.slots_max;
  slots_fit = a;
  scalars_fit = b;
  list_fit = l;
  directory_fit = m;
  weights = z.weights;
  fresh = omega arith;
  each = λ i h. absurd (omega arith);
  laid = laid-empty s d c (rw (← e) z.cells_max);
  taken = refl;
  cells_fit = omega arith;
  listed = record { inside = λ k h. absurd (omega arith); empty = λ k h. absurd (omega arith); low = λ k h. absurd (omega arith); high = λ k h. absurd (omega arith); once = λ i j h k. absurd (omega arith) };
  present = refl;
  coroutines = refl;
  room = omega arith;
}

new-model : (o : Opening) (l : Layout) (s x f d c : List ℕ) → o.cells ≡ length c → opened o l ≡ model_of l (state (new_heap o.slots o.limit o.weights) s x f d c)
unfolding opened model_of free_list
new-model o l s x f d c e = rw (← e, fun_ext (λ i. slot-unused (state (new_heap o.slots o.limit o.weights) s x f d c) i (omega arith)))

module _ (o : Opening) (s x f d c : List ℕ) (b : Beside) where
  abbrev heap-opened : State
  heap-opened = state (new_heap o.slots o.limit o.weights) s x f d c

  pub opens-accepted : {table marks order : List ℕ} {r : Result Unit BadLayout} → sizes_fit o ≡ true → o.cells ≡ length c → room_for o.slots (length s) (length x) (length f) (length d) (length b.marks) (length b.order) ≡ true →
      LayoutRead o.layout b.table table r → IsOk r → marks ≡ cleared b.marks o.slots → order ≡ cleared b.order (o.slots * 2) → Opens o heap-opened b (Ok heap-opened.heap) (beside table marks order)
  unfolding accepts open_heap open_with is_some opened_by opened_number table_after
  opens-accepted {table} {marks} {order} sizes cells room w e em eo =
      let k = w.tabled e in
      let q = room_so o.slots (length s) (length x) (length f) (length d) (length b.marks) (length b.order) room in
      let fits : 514 ≤ length b.table = omega (arith, k.room, w.len) in
      let yes : accepts o heap-opened b ≡ true = rw (k.parsed, sizes, room, leb_yes 514 (length b.table) fits) in
      let layout : is_layout o.layout ≡ true = tabled-layout o.layout table k in
      record {
        answer = rw yes;
        number = rw yes;
        accepted = λ z. record {
          model = rw (k.parsed, sizes) (ap some (new-model o (layout_of o.layout) s x f d c cells));
          good = new-good o s x f d c cells (sizes_so o sizes) q.slots_fit q.scalars_fit q.list_fit q.directory_fit;
          tabled = k;
          rested = rw (em, eo)
              record {
                marks_fit = omega (arith, cleared-length b.marks o.slots q.marks_fit, q.marks_fit);
                order_fit = omega (arith, cleared-length b.order (o.slots * 2) q.order_fit, q.order_fit);
                marks_zero = cleared_zero b.marks o.slots;
                order_zero = cleared_zero b.order (o.slots * 2);
              };
          table = w.table ∙ rw (layout, leb_yes 514 (length b.table) fits);
          marks = em;
          order = eo;
        };
        refused = λ z. absurd (let y : true ≡ false = sym yes ∙ z in let w : ◌≡◌ {A = ℕ} 0 1 = cc in omega arith);
      }
