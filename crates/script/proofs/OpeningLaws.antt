-- Openings of a script. Assumes nothing.
use Rattle.std.proofs.Common.{Result, Ok, Err}
use Prim.Native.Nat.{ℕ, ◌-◌, ◌*◌, ◌≤◌, ◌<◌, min}
use mathlib.Core.Path.{◌≡◌, refl, sym, ap, ◌∙◌}
use mathlib.Core.Bool.{Bool, true, false, cond, ◌&&◌}
use mathlib.Core.List.{List, [], ◌∷◌}
use mathlib.Core.Option.{Option, none, some}
use native.Mathlib.Omega.{arith}
use borrow.Author.Tests.{leb-true}
use lib.Dec.{leb}
use lib.ListN.{length, take, drop}
use Rattle.history.proofs.Facts.{leb_no, leb_yes}
use lib.Seq.{length-take-le}
use Rattle.layout.specs.Layout.{Layout, parse, reading}
use Rattle.model.specs.Callsheet.{digits, printed, sheet_opening}
use Rattle.model.specs.Model.{Model}
use Rattle.model.specs.Terms.{is_some}
use Rattle.model.specs.declared.Weights.{Weights}
use Rattle.model.specs.Opening.{Opening, between, open_heap, open_with, opened, sizes_fit}
use Rattle.heap.specs.declared.Heap.{Heap}
use Rattle.heap.specs.declared.Refusal.{Refusal}
use Rattle.heap.specs.State.{State, model_of, state}
use Rattle.heap.specs.Opens as Heaps
use Rattle.heap.specs.Opens.{Beside, Opens, accepts, beside, new_heap, opening_of, room_for}
use Rattle.text.specs.Puts.{Puts}
use Rattle.text.proofs.PutsLaws.{puts-within}
use Rattle.commands.specs.declared.Operands.{Operands}
use Rattle.commands.specs.Table.{opening_in}
use Rattle.script.specs.declared.Session.{Session}
use Rattle.script.specs.declared.NotStarted.TheVariants as Not
use Rattle.script.specs.Replay.{opened_by, seatable}
use Rattle.script.specs.Turns.{Buffers, EndLine, Goes, LargeLine, Roomy, SessionReady, Starts, first_opening, first_session, heap_room, large_opening, moved_to, opens_first, opens_on, play_of, refused_opening, roomy, script_room, started_by, started_is}
use Rattle.script.proofs.SessionLaws.{ended_goes, kept_goes, with}

and-true : (b : Bool) → b && true ≡ b
and-true true = refl
and-true false = refl

-- ---- whether document 01 accepts an opening

some_is : (x : Option Model) → is_some x ≡ true → (m : Model) × (x ≡ some m)
unfolding is_some
some_is none e = let z : ◌≡◌ {A = ℕ} 0 1 = cc in absurd (omega arith)
some_is (some m) e = (m, refl)

none_is : (x : Option Model) → is_some x ≡ false → x ≡ none
unfolding is_some
none_is none e = refl
none_is (some m) e = let z : ◌≡◌ {A = ℕ} 0 1 = cc in absurd (omega arith)

pub opening_unfit : (o : Opening) → sizes_fit o ≡ false → false ≡ is_some (open_heap o)
unfolding open_heap open_with is_some
opening_unfit o e = go (parse o.layout)
  where
    go : (l : Option Layout) → false ≡ is_some (open_with o l)
    go none = refl
    go (some l) = rw e

module _ (o : Operands) (layout : List ℕ) where
  pub no-slots : o.a < 1 → false ≡ is_some (open_heap (opening_in o layout))
  unfolding sizes_fit
  no-slots h = opening_unfit (opening_in o layout) (rw (leb_no 1 o.a h))

  pub many_slots : 1 ≤ o.a → 65536 < o.a → false ≡ is_some (open_heap (opening_in o layout))
  unfolding sizes_fit
  many_slots k h = opening_unfit (opening_in o layout) (rw (leb_yes 1 o.a k, leb_no o.a 65536 h))

  pub many_cells : 1 ≤ o.a → o.a ≤ 65536 → 1048576 < o.b → false ≡ is_some (open_heap (opening_in o layout))
  unfolding sizes_fit
  many_cells k l h = opening_unfit (opening_in o layout) (rw (leb_yes 1 o.a k, leb_yes o.a 65536 l, leb_no o.b 1048576 h))

  -- one slot and one cell tell the same
  tried : 1 ≤ o.a → o.a ≤ 65536 → o.b ≤ 1048576 → is_some (open_heap (opening_of 1 1 o.c (opening_in o []).weights layout)) ≡ is_some (open_heap (opening_in o layout))
  unfolding open_heap open_with sizes_fit is_some
  tried k l h = go (parse layout)
    where
      same : (t : Bool) (x y : Model) → is_some (cond t (some x) none) ≡ is_some (cond t (some y) none)
      same true x y = refl
      same false x y = refl

      go : (p : Option Layout) → is_some (open_with (opening_of 1 1 o.c (opening_in o []).weights layout) p) ≡ is_some (open_with (opening_in o layout) p)
      go none = refl
      go (some p) = rw (leb_yes 1 o.a k, leb_yes o.a 65536 l, leb_yes o.b 1048576 h) (same (between 1 o.d 4096 && (between 1 o.e 4096 && (between 1 o.f 4096 && (between 1 o.g 4096 && between 1 o.h 4096)))) (opened (opening_of 1 1 o.c (opening_in o []).weights layout) p) (opened (opening_in o layout) p))

-- ---- an opening over buffers with room

module _ {o : Opening} {t : State} {x y : Beside} {r : Result Heap Refusal} (k : Opens o t x r y) where
  pub opened-yes : (h : Heap) → r ≡ Ok h → (accepts o t x ≡ true) × (h ≡ t.heap)
  unfolding Heaps.opened_by
  opened-yes h e = go (accepts o t x) refl k.answer
    where
      go : (b : Bool) → accepts o t x ≡ b → r ≡ Heaps.opened_by b t.heap → (accepts o t x ≡ true) × (h ≡ t.heap)
      go true z a = (z, cc)
      go false z a = let w : ◌≡◌ {A = ℕ} 0 1 = cc in absurd (omega arith)

  pub opened-no : (q : Refusal) → r ≡ Err q → accepts o t x ≡ false
  unfolding Heaps.opened_by
  opened-no q e = go (accepts o t x) refl k.answer
    where
      go : (b : Bool) → accepts o t x ≡ b → r ≡ Heaps.opened_by b t.heap → accepts o t x ≡ false
      go true z a = let w : ◌≡◌ {A = ℕ} 0 1 = cc in absurd (omega arith)
      go false z a = z

module _ (o : Opening) (h : Heap) {input : List ℕ} {u : Buffers} (g : Roomy input u) where
  fits : (cells : List ℕ) → o.slots ≤ 1024 → accepts o (state h u.slots u.scalars u.list u.directory cells) (beside u.table u.marks u.order) ≡ is_some (open_heap o)
  unfolding accepts room_for
  fits cells l =
      rw (
        leb_yes 514 (length u.table) g.table,
        leb_yes (o.slots * 8) (length u.slots) (omega (arith, g.slots)),
        leb_yes (o.slots * 8) (length u.scalars) (omega (arith, g.scalars)),
        leb_yes o.slots (length u.list) (omega (arith, g.list)),
        leb_yes (o.slots * 2) (length u.directory) (omega (arith, g.directory)),
        leb_yes o.slots (length u.marks) (omega (arith, g.marks)),
        leb_yes (o.slots * 2) (length u.order) (omega (arith, g.order)),
      ) (and-true (is_some (open_heap o)))

-- what the opening of one slot tells, over lists with room
module _ {o : Operands} {layout : List ℕ} {h : Heap} {s x f d c table marks order : List ℕ} {r : Result Heap Refusal} {y : Beside} {w : Weights} (ew : w ≡ (opening_in o []).weights) (k : Opens (opening_of 1 1 o.c w layout) (state h s x f d c) (beside table marks order) r y) (low : 1 ≤ o.a) (high : o.a ≤ 65536) (few : o.b ≤ 1048576)
    (ls : 8 ≤ length s) (lx : 8 ≤ length x) (lf : 1 ≤ length f) (ld : 2 ≤ length d) (lt : 514 ≤ length table) (lm : 1 ≤ length marks) (lo : 2 ≤ length order) where
  told : accepts (opening_of 1 1 o.c w layout) (state h s x f d c) (beside table marks order) ≡ is_some (open_heap (opening_in o layout))
  unfolding accepts room_for
  told = rw (ew, leb_yes 514 (length table) lt, leb_yes 8 (length s) ls, leb_yes 8 (length x) lx, leb_yes 1 (length f) lf, leb_yes 2 (length d) ld, leb_yes 1 (length marks) lm, leb_yes 2 (length order) lo) (and-true (is_some (open_heap (opening_of 1 1 o.c (opening_in o []).weights layout))) ∙ tried o layout low high few)

  pub told-yes : {h : Heap} → r ≡ Ok h → true ≡ is_some (open_heap (opening_in o layout))
  told-yes {h} e = sym (opened-yes k h e).0 ∙ told

  pub told-no : {q : Refusal} → r ≡ Err q → false ≡ is_some (open_heap (opening_in o layout))
  told-no {q} e = sym (opened-no k q e) ∙ told

-- ---- no room for it

module _ {p : Session} {x : Option Model} {next len : ℕ} {out out' : List ℕ} {r : Session} {b : Bool} (e : b ≡ is_some x) where
  pub large-refused : {used z : ℕ} → b ≡ false → used ≡ p.heap.account.used → Puts (printed (digits 16 2 0) 10 0 used) out p.end out' z → r ≡ moved_to p p.count next z → LargeLine p x next len out out' r
  large-refused {z = z} f y t m = refused_opening (none_is x (sym e ∙ f)) (rw m) (rw m (rw y at t))

  pub large-ends : b ≡ true → EndLine p len out out' r → LargeLine p x next len out out' r
  large-ends f k = let m = some_is x (sym e ∙ f) in large_opening m.0 m.1 k

large_goes : {input : List ℕ} {u : Buffers} {p r : Session} {out : List ℕ} (o : Opening) (x : Option Model) (next : ℕ) → SessionReady input u p → p.at < next → next ≤ length input → seatable o ≡ false → LargeLine p x next (length input) u.out out r →
    Goes input (opened_by (play_of input u p) o (drop next input) x) u p (with u u.roots u.words u.bytes u.places out) r
unfolding opened_by model_of
large_goes {input} {u} {p} {r} o x next g l i s (refused_opening e z t) = rw e (kept_goes _ next r.end g refl refl l i refl refl refl z t)
large_goes {input} {u} {p} {r} o x next g l i s (large_opening m e k) = rw (e, s) (ended_goes g (omega arith) refl refl refl k)

pub turned-large : {input : List ℕ} {u : Buffers} {p r : Session} {out : List ℕ} (o : Operands) (layout : List ℕ) (next : ℕ) {b : Bool} → SessionReady input u p → p.at < next → next ≤ length input → b ≡ seatable (opening_in o []) → b ≡ false → LargeLine p (open_heap (opening_in o layout)) next (length input) u.out out r →
    Goes input (opened_by (play_of input u p) (opening_in o layout) (drop next input) (open_heap (opening_in o layout))) u p (opens_on u u.table u.marks u.order out) r
unfolding seatable
turned-large o layout next g l i e f k = large_goes (opening_in o layout) (open_heap (opening_in o layout)) next g l i (sym e ∙ f) k

seat-slots : (o : Opening) → seatable o ≡ true → (o.slots ≤ 1024) × (o.cells ≤ 65536)
unfolding seatable
seat-slots o e = go (leb o.slots 1024) (leb o.cells 65536) refl refl e
  where
    go : (a b : Bool) → leb o.slots 1024 ≡ a → leb o.cells 65536 ≡ b → a && b ≡ true → (o.slots ≤ 1024) × (o.cells ≤ 65536)
    go true true x y e = (leb-true o.slots 1024 x, leb-true o.cells 65536 y)
    go true false x y e = let z : ◌≡◌ {A = ℕ} 0 1 = cc in absurd (omega arith)
    go false b x y e = let z : ◌≡◌ {A = ℕ} 0 1 = cc in absurd (omega arith)

abbrev opening : List ℕ → Operands → ℕ → ℕ → Opening
opening input o from to = opening_in o (take (to - from) (drop from input))

abbrev new_state : Buffers → Operands → State
new_state u o = state (new_heap o.a o.c (opening_in o []).weights) u.slots u.scalars u.list u.directory (take o.b u.cells)

module _ {input : List ℕ} {u : Buffers} {p : Session} {table marks order : List ℕ} (o : Operands) (from to next e : ℕ) {r : Result Heap Refusal} (g : SessionReady input u p) {b : Bool} (eb : b ≡ seatable (opening_in o [])) (tb : b ≡ true)
    (k : Opens (opening input o from to) (new_state u o) (beside u.table u.marks u.order) r (beside table marks order)) (l : p.at < next) (i : next ≤ length input) where
  seats : seatable (opening_in o []) ≡ true
  seats = sym eb ∙ tb

  accepted : accepts (opening input o from to) (new_state u o) (beside u.table u.marks u.order) ≡ is_some (open_heap (opening input o from to))
  accepted = fits (opening input o from to) (new_heap o.a o.c (opening_in o []).weights) g.roomy (take o.b u.cells) (seat-slots (opening_in o []) seats).0

  pub turned-refused : {out : List ℕ} {q : Refusal} {used : ℕ} {s : Session} → r ≡ Err q → used ≡ p.heap.account.used → Puts (printed (digits 16 2 0) 10 0 used) u.out p.end out e → s ≡ moved_to p p.count next e →
      Goes input (opened_by (play_of input u p) (opening input o from to) (drop next input) (open_heap (opening input o from to))) u p (opens_on u table marks order out) s
  unfolding opened_by model_of
  turned-refused {q = q} z y t m =
      let n = opened-no k q z in
      let w = k.refused n in
      rw (none_is (open_heap (opening input o from to)) (sym accepted ∙ n), ap (λ (b : Beside). b.table) w, ap (λ (b : Beside). b.marks) w, ap (λ (b : Beside). b.order) w) (kept_goes _ next e g refl refl l i refl refl refl m (rw y at t))

  pub turned-opened : {out : List ℕ} (h : Heap) → r ≡ Ok h → from ≤ to → to ≤ length input → length table ≡ length u.table → length marks ≡ length u.marks → length order ≡ length u.order → Puts (printed (digits 16 2 0) 0 0 h.account.used) u.out p.end out e →
      Goes input (opened_by (play_of input u p) (opening input o from to) (drop next input) (open_heap (opening input o from to))) u p (opens_on u table marks order out) (record { heap = h; count = 0; room = o.b; from = from; to = to; at = next; end = e })
  unfolding opened_by model_of seatable
  turned-opened h z low within lt lm lo t =
      let y = opened-yes k h z in
      let a = k.accepted y.0 in
      let fit = seat-slots (opening_in o []) seats in
      rw (a.model, seats, y.1) record {
        ready = record {
          roomy = record {
            slots = g.roomy.slots;
            scalars = g.roomy.scalars;
            list = g.roomy.list;
            directory = g.roomy.directory;
            cells = g.roomy.cells;
            marks = omega (arith, g.roomy.marks, lm);
            order = omega (arith, g.roomy.order, lo);
            table = omega (arith, g.roomy.table, lt);
            roots = g.roomy.roots;
            words = g.roomy.words;
            bytes = g.roomy.bytes;
            places = g.roomy.places;
            out = omega (arith, g.roomy.out, t.size);
          };
          ready = record { good = a.good; rested = a.rested; tabled = a.tabled };
          seated = fit.0;
          room = omega (arith, fit.1, g.roomy.cells);
          layout = low;
          within = within;
          few = omega arith;
          inside = i;
          end = puts-within g.end t;
        };
        text = rw y.1 at t;
        next = refl;
        rest = refl;
        onward = l;
      }

pub seat-cells : {input : List ℕ} {u : Buffers} {p : Session} (o : Operands) {b : Bool} → b ≡ seatable (opening_in o []) → b ≡ true → SessionReady input u p → o.b ≤ length u.cells
seat-cells o e t g = omega (arith, (seat-slots (opening_in o []) (sym e ∙ t)).1, g.roomy.cells)

-- ---- the first heap

abbrev first_state : Buffers → State
first_state u = state (new_heap 256 1048576 sheet_opening.weights) u.slots u.scalars u.list u.directory (take 2048 u.cells)

and_parts : (a b : Bool) → a && b ≡ true → (a ≡ true) × (b ≡ true)
and_parts true b e = (refl, e)
and_parts false b e = let z : ◌≡◌ {A = ℕ} 0 1 = cc in absurd (omega arith)

pub roomy_true : {input : List ℕ} {u : Buffers} → Roomy input u → roomy input u ≡ true
unfolding roomy heap_room script_room
roomy_true {input} {u} g =
    rw (
      leb_yes 8192 (length u.slots) g.slots,
      leb_yes 8192 (length u.scalars) g.scalars,
      leb_yes 1024 (length u.list) g.list,
      leb_yes 2048 (length u.directory) g.directory,
      leb_yes 65536 (length u.cells) g.cells,
      leb_yes 1024 (length u.marks) g.marks,
      leb_yes 2048 (length u.order) g.order,
      leb_yes 514 (length u.table) g.table,
      leb_yes 64 (length u.roots) g.roots,
      leb_yes 64 (length u.words) g.words.0,
      leb_yes (length input) (8 * length u.words) g.words.1,
      leb_yes 524288 (length u.bytes) g.bytes.0,
      leb_yes (length input) (length u.bytes) g.bytes.1,
      leb_yes 65536 (length u.places) g.places,
      leb_yes 1114279 (length u.out) g.out,
    )

pub true_roomy : (input : List ℕ) (u : Buffers) {a b : Bool} → a ≡ heap_room (length u.slots) (length u.scalars) (length u.list) (length u.directory) (length u.cells) (length u.marks) (length u.order) (length u.table) → a ≡ true →
    b ≡ script_room (length input) (length u.roots) (length u.words) (length u.bytes) (length u.places) (length u.out) → b ≡ true → Roomy input u
unfolding heap_room script_room
true_roomy input u ea ta eb tb =
    let a = and_parts (leb 8192 (length u.slots)) _ (sym ea ∙ ta) in
    let b = and_parts (leb 8192 (length u.scalars)) _ a.1 in
    let c = and_parts (leb 1024 (length u.list)) _ b.1 in
    let d = and_parts (leb 2048 (length u.directory)) _ c.1 in
    let e = and_parts (leb 65536 (length u.cells)) _ d.1 in
    let f = and_parts (leb 1024 (length u.marks)) _ e.1 in
    let g = and_parts (leb 2048 (length u.order)) _ f.1 in
    let h = and_parts (leb 64 (length u.roots)) _ (sym eb ∙ tb) in
    let i = and_parts (leb 64 (length u.words)) _ h.1 in
    let j = and_parts (leb (length input) (8 * length u.words)) _ i.1 in
    let k = and_parts (leb 524288 (length u.bytes)) _ j.1 in
    let l = and_parts (leb (length input) (length u.bytes)) _ k.1 in
    let m = and_parts (leb 65536 (length u.places)) _ l.1 in
    record {
      slots = leb-true 8192 (length u.slots) a.0;
      scalars = leb-true 8192 (length u.scalars) b.0;
      list = leb-true 1024 (length u.list) c.0;
      directory = leb-true 2048 (length u.directory) d.0;
      cells = leb-true 65536 (length u.cells) e.0;
      marks = leb-true 1024 (length u.marks) f.0;
      order = leb-true 2048 (length u.order) g.0;
      table = leb-true 514 (length u.table) g.1;
      roots = leb-true 64 (length u.roots) h.0;
      words = (leb-true 64 (length u.words) i.0, leb-true (length input) (8 * length u.words) j.0);
      bytes = (leb-true 524288 (length u.bytes) k.0, leb-true (length input) (length u.bytes) l.0);
      places = leb-true 65536 (length u.places) m.0;
      out = leb-true 1114279 (length u.out) m.1;
    }

-- a lent buffer is too short
module _ {input : List ℕ} (u : Buffers) where
  short : roomy input u ≡ false → Starts input u (Err Not.Short) u
  unfolding started_is started_by
  short e = record { answer = rw e; accepted = λ z. absurd_true (sym e ∙ z); refused = λ z. refl }
    where
      absurd_true : {A : Type 0} → false ≡ true → A
      absurd_true z = let w : ◌≡◌ {A = ℕ} 0 1 = cc in absurd (omega arith)

  pub short-heap : {a : Bool} → a ≡ heap_room (length u.slots) (length u.scalars) (length u.list) (length u.directory) (length u.cells) (length u.marks) (length u.order) (length u.table) → a ≡ false → Starts input u (Err Not.Short) u
  unfolding roomy
  short-heap e z = short (let y = sym e ∙ z in rw y)

  pub short_script : {a b : Bool} → a ≡ heap_room (length u.slots) (length u.scalars) (length u.list) (length u.directory) (length u.cells) (length u.marks) (length u.order) (length u.table) → a ≡ true →
      b ≡ script_room (length input) (length u.roots) (length u.words) (length u.bytes) (length u.places) (length u.out) → b ≡ false → Starts input u (Err Not.Short) u
  unfolding roomy
  short_script e z f y = short (let i = sym e ∙ z in let j = sym f ∙ y in rw (i, j))

first-front : (input : List ℕ) (n : ℕ) → n ≡ min (length input) 1 → take n input ≡ take 1 input
first-front [] n e = let z : n ≡ 0 = omega arith in rw z
first-front (b ∷ bs) n e = let z : n ≡ 1 = omega arith in rw z

no-layout : is_some (open_heap (first_opening [])) ≡ false
unfolding open_heap open_with parse reading is_some
no-layout = refl

first_byte : (input : List ℕ) → is_some (open_heap (first_opening input)) ≡ true → 1 ≤ length input
first_byte [] e = let w : true ≡ false = sym e ∙ no-layout in let z : ◌≡◌ {A = ℕ} 0 1 = cc in absurd (omega arith)
first_byte (b ∷ bs) e = omega arith

-- the buffers with another table, marks and order
module _ {input : List ℕ} {u : Buffers} {table marks order : List ℕ} {r : Result Heap Refusal} (g : Roomy input u) {n : ℕ} (en : n ≡ min (length input) 1)
    (k : Opens (opening_of 256 (length (take 2048 u.cells)) 1048576 sheet_opening.weights (take n input)) (first_state u) (beside u.table u.marks u.order) r (beside table marks order)) where
  first-opens : Opens (first_opening input) (first_state u) (beside u.table u.marks u.order) r (beside table marks order)
  first-opens = rw (length-take-le 2048 u.cells (omega (arith, g.cells)), first-front input n en) at k

  first-accepts : accepts (first_opening input) (first_state u) (beside u.table u.marks u.order) ≡ opens_first input
  unfolding opens_first
  first-accepts = fits (first_opening input) (new_heap 256 1048576 sheet_opening.weights) g (take 2048 u.cells) (omega arith)

  first-ready : length table ≡ length u.table → length marks ≡ length u.marks → length order ≡ length u.order → opens_first input ≡ true → SessionReady input (opens_on u table marks order u.out) first_session × (open_heap (first_opening input) ≡ some (play_of input (opens_on u table marks order u.out) first_session).heap)
  unfolding opens_first
  first-ready lt lm lo e =
      let a = first-opens.accepted (first-accepts ∙ e) in (
        record {
          roomy = record {
            slots = g.slots;
            scalars = g.scalars;
            list = g.list;
            directory = g.directory;
            cells = g.cells;
            marks = omega (arith, g.marks, lm);
            order = omega (arith, g.order, lo);
            table = omega (arith, g.table, lt);
            roots = g.roots;
            words = g.words;
            bytes = g.bytes;
            places = g.places;
            out = g.out;
          };
          ready = record { good = a.good; rested = a.rested; tabled = a.tabled };
          seated = omega arith;
          room = omega (arith, g.cells);
          layout = omega arith;
          within = first_byte input e;
          few = omega arith;
          inside = first_byte input e;
          end = omega arith;
        },
        a.model,
      )

  pub starts-refused : {q : Refusal} → r ≡ Err q → length table ≡ length u.table → length marks ≡ length u.marks → length order ≡ length u.order → Starts input u (Err Not.Refused) (opens_on u table marks order u.out)
  unfolding started_is started_by
  starts-refused {q} e lt lm lo =
      let n = opened-no first-opens q e in
      let w = first-opens.refused n in
      record {
        answer = rw (roomy_true g, ← first-accepts, n);
        accepted = λ z. first-ready lt lm lo;
        refused = λ z. rw (ap (λ (b : Beside). b.table) w, ap (λ (b : Beside). b.marks) w, ap (λ (b : Beside). b.order) w);
      }

  pub starts_open : (h : Heap) → r ≡ Ok h → length table ≡ length u.table → length marks ≡ length u.marks → length order ≡ length u.order →
      Starts input u (Ok record { heap = h; count = 0; room = 2048; from = 0; to = 1; at = 1; end = 0 }) (opens_on u table marks order u.out)
  unfolding started_is started_by
  starts_open h e lt lm lo =
      let y = opened-yes first-opens h e in
      record {
        answer = rw (roomy_true g, ← first-accepts, y.0, y.1);
        accepted = λ z. first-ready lt lm lo;
        refused = λ z. let w : ◌≡◌ {A = ℕ} 0 1 = cc in absurd (omega arith);
      }
