-- The calls of a command over the fronts of the lent buffers, and its line. Assumes nothing.
use Rattle.std.proofs.Common.{Option, Some, None}
use Prim.Native.Nat.{ℕ, ◌≤◌, ◌<◌}
use mathlib.Core.Path.{◌≡◌, refl, sym, ap, subst, ◌∙◌}
use mathlib.Core.Logic.{◌≢◌}
use mathlib.Core.Bool.{Bool, true, false}
use mathlib.Core.List.{List, [], ◌∷◌}
use native.Mathlib.Omega.{arith}
use lib.ListN.{length, take, drop}
use lib.Seq.{drop-length}
use Rattle.layout.specs.Sections.{layout_of}
use Rattle.history.proofs.Sizes.{step-size}
use Rattle.model.specs.Calls.{Call}
use Rattle.model.specs.Model.{Model}
use Rattle.model.specs.Step.{step}
use Rattle.model.specs.Demand3.{run}
use Rattle.heap.specs.declared.Heap.{Heap}
use Rattle.heap.specs.State.{State, model_of, state}
use Rattle.heap.specs.Good.{Ready}
use Rattle.text.specs.Puts.{Puts}
use Rattle.text.proofs.PutsLaws.{puts-same, puts-within}
use Rattle.answers.specs.declared.Shown.{Shown}
use Rattle.commands.specs.declared.Operands.{Operands}
use Rattle.commands.specs.declared.Form.{Form}
use Rattle.commands.specs.declared.Memory.TheVariants.{Own, Buffer, Places, Roots}
use Rattle.commands.specs.declared.Shape.{Shape}
use Rattle.commands.specs.Rows.{Act, Lists, add_root, make, make_both, no_act, opens_with}
use Rattle.commands.specs.Table.{act_of, form_of, memory_of, shape_of}
use Rattle.commands.specs.Promise.{CommandedBy, calls_in}
use Rattle.commands.proofs.ActLaws as Acts
use Rattle.script.specs.declared.Session.{Session}
use Rattle.script.specs.Lines.{adjusted, buffer_text, lent_text, line_text}
use Rattle.script.specs.Replay.{Play, acted, called, ended}
use Rattle.script.specs.Turns.{Buffers, EndLine, Goes, Kept, Roomy, SessionReady, layout_in, lists_in, play_of, seated_in}
use Rattle.script.proofs.ActLaws.{silent}
use Rattle.script.proofs.SessionLaws.{with}
use Rattle.commands.specs.declared.Memory.{Memory}

-- ---- the line

unfoldable is_buffer : Memory → Bool
is_buffer Own = false
is_buffer Buffer = true
is_buffer Places = false
is_buffer Roots = false

-- the bytes count only where a buffer is lent
lent_same : (e : Memory) (s : Shown) (places bytes more : List ℕ) → (e ≡ Buffer → bytes ≡ more) → lent_text e s places bytes ≡ lent_text e s places more
unfolding lent_text
lent_same Own s places bytes more f = refl
lent_same Buffer s places bytes more f = ap buffer_text (f refl)
lent_same Places s places bytes more f = refl
lent_same Roots s places bytes more f = refl

line_same : (n : ℕ) (e : Memory) (f : Form) (s : Shown) (used : ℕ) (places bytes more : List ℕ) → (e ≡ Buffer → bytes ≡ more) → line_text n f e s used places bytes ≡ line_text n f e s used places more
unfolding line_text
line_same n e f s used places bytes more g = rw (lent_same e s places bytes more g)

other : {e : Memory} → is_buffer e ≡ false → e ≡ Buffer → ⊥
unfolding is_buffer
other p q = let z : true ≡ false = rw q at p in let w : ◌≡◌ {A = ℕ} 0 1 = cc in absurd (omega arith)

-- what is shown of the bytes has room
pub shown-few : (m b : ℕ) (e : Memory) → (e ≡ Buffer → m ≡ b) → ((e ≡ Buffer → ⊥) → m ≡ 0) → (e ≡ Buffer → b ≤ 524288) → m ≤ 524288
unfolding is_buffer
shown-few m b Own f g h = omega (arith, g (other refl))
shown-few m b Buffer f g h = omega (arith, f refl, h refl)
shown-few m b Places f g h = omega (arith, g (other refl))
shown-few m b Roots f g h = omega (arith, g (other refl))

-- ---- what comes of a command

acted-called : (p : Play) (n : ℕ) (o : Operands) (t : Lists) (rest : List ℕ) (x : Act) → calls_in x ≢ [] → acted p n o t rest x ≡ called p n o t rest x
unfolding acted calls_in
acted-called p n o t rest no_act h = absurd (h refl)
acted-called p n o t rest (opens_with x) h = absurd (h refl)
acted-called p n o t rest (add_root w) h = absurd (h refl)
acted-called p n o t rest (make k) h = refl
acted-called p n o t rest (make_both k j) h = refl

run-size : (m : Model) (ks : List Call) → (run m ks).table.size ≡ m.table.size
unfolding run
run-size m [] = refl
run-size m (k ∷ ks) = run-size (step m k).next ks ∙ step-size m k

pub kept-roomy : {input : List ℕ} {u v : Buffers} → Roomy input u → Kept u v → Roomy input v
kept-roomy g k = record {
  slots = omega (arith, g.slots, k.slots);
  scalars = omega (arith, g.scalars, k.scalars);
  list = omega (arith, g.list, k.list);
  directory = omega (arith, g.directory, k.directory);
  cells = omega (arith, g.cells, k.cells);
  marks = omega (arith, g.marks, k.marks);
  order = omega (arith, g.order, k.order);
  table = omega (arith, g.table, k.table);
  roots = omega (arith, g.roots, k.roots);
  words = (omega (arith, g.words, k.words), omega (arith, g.words, k.words));
  bytes = (omega (arith, g.bytes, k.bytes), omega (arith, g.bytes, k.bytes));
  places = omega (arith, g.places, k.places);
  out = omega (arith, g.out, k.out);
}

-- another text is written behind
pub kept_out : {u v : Buffers} {out : List ℕ} → Kept u v → length out ≡ length v.out → Kept u (with v v.roots v.words v.bytes v.places out)
kept_out k e = record { slots = k.slots; scalars = k.scalars; list = k.list; directory = k.directory; cells = k.cells; marks = k.marks; order = k.order; table = k.table; roots = k.roots; words = k.words; bytes = k.bytes; places = k.places; out = e ∙ k.out }

abbrev play : Model → List ℕ → Play
play m rs = record { heap = m; roots = rs }

-- the session behind a call
abbrev pub behind : Session → Heap → ℕ → ℕ → Session
behind p h next end = record { heap = h; count = p.count; room = p.room; from = p.from; to = p.to; at = next; end = end }

module _ (code : ℕ) (o : Operands) (w e b n next : ℕ) {input : List ℕ} {u v : Buffers} {p : Session} {q : Option Shown} (h : Heap) (g : SessionReady input u p) (k : Kept u v)
    (c : CommandedBy (layout_of (layout_in input p)) (memory_of code) (seated_in u p) (take b u.bytes) (take n u.places) (act_of code o (lists_in u w e b n)) q (state h v.slots v.scalars v.list v.directory (take p.room v.cells)) (take b v.bytes) (take n v.places))
    (ready : Ready (state h v.slots v.scalars v.list v.directory (take p.room v.cells)) v.marks v.order (layout_in input p) v.table) (l : p.at < next) (i : next ≤ length input) where
  pub known_goes : {s : Shown} (t : Shape) {m end : ℕ} → q ≡ Some s → t ≡ shape_of code → v.roots ≡ u.roots → (t.memory ≡ Buffer → m ≡ b) →
      Puts (line_text code t.form t.memory (adjusted t.form o s) h.account.used (take n v.places) (take m v.bytes)) u.out p.end v.out end →
      Goes input (acted (play_of input u p) code o (lists_in u w e b n) (drop next input) (act_of code o (lists_in u w e b n))) u p v (behind p h next end)
  unfolding called model_of shape_of
  known_goes {s} t {m} {end} eq es er em line =
      let x = act_of code o (lists_in u w e b n) in
      let a = Acts.acted c eq in
      let mo = ap (λ (y : Shape). y.memory) es in
      let fo = ap (λ (y : Shape). y.form) es in
      let f = line_same code t.memory t.form (adjusted t.form o s) h.account.used (take n v.places) (take m v.bytes) (take b v.bytes) (λ z. ap (λ (y : ℕ). take y v.bytes) (em z)) in
      let size = ap (λ (y : Model). y.table.size) a.next ∙ run-size (model_of (layout_of (layout_in input p)) (seated_in u p)) (calls_in x) in
      let used = ap (λ (y : Model). y.account.used) a.next in
      let plain : Puts (line_text code (form_of code) (memory_of code) (adjusted (form_of code) o s) h.account.used (take n v.places) (take b v.bytes)) u.out p.end v.out end = rw (fo, mo) at (puts-same f line) in
      rw (acted-called (play_of input u p) code o (lists_in u w e b n) (drop next input) x a.calls) record {
        ready = record {
          roomy = kept-roomy g.roomy k;
          ready = ready;
          seated = omega (arith, g.seated, size);
          room = omega (arith, g.room, k.cells);
          layout = g.layout;
          within = g.within;
          few = g.few;
          inside = i;
          end = puts-within g.end line;
        };
        text = rw (← a.shown, ← a.listed, ← a.buffered, ← used) plain;
        next = ap (λ (y : Model). play y (take p.count v.roots)) a.next ∙ ap (λ (y : List ℕ). play (run (model_of (layout_of (layout_in input p)) (seated_in u p)) (calls_in x)) (take p.count y)) er;
        rest = refl;
        onward = l;
      }

  pub unknown_goes : {r : Session} → code ≢ 0x00 → code ≢ 0x0B → q ≡ None → EndLine (behind p h p.at p.end) (length input) u.out v.out r → v.roots ≡ u.roots →
      Goes input (acted (play_of input u p) code o (lists_in u w e b n) (drop next input) (act_of code o (lists_in u w e b n))) u p v r
  unfolding acted ended model_of
  unknown_goes {r} h0 hb eq stops er =
      let a = Acts.not_acted c eq in
      let eh = ap (λ (y : State). y.heap) a.1.0 in
      let line : EndLine p (length input) u.out v.out r = rw eh at stops in
      let es : state p.heap v.slots v.scalars v.list v.directory (take p.room v.cells) ≡ seated_in u p = rw eh at a.1.0 in
      rw (silent o (lists_in u w e b n) code h0 hb a.0)
      (subst (λ (y : Session). Goes input (ended (play_of input u p)) u p v y) (sym line.same) record {
        ready = record {
          roomy = kept-roomy g.roomy k;
          ready = rw eh at ready;
          seated = g.seated;
          room = omega (arith, g.room, k.cells);
          layout = g.layout;
          within = g.within;
          few = g.few;
          inside = omega arith;
          end = puts-within g.end line.text;
        };
        text = line.text;
        next = ap (λ (y : State). play (model_of (layout_of (layout_in input p)) y) (take p.count v.roots)) es ∙ ap (λ (y : List ℕ). play (model_of (layout_of (layout_in input p)) (seated_in u p)) (take p.count y)) er;
        rest = drop-length input;
        onward = omega arith;
      })
