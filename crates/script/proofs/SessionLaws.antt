-- Sessions between commands: the lent buffers, roots, the end of a script. Assumes nothing.
use Prim.Native.Nat.{ℕ, ◌+◌, ◌≤◌, ◌<◌}
use mathlib.Core.Path.{◌≡◌, refl, sym, ap, subst}
use mathlib.Core.List.{List, [], ◌∷◌}
use native.Mathlib.Omega.{arith}
use native.Mathlib.Numerals.{add-one}
use lib.ListN.{length, set, take, drop, length-set}
use lib.Seq.{drop-length, length-take-le, take-suc-set}
use Rattle.history.proofs.Facts.{leb_no, leb_yes}
use Rattle.model.specs.Callsheet.{digits, printed}
use Rattle.heap.specs.State.{model_of}
use Rattle.text.specs.Puts.{Puts}
use Rattle.text.proofs.PutsLaws.{puts-within}
use Rattle.script.specs.declared.Session.{Session}
use Rattle.script.specs.Replay.{Turned, ended, rooted}
use Rattle.script.specs.Turns.{Buffers, EndLine, Goes, Roomy, RootLine, SessionReady, moved_to, play_of}

-- ---- the lent buffers with other roots, words, bytes, places and text

abbrev pub with : Buffers → List ℕ → List ℕ → List ℕ → List ℕ → List ℕ → Buffers
with u roots words bytes places out = record {
  slots = u.slots;
  scalars = u.scalars;
  list = u.list;
  directory = u.directory;
  cells = u.cells;
  marks = u.marks;
  order = u.order;
  table = u.table;
  roots = roots;
  words = words;
  bytes = bytes;
  places = places;
  out = out;
}

-- the lengths that the lent buffers keep
pub record Lengths (input : List ℕ) (u : Buffers) (roots words bytes places out : List ℕ) : Type 0 where
  pub rooted : length roots ≡ length u.roots
  pub worded : length words ≡ length u.words
  pub sized : length bytes ≡ length u.bytes
  pub placed : length places ≡ length u.places
  pub printed : length out ≡ length u.out

module _ {input : List ℕ} {u : Buffers} {roots words bytes places out : List ℕ} (k : Lengths input u roots words bytes places out) where
  roomy_with : Roomy input u → Roomy input (with u roots words bytes places out)
  roomy_with g = record {
    slots = g.slots;
    scalars = g.scalars;
    list = g.list;
    directory = g.directory;
    cells = g.cells;
    marks = g.marks;
    order = g.order;
    table = g.table;
    roots = omega (arith, g.roots, k.rooted);
    words = (omega (arith, g.words, k.worded), omega (arith, g.words, k.worded));
    bytes = (omega (arith, g.bytes, k.sized), omega (arith, g.bytes, k.sized));
    places = omega (arith, g.places, k.placed);
    out = omega (arith, g.out, k.printed);
  }

  pub ready_with : {p : Session} (count at end : ℕ) → SessionReady input u p → count ≤ 64 → at ≤ length input → end ≤ length out → SessionReady input (with u roots words bytes places out) (moved_to p count at end)
  ready_with count at end g few inside e = record {
    roomy = roomy_with g.roomy;
    ready = g.ready;
    seated = g.seated;
    room = g.room;
    layout = g.layout;
    within = g.within;
    few = few;
    inside = inside;
    end = e;
  }

-- ---- the end of a script

pub end_line : {p : Session} {len e used : ℕ} {out out' : List ℕ} {r : Session} → used ≡ p.heap.account.used → Puts (printed (63 ∷ 63 ∷ []) 4 0 used) out p.end out' e → r ≡ moved_to p p.count len e → EndLine p len out out' r
end_line z t e = rw e record { same = refl; text = rw z at t }

-- a line that leaves heap and roots as they were
pub kept_goes : {input : List ℕ} {u : Buffers} {p r : Session} {words bytes places out : List ℕ} (t : Turned) (next e : ℕ) → SessionReady input u p → t.next ≡ play_of input u p → t.rest ≡ drop next input → p.at < next → next ≤ length input →
    length words ≡ length u.words → length bytes ≡ length u.bytes → length places ≡ length u.places → r ≡ moved_to p p.count next e → Puts t.text u.out p.end out e →
    Goes input t u p (with u u.roots words bytes places out) r
kept_goes {input} {u} {p} {r} {words} {bytes} {places} {out} t next e g en er l i b c d z k =
    let y : Lengths input u u.roots words bytes places out = record { rooted = refl; worded = b; sized = c; placed = d; printed = k.size } in
    rw z record { ready = ready_with y p.count next e g g.few i (puts-within g.end k); text = k; next = sym en; rest = sym er; onward = l }

pub ended_goes : {input : List ℕ} {u : Buffers} {p r : Session} {words bytes places out : List ℕ} → SessionReady input u p → p.at < length input → length words ≡ length u.words → length bytes ≡ length u.bytes → length places ≡ length u.places → EndLine p (length input) u.out out r →
    Goes input (ended (play_of input u p)) u p (with u u.roots words bytes places out) r
unfolding ended model_of
ended_goes {input} {u} {p} {r} g l b c d k = kept_goes (ended (play_of input u p)) (length input) r.end g refl (sym (drop-length input)) l (omega arith) b c d k.same k.text

-- ---- roots

module _ {p : Session} {w next : ℕ} {before out after out' : List ℕ} {r : Session} (e : ℕ) where
  pub root-added : {used : ℕ} → used ≡ p.heap.account.used → p.count < 64 → 64 ≤ length before → after ≡ set before p.count w → r ≡ moved_to p (p.count + 1) next e → Puts (printed (digits 16 2 0x0B) 0 0 used) out p.end out' e → RootLine p w next before out after out' r
  root-added y h l a z t =
      let n = leb_no 64 p.count h in
      rw (z, a) record { same = refl; few = omega arith; size = length-set before p.count w; roots = rw (n, add-one p.count) (take-suc-set before p.count w (omega arith)); text = rw (n, ← y) t }

  pub root-full : {used : ℕ} → used ≡ p.heap.account.used → 64 ≤ p.count → p.count ≤ 64 → after ≡ before → r ≡ moved_to p p.count next e → Puts (printed (digits 16 2 0x0B) 4 0 used) out p.end out' e → RootLine p w next before out after out' r
  root-full y h l a z t =
      let n = leb_yes 64 p.count h in
      rw (z, a) record { same = refl; few = l; size = refl; roots = rw n; text = rw (n, ← y) t }

pub rooted_goes : {input : List ℕ} {u : Buffers} {p r : Session} {w next : ℕ} {roots words bytes places out : List ℕ} → SessionReady input u p → p.at < next → next ≤ length input → length words ≡ length u.words → bytes ≡ u.bytes → places ≡ u.places → RootLine p w next u.roots u.out roots out r →
    Goes input (rooted (play_of input u p) w (drop next input)) u p (with u roots words bytes places out) r
unfolding rooted model_of
rooted_goes {input} {u} {p} {r} {w} {next} {roots} {words} {bytes} {places} {out} g l i b c d k =
    let z : Lengths input u roots words bytes places out = record { rooted = k.size; worded = b; sized = ap length c; placed = ap length d; printed = k.text.size } in
    let n : length (take p.count u.roots) ≡ p.count = length-take-le p.count u.roots (omega (arith, g.few, g.roomy.roots)) in
    subst (λ (q : Session). Goes input (rooted (play_of input u p) w (drop next input)) u p (with u roots words bytes places out) q) (sym k.same) record {
      ready = ready_with z r.count next r.end g k.few i (puts-within g.end k.text);
      text = rw n k.text;
      next = rw (n, k.roots);
      rest = refl;
      onward = l;
    }
