-- Commands one after another: their lines and the text of those left come to the script's. Assumes nothing.
use Prim.Native.Nat.{ℕ, ◌+◌, ◌-◌, ◌≤◌, ◌<◌}
use mathlib.Core.Path.{◌≡◌, refl, sym, ap, ◌∙◌}
use mathlib.Core.List.{List, ◌∷◌, ◌++◌, append_assoc}
use native.Mathlib.Omega.{arith}
use native.Mathlib.Numerals.{add-one}
use lib.ListN.{length, get_or, take, drop}
use lib.Seq.{drop-cons}
use Rattle.heap_slots.proofs.Cases.{by_cases, lt_or_le}
use Rattle.text.proofs.PutsLaws.{drop-later}
use Rattle.script.specs.declared.Lent.{Lent}
use Rattle.script.specs.declared.Session.{Session}
use Rattle.script.specs.Replay.{Play, play_after, text_from}
use Rattle.script.specs.Turns.{Buffers, Kept, Plays, SameLists, SessionReady, Turns, moved_to, play_of, turn_at}
use Rattle.script.proofs.ReplayLaws.{play_turn, script_holds, text_turn}

pub record Playing (input : List ℕ) (u : Buffers) (p : Session) (v : Buffers) (q : Session) : Type 0 where
  pub ready : SessionReady input v q
  pub text : text_from (play_of input u p) (drop p.at input) ≡ take q.end v.out ++ text_from (play_of input v q) (drop q.at input)
  pub last : play_after (play_of input u p) (drop p.at input) ≡ play_after (play_of input v q) (drop q.at input)
  pub onward : p.at ≤ q.at
  pub still : q.at ≤ p.at → q.end ≡ 0
  pub behind : drop q.end v.out ≡ drop q.end u.out

pub kept_same : {u : Buffers} → Kept u u
kept_same = record { slots = refl; scalars = refl; list = refl; directory = refl; cells = refl; marks = refl; order = refl; table = refl; roots = refl; words = refl; bytes = refl; places = refl; out = refl }

pub kept_on : {u v w : Buffers} → Kept u v → Kept v w → Kept u w
kept_on a b = record {
  slots = b.slots ∙ a.slots;
  scalars = b.scalars ∙ a.scalars;
  list = b.list ∙ a.list;
  directory = b.directory ∙ a.directory;
  cells = b.cells ∙ a.cells;
  marks = b.marks ∙ a.marks;
  order = b.order ∙ a.order;
  table = b.table ∙ a.table;
  roots = b.roots ∙ a.roots;
  words = b.words ∙ a.words;
  bytes = b.bytes ∙ a.bytes;
  places = b.places ∙ a.places;
  out = b.out ∙ a.out;
}

pub same_lists : {l : Lent} → SameLists l l
same_lists = record { slots = refl; scalars = refl; list = refl; directory = refl; cells = refl; marks = refl; order = refl; table = refl; roots = refl; words = refl; bytes = refl; places = refl; out = refl }

pub same_on : {l m n : Lent} → SameLists l m → SameLists m n → SameLists l n
same_on a b = record {
  slots = b.slots ∙ a.slots;
  scalars = b.scalars ∙ a.scalars;
  list = b.list ∙ a.list;
  directory = b.directory ∙ a.directory;
  cells = b.cells ∙ a.cells;
  marks = b.marks ∙ a.marks;
  order = b.order ∙ a.order;
  table = b.table ∙ a.table;
  roots = b.roots ∙ a.roots;
  words = b.words ∙ a.words;
  bytes = b.bytes ∙ a.bytes;
  places = b.places ∙ a.places;
  out = b.out ∙ a.out;
}

pub playing_start : {input : List ℕ} {u : Buffers} {p q : Session} → SessionReady input u p → q ≡ moved_to p p.count p.at 0 → Playing input u q u q
playing_start {input} {u} {p} g e = rw e record {
  ready = record { roomy = g.roomy; ready = g.ready; seated = g.seated; room = g.room; layout = g.layout; within = g.within; few = g.few; inside = g.inside; end = omega arith };
  text = refl;
  last = refl;
  onward = omega arith;
  still = λ h. refl;
  behind = refl;
}

module _ {input : List ℕ} {u v : Buffers} {p q : Session} (g : Playing input u p v q) where
  pub playing_step : {w : Buffers} {r : Session} → q.at < length input → Turns input v q w r → Playing input u p w r
  playing_step {w} {r} h t =
      let m = play_of input v q in
      let n = get_or input q.at 0 in
      let bs = drop (q.at + 1) input in
      let e : drop q.at input ≡ n ∷ bs = drop-cons input q.at 0 h ∙ ap (λ (i : ℕ). n ∷ drop i input) (sym (add-one q.at)) in
      let text : text_from m (drop q.at input) ≡ (turn_at input v q).text ++ text_from (play_of input w r) (drop r.at input) = ap (λ (l : List ℕ). text_from m l) e ∙ text_turn m n bs ∙ ap (λ (y : Play). (turn_at input v q).text ++ text_from y (turn_at input v q).rest) (sym t.next) ∙ ap (λ (l : List ℕ). (turn_at input v q).text ++ text_from (play_of input w r) l) (sym t.rest) in
      let last : play_after m (drop q.at input) ≡ play_after (play_of input w r) (drop r.at input) = ap (λ (l : List ℕ). play_after m l) e ∙ play_turn m n bs ∙ ap (λ (y : Play). play_after y (turn_at input v q).rest) (sym t.next) ∙ ap (λ (l : List ℕ). play_after (play_of input w r) l) (sym t.rest) in
      record {
        ready = t.ready;
        text = g.text ∙ ap (λ (l : List ℕ). take q.end v.out ++ l) text ∙ sym (append_assoc (take q.end v.out) (turn_at input v q).text (text_from (play_of input w r) (drop r.at input))) ∙ ap (λ (l : List ℕ). l ++ text_from (play_of input w r) (drop r.at input)) (sym t.text.text);
        last = g.last ∙ last;
        onward = omega (arith, g.onward, t.onward);
        still = λ z. absurd (omega (arith, g.onward, t.onward, z));
        behind = t.text.rest ∙ drop-later u.out v.out q.end r.end (omega (arith, t.text.ends)) g.behind;
      }

  plays : {s : Session} → p ≡ moved_to s s.count s.at 0 → (s.at < length input → s.at < q.at) → Plays input u s v q
  plays {s} e o = record {
    ready = g.ready;
    text = rw e at g.text;
    last = rw e at g.last;
    holds = script_holds (play_of input u s) (drop s.at input);
    onward = o;
    behind = g.behind;
  }

  pub plays_all : {s : Session} → p ≡ moved_to s s.count s.at 0 → length input ≤ q.at → Plays input u s v q
  plays_all e l = plays e (λ h. omega (arith, h, l))

  pub plays_full : {s : Session} → p ≡ moved_to s s.count s.at 0 → length v.out - q.end < 1114279 → Plays input u s v q
  plays_full {s} e l =
      let a : p.at ≡ s.at = ap (λ (y : Session). y.at) e in
      plays e (λ h. by_cases (lt_or_le s.at q.at) (λ z. z) (λ z. absurd (omega (arith, l, g.still (omega (arith, a, z)), g.ready.roomy.out))))
