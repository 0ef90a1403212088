-- The command at a place: read, lent its memory, performed. Assumes nothing.
use Prim.Native.Nat.{ℕ, ◌+◌, ◌-◌, ◌≤◌, ◌<◌}
use mathlib.Core.Path.{◌≡◌, refl, sym, ap, ◌∙◌}
use mathlib.Core.Bool.{Bool, true, false}
use mathlib.Core.List.{List}
use mathlib.Core.Option.{none, some}
use native.Mathlib.Omega.{arith}
use borrow.Author.Tests.{leb-true}
use lib.ListN.{length, get_or, take, drop, length-drop, length-replicate, length-take, replicate}
use lib.Seq.{length-take-le}
use Rattle.model.specs.Opening.{open_heap}
use Rattle.heap.specs.State.{model_of}
use Rattle.commands.specs.declared.Operands.{Operands}
use Rattle.commands.specs.declared.Memory.{Memory}
use Rattle.commands.specs.declared.Memory.TheVariants.{Buffer, Places}
use Rattle.commands.specs.declared.Shape.{Shape}
use Rattle.commands.specs.Rows.{choose, joined}
use Rattle.commands.specs.Table.{act_in, act_of, groups, memory_of, opening_in, session_rows, shape_of, table}
use Rattle.commands.specs.Promise.{lists}
use Rattle.script.specs.declared.Command.{Command}
use Rattle.script.specs.declared.Session.{Session}
use Rattle.std.proofs.Common.{Option, None, Some}
use Rattle.script.specs.Parse.{Called, called_by}
use Rattle.script.specs.Reads.{Reads, called_as, called_is}
use Rattle.script.specs.Replay.{Play, Turned, acted, bytes_for, ended, frames_for, lendable, lists_for, numbered, opened_by, places_for, rooted, turn_by, turn_of, words_for}
use Rattle.script.specs.Turns.{Buffers, EndLine, Fronts, Goes, LendsWords, SessionReady, Turns, own_bytes, play_of, turn_at}
use Rattle.script.proofs.SessionLaws.{ended_goes, ready_with, with}

pub part-short : (n k : ℕ) (l : List ℕ) → length (take n (drop k l)) ≤ length l
part-short n k l = omega (arith, length-take n (drop k l), length-drop k l)

-- the text is put behind that of another start
pub goes_from : {input : List ℕ} {t : Turned} {u w v : Buffers} {p r : Session} → w.out ≡ u.out → Goes input t w p v r → Goes input t u p v r
goes_from e x = record { ready = x.ready; text = rw (← e) x.text; next = x.next; rest = x.rest; onward = x.onward }

-- ---- memory lent to a call

pub lendable-bytes : (m : Memory) (o : Operands) {b : Bool} → b ≡ lendable m o → b ≡ true → m ≡ Buffer → o.b ≤ 524288
unfolding lendable
lendable-bytes m o e t z = leb-true o.b 524288 (rw z at (sym e ∙ t))

pub lendable-places : (m : Memory) (o : Operands) {b : Bool} → b ≡ lendable m o → b ≡ true → m ≡ Places → o.a ≤ 65536
unfolding lendable
lendable-places m o e t z = leb-true o.a 65536 (rw z at (sym e ∙ t))

-- a lent buffer has so many bytes as the command says
pub buffer-few : (m : Memory) (c : Called) {old new : List ℕ} {n : ℕ} → c.operands.b ≤ 524288 → m ≡ Buffer → Fronts (bytes_for m c) old n new → n ≤ 524288
unfolding bytes_for
buffer-few m c {old} {new} {n} l z f =
    let e : take n new ≡ replicate c.operands.b 0xEE = rw z at f.front in
    omega (arith, l, ap length e, length-take-le n new f.inside, length-replicate {A = ℕ} c.operands.b 0xEE)

-- the session with other words, bytes and places
pub ready-lent : {input : List ℕ} {u : Buffers} {p : Session} {words bytes places : List ℕ} → SessionReady input u p → length words ≡ length u.words → length bytes ≡ length u.bytes → length places ≡ length u.places → SessionReady input (with u u.roots words bytes places u.out) p
ready-lent {u = u} {p = p} g a b c = ready_with record { rooted = refl; worded = a; sized = b; placed = c; printed = refl } p.count p.at p.end g g.few g.inside g.end

memory-is : (code : ℕ) (t : Shape) → t ≡ shape_of code → t.memory ≡ memory_of code
unfolding shape_of
memory-is code t es = ap (λ (y : Shape). y.memory) es

module _ (code : ℕ) (t : Shape) (es : t ≡ shape_of code) (input : List ℕ) (p : Play) (ws : List ℕ) (k : Command) {b : Bool} (eb : b ≡ lendable t.memory k.operands) where
  pub lent-ends : b ≡ false → turn_by p code (some (called_as input ws k)) ≡ ended p
  unfolding turn_by
  lent-ends f =
      let l : lendable (memory_of code) k.operands ≡ false = rw (memory-is code t es) at (sym eb ∙ f) in
      rw l

  pub lent_acts : {words bytes places old older oldest : List ℕ} (w e m n : ℕ) → b ≡ true → LendsWords (words_for t.memory p (called_as input ws k)) (frames_for t.memory (called_as input ws k)) old w e words →
      Fronts (bytes_for t.memory (called_as input ws k)) older m bytes → Fronts (numbered (places_for t.memory p k.operands)) oldest n places →
      turn_by p code (some (called_as input ws k)) ≡ acted p code k.operands (lists (take w words) (take (e - w) (drop w words)) (take m bytes) (take n places)) (drop k.next input) (act_of code k.operands (lists (take w words) (take (e - w) (drop w words)) (take m bytes) (take n places)))
  unfolding turn_by lists_for
  lent_acts w e m n f x y z =
      let l : lendable (memory_of code) k.operands ≡ true = rw (memory-is code t es) at (sym eb ∙ f) in
      rw (l, x.words, x.frames, y.front, z.front, memory-is code t es)

module _ (code : ℕ) (t : Shape) (es : t ≡ shape_of code) {input : List ℕ} {u : Buffers} {p : Session} (k : Command) {b : Bool} (eb : b ≡ lendable t.memory k.operands) (g : SessionReady input u p) where
  pub lent-ended : {out : List ℕ} {r : Session} → b ≡ false → p.at < length input → EndLine p (length input) u.out out r → Goes input (turn_by (play_of input u p) code (some (called_as input u.words k))) u p (with u u.roots u.words u.bytes u.places out) r
  lent-ended f l e = rw (lent-ends code t es input (play_of input u p) u.words k eb f) (ended_goes g l refl refl refl e)

  module _ {words bytes : List ℕ} (w e m n : ℕ)
      (fw : (q : Play) (i : List ℕ) → q.roots ≡ take p.count u.roots → LendsWords (words_for t.memory q (called_as i u.words k)) (frames_for t.memory (called_as i u.words k)) u.words w e words)
      (fb : (c : Called) → c.operands ≡ k.operands → c.bytes ≡ own_bytes input k → Fronts (bytes_for t.memory c) u.bytes m bytes) where
    words-lent : LendsWords (words_for t.memory (play_of input u p) (called_as input u.words k)) (frames_for t.memory (called_as input u.words k)) u.words w e words
    words-lent = fw (play_of input u p) input refl

    bytes-lent : Fronts (bytes_for t.memory (called_as input u.words k)) u.bytes m bytes
    bytes-lent = fb (called_as input u.words k) refl refl

    pub lent-few : b ≡ true → n ≤ 65536 → (w ≤ e) × (e ≤ length words) × (m ≤ length bytes) × (n ≤ 65536) × (t.memory ≡ Buffer → m ≤ 524288)
    lent-few f l = (words-lent.order, words-lent.inside, bytes-lent.inside, l, λ z. buffer-few t.memory (called_as input u.words k) (lendable-bytes t.memory k.operands eb f z) z bytes-lent)

    pub lent_goes : {places : List ℕ} {x v : Buffers} {r : Session} → b ≡ true → ((q : Play) → q.heap.table.size ≡ p.heap.size → Fronts (numbered (places_for t.memory q k.operands)) u.places n places) → x.out ≡ u.out →
        Goes input (acted (play_of input u p) code k.operands (lists (take w words) (take (e - w) (drop w words)) (take m bytes) (take n places)) (drop k.next input) (act_of code k.operands (lists (take w words) (take (e - w) (drop w words)) (take m bytes) (take n places)))) x p v r →
        Goes input (turn_by (play_of input u p) code (some (called_as input u.words k))) u p v r
    unfolding model_of
    lent_goes f fp eo q = rw (lent_acts code t es input (play_of input u p) u.words k eb w e m n f words-lent bytes-lent (fp (play_of input u p) refl)) (goes_from eo q)

-- ---- the command at a place

module _ {input : List ℕ} (u : Buffers) (p : Session) (ws : List ℕ) {o : Option Command} (d : Reads input p.at ws o) where
  turn_missing : o ≡ None → turn_at input u p ≡ ended (play_of input u p)
  unfolding turn_of turn_by called_is
  turn_missing e = let z : none ≡ called_by (get_or input p.at 0) (drop (p.at + 1) input) = rw e at d.is in rw (← z)

  module _ (k : Command) (e : o ≡ Some k) where
    turn_called : turn_at input u p ≡ turn_by (play_of input u p) (get_or input p.at 0) (some (called_as input ws k))
    unfolding turn_of called_is
    turn_called = let z : some (called_as input ws k) ≡ called_by (get_or input p.at 0) (drop (p.at + 1) input) = rw e at d.is in rw (← z)

    turn_opens : get_or input p.at 0 ≡ 0 → turn_at input u p ≡ opened_by (play_of input u p) (opening_in k.operands (own_bytes input k)) (drop k.next input) (open_heap (opening_in k.operands (own_bytes input k)))
    unfolding turn_by lists_for bytes_for lendable acted memory_of act_of act_in choose table joined groups session_rows
    turn_opens z = turn_called ∙ rw z

    turn_roots : get_or input p.at 0 ≡ 0x0B → turn_at input u p ≡ rooted (play_of input u p) k.operands.a (drop k.next input)
    unfolding turn_by lists_for lendable acted memory_of act_of act_in choose table joined groups session_rows
    turn_roots z = turn_called ∙ rw z

module _ {input : List ℕ} {u : Buffers} {p : Session} {ws : List ℕ} {o : Option Command} (d : Reads input p.at ws o) where
  pub turns_missing : {v : Buffers} {r : Session} → o ≡ None → Goes input (ended (play_of input u p)) u p v r → Turns input u p v r
  turns_missing e x = rw (turn_missing u p ws d e) x

  module _ {k : Command} (e : o ≡ Some k) where
    pub turns_opens : {w v : Buffers} {r : Session} → get_or input p.at 0 ≡ 0 → w.out ≡ u.out → Goes input (opened_by (play_of input u p) (opening_in k.operands (own_bytes input k)) (drop k.next input) (open_heap (opening_in k.operands (own_bytes input k)))) w p v r → Turns input u p v r
    turns_opens z y x = rw (turn_opens u p ws d k e z) (goes_from y x)

    pub turns_roots : {v : Buffers} {r : Session} → get_or input p.at 0 ≡ 0x0B → Goes input (rooted (play_of input u p) k.operands.a (drop k.next input)) u p v r → Turns input u p v r
    turns_roots z x = rw (turn_roots u p ws d k e z) x

    pub turns_lent : {w v : Buffers} {r : Session} → w.out ≡ u.out → Goes input (turn_by (play_of input u p) (get_or input p.at 0) (some (called_as input ws k))) w p v r → Turns input u p v r
    turns_lent y x = rw (turn_called u p ws d k e) (goes_from y x)
