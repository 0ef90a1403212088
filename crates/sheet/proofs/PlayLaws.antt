-- All commands, one after another: the text put so far, and that of the commands left, come to the whole. Assumes nothing.
use Prim.Native.Nat.{ℕ, ◌+◌, ◌-◌, ◌*◌, ◌≤◌, ◌<◌}
use mathlib.Core.Path.{◌≡◌, refl, sym, ap, ◌∙◌}
use mathlib.Core.List.{List, [], ◌++◌, append_assoc, append-nil}
use native.Mathlib.Omega.{arith}
use native.Mathlib.Numerals.{add-one}
use lib.ListN.{length, get_or, drop, drop_of_length-le}
use lib.Seq.{drop-cons, length-take-le}
use Rattle.model.specs.Callsheet.{Sheet}
use Rattle.sheet.specs.Turns.{text_from, turn_of}
use Rattle.sheet.specs.Promise.{Prints, Turns}
use Rattle.sheet.proofs.TurnLaws.{text-none, text_turn}
use Rattle.text.specs.Puts.{Puts}
use Rattle.text.specs.Writes.{Writes}
use Rattle.text.specs.declared.Writer.{Writer}
use Rattle.text.proofs.PutsLaws.{puts-within}
use Rattle.text.proofs.WritesLaws.{writes-append, writes-none, writes-same}
use Rattle.sheet.proofs.CommandLaws.{turn_short}

-- of the whole, which the writer b was to write, w has written what is done, and the sheet s has the commands from at on before it
pub record Playing (whole input : List ℕ) (b : Writer) (s : Sheet) (at : ℕ) (w : Writer) : Type 0 where
  pub done : List ℕ
  pub text : done ++ text_from s (drop at input) ≡ whole
  pub writes : Writes done b w
  pub room : w.end + (length input - at) * 62 ≤ length w.out.now
  pub inside : at ≤ length input

pub playing_start : (s : Sheet) (input : List ℕ) (b : Writer) → b.end + length input * 62 ≤ length b.out.now → Playing (text_from s input) input b s 0 b
playing_start s input b h = record { done = []; text = refl; writes = writes-none; room = omega arith; inside = omega arith }

module _ {whole input : List ℕ} {b : Writer} {s : Sheet} {at : ℕ} {w : Writer} (g : Playing whole input b s at w) where
  -- a turn has its room
  pub playing_room : at < length input → w.end + 62 ≤ length w.out.now
  playing_room h = omega (arith, g.room)

  pub playing_step : {a : Sheet} {at' : ℕ} {w' : Writer} → at < length input → Turns s input at w a at' w' → Playing whole input b a at' w'
  playing_step {a} {at'} {w'} h t =
      let c = get_or input at 0 in
      let bs = drop (at + 1) input in
      let o = turn_of s c bs in
      let e : text_from s (drop at input) ≡ o.text ++ text_from o.next o.rest =
      ap (λ (l : List ℕ). text_from s l) (drop-cons input at 0 h ∙ rw (← add-one at)) ∙ text_turn s c bs in
      let n : text_from o.next o.rest ≡ text_from a (drop at' input) = rw (t.next, t.rest) in
      record {
        done = g.done ++ o.text;
        text = append_assoc g.done o.text (text_from a (drop at' input)) ∙ rw (← n, ← e) g.text;
        writes = writes-append g.writes t.text;
        room = omega (arith, g.room, t.text.puts.ends, t.text.puts.size, turn_short s c bs, t.onward, t.within);
        inside = t.within;
      }

  pub playing_end : length input ≤ at → Writes whole b w
  playing_end h =
      let d : drop at input ≡ [] = drop_of_length-le input h in
      writes-same (sym (append-nil g.done) ∙ rw (← text-none s, ← d) g.text) g.writes

-- what is put from the buffer's first place on is printed
pub puts_prints : {t out out' : List ℕ} {end : ℕ} → Puts t out 0 out' end → Prints t out out' end
puts_prints {t} {out} {out'} {end} p =
    let w : end ≤ length out' = puts-within (omega arith) p in
    record { text = p.text; ends = sym (length-take-le end out' w); within = w; rest = p.rest }
