-- All operands of a command, one after the other: what is read and what is left come to the whole. Assumes nothing.
use Prim.Native.Nat.{ℕ, zero, suc, ◌+◌, ◌-◌, ◌*◌, ◌/◌, ◌%◌, ◌≤◌, ◌<◌}
use mathlib.Core.Path.{◌≡◌, refl, sym, ap, ◌∙◌}
use mathlib.Core.List.{List, [], ◌∷◌, ◌++◌}
use mathlib.Core.Option as maybe
use mathlib.Core.Option.{none, some}
use native.Mathlib.Omega.{arith}
use lib.ListN.{length, get_or, replicate, take, drop}
use lib.Seq.{drop_at, length-take-le, take-add, take-take}
use Rattle.std.proofs.Common.{Option, None, Some}
use Rattle.commands.specs.declared.Operands.{Operands}
use Rattle.script.specs.declared.Command.{Command}
use Rattle.script.specs.declared.Reader.{Reader}
use Rattle.commands.specs.Rows.{Field, coded, field_at}
use Rattle.commands.specs.Table.{fields_code, fields_of, shape_of}
use Rattle.script.specs.Parse.{Parsed, and_then, as_called, called_by, called_of, operands_of, parse, parse_by, parse_call, parse_field, unread}
use Rattle.script.specs.Reads.{Holds, Parses, Reads, Room, Steps, Takes, called_as, called_is}
use Rattle.script.proofs.FieldLaws.{coded-field, coded_none, coded-rest, fields-few, shape_none}

pub record Parsing (command : ℕ) (input : List ℕ) (at : ℕ) (ns ws : List ℕ) (t : Reader) (rest : ℕ) : Type 0 where
  pub left : List Field
  pub parsed : Parsed
  pub code : coded left ≡ rest
  pub whole : parse_call command (drop at input) ≡ parse left parsed
  pub holds : Holds input ns ws t parsed
  pub room : Room input ws t
  pub few : t.count + length left ≤ 9
  pub onward : at ≤ t.at

pub zeros_at : (n i : ℕ) → ◌≡◌ {A = ℕ} (get_or (replicate n 0) i 0) 0
zeros_at zero i = refl
zeros_at (suc n) zero = refl
zeros_at (suc n) (suc i) = zeros_at n i

abbrev pub begun : ℕ → Reader
begun at = record { at = at; count = 0; words = 0; framed = 0; from = 0; to = 0 }

module _ (command : ℕ) (input : List ℕ) (at : ℕ) (ns ws : List ℕ) (inside : at ≤ length input) (enough : length input ≤ 8 * length ws) (zeros : (i : ℕ) → get_or ns i 0 ≡ 0) where
  begun_room : Room input ws (begun at)
  begun_room = record { inside = inside; room = omega arith; framed = omega arith; bytes = omega arith; within = omega arith }

  pub parsing_start : (rest : ℕ) → rest ≡ (shape_of command).fields → (rest ≡ 15 → ⊥) → Parsing command input at ns ws (begun at) rest
  unfolding shape_of fields_code parse_call parse_by unread
  parsing_start rest e n = go (fields_of command) refl
    where
      go : (o : maybe.Option (List Field)) → fields_of command ≡ o → Parsing command input at ns ws (begun at) rest
      go none z = absurd (n (e ∙ rw z))
      go (some fs) z = record {
        left = fs;
        parsed = unread (drop at input);
        code = sym (e ∙ rw z);
        whole = rw z;
        holds = record { numbers = zeros; count = refl; words = refl; framed = refl; bytes = refl; rest = refl };
        room = begun_room;
        few = omega (arith, fields-few command fs z);
        onward = omega arith;
      }

  pub parsing_unknown : (rest : ℕ) → rest ≡ (shape_of command).fields → rest ≡ 15 → Parses input ns ws None (parse_call command (drop at input))
  unfolding shape_of parse_call parse_by
  parsing_unknown rest e z =
      let f : fields_of command ≡ none = shape_none (fields_of command) (sym e ∙ z) in
      rw f

module _ {command : ℕ} {input : List ℕ} {at : ℕ} {ns ws : List ℕ} {t : Reader} {rest : ℕ} (g : Parsing command input at ns ws t rest) where
  pub parsing_few : 0 < rest → t.count < 9
  unfolding coded
  parsing_few h = go g.left g.code g.few
    where
      go : (fs : List Field) → coded fs ≡ rest → t.count + length fs ≤ 9 → t.count < 9
      go [] e l = absurd (omega arith)
      go (f ∷ fs) e l = omega arith

  module _ {ns' ws' : List ℕ} {o : Option Reader} (h : 0 < rest) (k : Takes (parse_field (field_at (rest % 16))) input ns ws t ns' ws' o) where
    pub parsing_step : (r : Reader) → o ≡ Some r → Parsing command input at ns' ws' r (rest / 16)
    unfolding coded parse and_then
    parsing_step r y = go g.left g.code g.few g.whole
      where
        step : Steps input ws t ws' r
        step = rw y at k.steps

        go : (fs : List Field) → coded fs ≡ rest → t.count + length fs ≤ 9 → parse_call command (drop at input) ≡ parse fs g.parsed → Parsing command input at ns' ws' r (rest / 16)
        go [] e l w = absurd (omega arith)
        go (f ∷ fs) e l w = by (parse_field f g.parsed) refl (rw (← e, coded-field f fs) at (k.parses g.parsed g.holds))
          where
            by : (q : maybe.Option Parsed) → parse_field f g.parsed ≡ q → Parses input ns' ws' o q → Parsing command input at ns' ws' r (rest / 16)
            by none z q = let n : Some r ≡ None = sym y ∙ q in let z : ◌≡◌ {A = ℕ} 0 1 = cc in absurd (omega arith)
            by (some p) z (s, q, held) =
                let n : Some s ≡ Some r = sym q ∙ y in
                let same : s ≡ r = cc in
                record {
                  left = fs;
                  parsed = p;
                  code = rw (← e) (sym (coded-rest f fs));
                  whole = w ∙ rw z;
                  holds = rw same at held;
                  room = step.room g.room;
                  few = omega (arith, step.few);
                  onward = omega (arith, step.onward, g.onward);
                }

    pub parsing_missing : o ≡ None → Parses input ns' ws' None (parse_call command (drop at input))
    unfolding coded parse and_then
    parsing_missing y = go g.left g.code g.whole
      where
        go : (fs : List Field) → coded fs ≡ rest → parse_call command (drop at input) ≡ parse fs g.parsed → Parses input ns' ws' None (parse_call command (drop at input))
        go [] e w = absurd (omega arith)
        go (f ∷ fs) e w = by (parse_field f g.parsed) refl (rw (← e, coded-field f fs) at (k.parses g.parsed g.holds))
          where
            by : (q : maybe.Option Parsed) → parse_field f g.parsed ≡ q → Parses input ns' ws' o q → Parses input ns' ws' None (parse_call command (drop at input))
            by none z q = rw (w, z)
            by (some p) z (s, q, held) = let n : Some s ≡ None = sym q ∙ y in let z : ◌≡◌ {A = ℕ} 0 1 = cc in absurd (omega arith)

  pub parsing_end : rest ≡ 0 → Parses input ns ws (Some t) (parse_call command (drop at input))
  unfolding parse
  parsing_end z =
      let e : g.left ≡ [] = coded_none g.left (g.code ∙ z) in
      let w : parse_call command (drop at input) ≡ some g.parsed = g.whole ∙ rw e in
      rw w (t, refl, g.holds)

-- the operand of a kind
pub takes_as : {input ns ws : List ℕ} {t : Reader} {ns' ws' : List ℕ} {r : Option Reader} {f : Parsed → maybe.Option Parsed} (kind : ℕ) → ((p : Parsed) → parse_field (field_at kind) p ≡ f p) → Takes f input ns ws t ns' ws' r → Takes (parse_field (field_at kind)) input ns ws t ns' ws' r
takes_as kind e k = record { steps = k.steps; parses = λ p g. rw (e p) (k.parses p g) }

-- ---- the call

module _ {input : List ℕ} (ns : List ℕ) {ws : List ℕ} {t : Reader} (at : ℕ) (m : Room input ws t) (on : at + 1 ≤ t.at) {o : Operands} (eo : o ≡ operands_of ns) where
  abbrev call_of : Command
  call_of = record { operands = o; words = t.words - t.framed; frames = t.framed; from = t.from; to = t.to; next = t.at }

  held : (p : Parsed) → Holds input ns ws t p → called_as input ws call_of ≡ called_of p
  unfolding called_of operands_of
  held p g =
      let few : t.words ≤ length ws = omega (arith, m.room) in
      let n : ℕ = t.words - t.framed in
      let l : length p.words ≡ t.words = ap length (sym g.words) ∙ length-take-le t.words ws few in
      let d : length p.words - p.framed ≡ n = rw (l, ← g.framed) in
      let s : n + t.framed ≡ t.words = omega (arith, m.framed) in
      let a : p.words ≡ take n ws ++ take t.framed (drop n ws) = sym g.words ∙ ap (λ (x : ℕ). take x ws) (sym s) ∙ take-add n t.framed ws in
      let w : take n ws ≡ take n p.words = sym (take-take n t.words ws (omega arith)) ∙ rw g.words in
      let v : take t.framed (drop n ws) ≡ drop n p.words = sym (drop_at (take n ws) (take t.framed (drop n ws)) n (length-take-le n ws (omega arith))) ∙ rw (← a) in
      rw (eo, d, w, v, g.bytes, g.rest, g.numbers 0, g.numbers 1, g.numbers 2, g.numbers 3, g.numbers 4, g.numbers 5, g.numbers 6, g.numbers 7)

  pub reads_call : Parses input ns ws (Some t) (parse_call (get_or input at 0) (drop (at + 1) input)) → Reads input at ws (Some call_of)
  unfolding called_by as_called called_is
  reads_call q = record {
    is = go (parse_call (get_or input at 0) (drop (at + 1) input)) q;
    placed = record { onward = omega arith; within = m.inside; words = omega (arith, m.framed, m.room); bytes = m.bytes; inside = m.within };
  }
    where
      go : (u : maybe.Option Parsed) → Parses input ns ws (Some t) u → called_is input ws (Some call_of) ≡ as_called u
      go none k = let n : Some t ≡ None = k in let z : ◌≡◌ {A = ℕ} 0 1 = cc in absurd (omega arith)
      go (some p) (s, k, h) = let n : Some t ≡ Some s = k in let e : s ≡ t = cc in ap some (held p (rw e at h))

pub reads_none : {input : List ℕ} (ns : List ℕ) {ws : List ℕ} (at : ℕ) → Parses input ns ws None (parse_call (get_or input at 0) (drop (at + 1) input)) → Reads input at ws None
unfolding called_by as_called called_is
reads_none {input} ns {ws} at q = record { is = go (parse_call (get_or input at 0) (drop (at + 1) input)) q; placed = tt }
  where
    go : (u : maybe.Option Parsed) → Parses input ns ws None u → called_is input ws None ≡ as_called u
    go none k = refl
    go (some p) (s, k, h) = let n : None ≡ Some s = k in let z : ◌≡◌ {A = ℕ} 0 1 = cc in absurd (omega arith)
