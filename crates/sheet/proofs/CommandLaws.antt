-- The line and the sheet after a command. Assumes nothing.
use Prim.Native.Nat.{ℕ, ◌+◌, ◌-◌, ◌≤◌, ◌<◌}
use mathlib.Core.Path.{◌≡◌, refl, sym, ap, ◌∙◌}
use mathlib.Core.Bool.{Bool, true, false, cond}
use mathlib.Core.List.{List, [], ◌∷◌}
use mathlib.Core.Logic.{◌⊎◌, inl, inr}
use mathlib.Core.Option.{Option, none, some}
use native.Mathlib.Omega.{arith}
use lib.Dec.{eqb, leb}
use lib.ListN.{length, get_or, take, drop, length-drop}
use lib.Seq.{drop-drop, drop-length, length-take-le, take_all}
use Rattle.std.proofs.Common as Std
use Rattle.std.proofs.Common.{Result, Some, None}
use Rattle.history.proofs.Facts.{eqb_no}
use Rattle.history.proofs.Lift.{seen}
use Rattle.layout.specs.Layout.{Layout}
use Rattle.map_store.specs.Store.{signed64}
use Rattle.text.specs.Writes.{Writes}
use Rattle.text.specs.declared.Writer.{Writer}
use Rattle.text.proofs.DigitsLaws.{length_digits}
use Rattle.text.proofs.PutsLaws.{length-printed}
use Rattle.model.specs.Calls.{collect, new_array, new_box, read_box}
use Rattle.model.specs.Model.{Model}
use Rattle.model.specs.Step.{step}
use Rattle.model.specs.Callsheet.{Sheet, answer_word, call_of, called, commanded, digits, little_endian, operand_bytes, present_operands, printed, rooted, unknown}
use Rattle.heap.specs.Answers.{reading_is}
use Rattle.heap.specs.State.{State, model_of}
use Rattle.heap.specs.declared.Refusal.{Refusal}
use Rattle.sheet.specs.declared.state.Sheet as Declared
use Rattle.sheet.specs.declared.SheetLine.{SheetLine}
use Rattle.sheet.specs.declared.Command.{Command}
use Rattle.sheet.specs.declared.Command.TheVariants as Commanded
use Rattle.sheet.specs.Turns.{code_of, operands_is, turn_by, turn_of}
use Rattle.sheet.specs.Promise.{Commands, Roots, Shows, Turns, model_in, roots_in, sheet_of, shown_of}
use Rattle.sheet.proofs.OperandLaws.{present_some, supplied_size}

-- ---- the call by the command

module _ (k : Command) (bs roots : List ℕ) where
  pub call-box : k ≡ Commanded.NewBox → new_box (little_endian (take 8 bs)) ≡ call_of (code_of k) bs roots
  unfolding code_of call_of
  call-box e = rw e

  pub call-array : k ≡ Commanded.NewArray → new_array (get_or bs 0 0) (signed64 (little_endian (take 8 (drop 1 bs)))) ≡ call_of (code_of k) bs roots
  unfolding code_of call_of
  call-array e = rw e

  pub call_read : k ≡ Commanded.ReadBox → read_box (little_endian (take 8 bs)) ≡ call_of (code_of k) bs roots
  unfolding code_of call_of
  call_read e = rw e

  pub call-collect : (k ≡ Commanded.Root) ⊎ (k ≡ Commanded.Collect) → collect roots [] ≡ call_of (code_of k) bs roots
  unfolding code_of call_of
  call-collect (inl e) = rw e
  call-collect (inr e) = rw e

-- ---- lengths

line_short : (c refusal word used : ℕ) → length (printed (digits 16 2 c) refusal word used) ≤ 62
line_short c refusal word used = omega (arith, length-printed (digits 16 2 c) refusal word used, length_digits 16 2 c)

commanded-short : (s : Sheet) (c : ℕ) (bs : List ℕ) → length (commanded s c bs).text ≤ 62
unfolding commanded rooted called
commanded-short s c bs = go (eqb c 0x0B)
  where
    go : (t : Bool) → length (cond t (rooted s (little_endian (take 8 bs))) (called s c (step s.heap (call_of c bs s.roots)))).text ≤ 62
    go true = line_short 0x0B (cond (leb 64 (length s.roots)) 4 0) 0 s.heap.account.used
    go false = let o = step s.heap (call_of c bs s.roots) in line_short c o.refusal (answer_word o.answer) o.next.account.used

-- a line takes at most 62 bytes
pub turn_short : (s : Sheet) (c : ℕ) (bs : List ℕ) → length (turn_of s c bs).text ≤ 62
unfolding turn_of turn_by unknown
turn_short s c bs = go (present_operands (length bs) (operand_bytes c))
  where
    go : (o : Option ℕ) → length (turn_by s c bs o).text ≤ 62
    go none = length-printed (63 ∷ 63 ∷ []) 4 0 s.heap.account.used
    go (some n) = commanded-short s c bs

-- ---- a call and its line

pub commands_call : (c : ℕ) {bs : List ℕ} {b a : Declared.Sheet} {r : Result ℕ Refusal} {y : SheetLine} {w w' : Writer} → (c ≡ 0x0B → ⊥) → Shows (call_of c bs (roots_in b)) b r a → y ≡ shown_of (reading_is r) →
    Writes (printed (digits 16 2 c) y.refusal y.word a.heap.account.used) w w' → Commands (sheet_of b) c bs w (sheet_of a) w'
unfolding commanded called seen model_of
commands_call c {bs} {b} {a} {r} {y} h s e p =
    let o = step (model_in b) (call_of c bs (roots_in b)) in
    let n = eqb_no c 0x0B h in
    let er : y.refusal ≡ o.refusal = ap (λ (x : SheetLine). x.refusal) (e ∙ s.shown) in
    let ew : y.word ≡ answer_word o.answer = ap (λ (x : SheetLine). x.word) (e ∙ s.shown) in
    let eu : a.heap.account.used ≡ o.next.account.used = ap (λ (m : Sheet). m.heap.account.used) s.next in
    record { text = rw n (rw (er, ew, eu) at p); next = rw n (sym s.next) }

-- ---- a root and its line

pub commands_root : {b a : Declared.Sheet} {root r : ℕ} {bs : List ℕ} {w w' : Writer} → b.count ≤ length b.roots → root ≡ little_endian (take 8 bs) → Roots b root r a →
    Writes (printed (digits 16 2 (code_of Commanded.Root)) r 0 a.heap.account.used) w w' → Commands (sheet_of b) (code_of Commanded.Root) bs w (sheet_of a) w'
unfolding code_of commanded rooted model_of
commands_root {b} {a} fits ew g p =
    let e : length (roots_in b) ≡ b.count = length-take-le b.count b.roots fits in
    let eu : a.heap.account.used ≡ b.heap.account.used = ap (λ (m : Model). m.account.used) g.same in
    record { text = rw (e, ← g.refusal, ← eu) p; next = rw (e, ← ew) (λ j. record { heap = sym g.same j; roots = sym g.roots j }) }

-- ---- turns

pub used_of : (l : Layout) (t : State) → (model_of l t).account.used ≡ t.heap.account.used
unfolding model_of
used_of l t = refl

-- what is left of the input behind a place
pub tail_whole : (input : List ℕ) (at : ℕ) → take (length input - at) (drop at input) ≡ drop at input
tail_whole input at = take_all (length input - at) (drop at input) (omega (arith, length-drop at input))

pub commands_same : {s : Sheet} {c c' : ℕ} {bs bs' : List ℕ} {w : Writer} {a : Sheet} {w' : Writer} → c ≡ c' → bs ≡ bs' → Commands s c bs w a w' → Commands s c' bs' w a w'
commands_same e f p = rw (e, f) at p

module _ {s : Sheet} {input : List ℕ} (at : ℕ) {w w' : Writer} {r : Std.Option Command}
    (inside : at < length input)
    (p : operands_is r ≡ present_operands (length (drop (at + 1) input)) (operand_bytes (get_or input at 0))) where
  pub turns_missing : {used : ℕ} → r ≡ None → s.heap.account.used ≡ used → Writes (printed (63 ∷ 63 ∷ []) 4 0 used) w w' → Turns s input at w s (length input) w'
  unfolding turn_of turn_by operands_is unknown
  turns_missing e u q =
      let t : present_operands (length (drop (at + 1) input)) (operand_bytes (get_or input at 0)) ≡ none = sym p ∙ rw e in
      record { text = rw (t, u) q; next = rw t; rest = rw t (sym (drop-length input)); onward = inside; within = omega arith }

  pub turns_command : {k : Command} {c : ℕ} {bs : List ℕ} {a : Sheet} (n : ℕ) → r ≡ Some k → some n ≡ operand_bytes (code_of k) → c ≡ get_or input at 0 → bs ≡ drop (at + 1) input → Commands s c bs w a w' → Turns s input at w a (at + 1 + n) w'
  unfolding turn_of turn_by operands_is
  turns_command n e k x y d =
      let t : present_operands (length (drop (at + 1) input)) (operand_bytes (get_or input at 0)) ≡ some n = sym (present_some (get_or input at 0) n (drop (at + 1) input) p e k) in
      let q = commands_same x y d in
      record {
        text = rw t q.text;
        next = rw t q.next;
        rest = rw t (drop-drop n (at + 1) input);
        onward = omega arith;
        within = omega (arith, supplied_size (get_or input at 0) n (drop (at + 1) input) p e k, length-drop (at + 1) input);
      }
