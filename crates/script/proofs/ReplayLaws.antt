-- A script's text, play and runs, command by command; demand 3 of every run. Assumes nothing.
use Prim.Native.Nat.{ℕ, zero, suc, ◌*◌, ◌≤◌}
use mathlib.Core.Path.{◌≡◌, refl, sym, ap, ◌∙◌}
use mathlib.Core.Bool.{Bool, true, false, cond}
use mathlib.Core.List.{List, [], ◌∷◌, ◌++◌}
use mathlib.Core.Option.{Option, none, some, some-injective}
use native.Mathlib.Omega.{arith}
use lib.Dec.{leb}
use lib.ListN.{length, take, drop}
use Rattle.history.proofs.Lift.{Chain, call, code_demand_3, code_shut_out, start}
use Rattle.layout.specs.Layout as Layout-
use Rattle.model.specs.Calls.{Call}
use Rattle.model.specs.Model.{Model}
use Rattle.model.specs.Step.{step}
use Rattle.model.specs.Opening.{Opening, open_heap, open_with, sizes_fit}
use Rattle.model.specs.Callsheet.{little_endian, sheet_heap, sheet_opening}
use Rattle.model.specs.Demand3.{Seen, run, seen, seen_all}
use Rattle.commands.specs.declared.Operands.{Operands}
use Rattle.commands.specs.Rows as Rows
use Rattle.commands.specs.Rows.{Act, Field, Lists, add_root, make, make_both, no_act, opens_with}
use Rattle.commands.specs.Table.{act_of, fields_of, memory_of}
use Rattle.commands.specs.Promise.{calls_in}
use Rattle.script.specs.Parse.{Called, Parsed, and_then, as_called, called_by, called_of, parse, parse_by, parse_call, parse_field, take_list, take_number, unread, with_bytes, with_frames, with_number, with_words}
use Rattle.script.specs.Replay.{AllHold, Play, Run, RunHolds, ScriptHolds, Since, SinceBy, SinceFrom, Turned, acted, called, ended, ended_run, first_play, first_run, lendable, lists_for, next_run, opened_by, play_after, play_by, rooted, runs_by, runs_from, seatable, text_by, text_from, turn_by, turn_of}

-- ---- a command leaves no more bytes than there were

drop_less : (n : ℕ) (bs : List ℕ) → length (drop n bs) ≤ length bs
drop_less zero bs = omega arith
drop_less (suc n) [] = omega arith
drop_less (suc n) (b ∷ bs) = let i = drop_less n bs in omega (arith, i)

-- what is read leaves no more
data Less (n : ℕ) : Option Parsed → Type 0 where
  missing : Less n none
  within : (p : Parsed) → length p.rest ≤ n → Less n (some p)

either : (t : Bool) (n : ℕ) (x y : Option Parsed) → Less n x → Less n y → Less n (cond t x y)
either true n x y a b = a
either false n x y a b = b

number_less : (size most : ℕ) (p : Parsed) → Less (length p.rest) (take_number size most p)
unfolding take_number with_number
number_less size most p = either (leb size (length p.rest)) _ _ _ (either (leb (little_endian (take size p.rest)) most) _ _ _ (within _ (drop_less size p.rest)) missing) missing

list_less : (size : ℕ) (more : ℕ → List ℕ → Parsed → Parsed) (p : Parsed) → ((n : ℕ) (bs : List ℕ) → length (more n bs p).rest ≤ length bs) → Less (length p.rest) (take_list size more p)
unfolding take_list
list_less size more p h =
    let n = little_endian (take 8 p.rest) in
    let i = h n (drop 8 p.rest) in
    let j = drop_less 8 p.rest in
    either (leb 8 (length p.rest)) _ _ _ (either (leb (size * n) (length (drop 8 p.rest))) _ _ _ (within _ (omega (arith, i, j))) missing) missing

field_less : (f : Field) (p : Parsed) → Less (length p.rest) (parse_field f p)
unfolding parse_field with_words with_bytes with_frames
field_less Rows.b p = number_less 1 255 p
field_less Rows.h p = number_less 2 65535 p
field_less Rows.q p = number_less 8 18446744073709551615 p
field_less Rows.c p = number_less 1 7 p
field_less Rows.d p = number_less 1 3 p
field_less Rows.W p = list_less 8 with_words p (λ n bs. drop_less (8 * n) bs)
field_less Rows.S p = list_less 1 with_bytes p (λ n bs. drop_less n bs)
field_less Rows.F p = list_less 32 with_frames p (λ n bs. drop_less (32 * n) bs)

weaken : {m n : ℕ} {x : Option Parsed} → m ≤ n → Less m x → Less n x
weaken h missing = missing
weaken h (within p l) = within p (omega (arith, h, l))

then_less : {n : ℕ} {x : Option Parsed} (k : Parsed → Option Parsed) → Less n x → ((p : Parsed) → Less (length p.rest) (k p)) → Less n (and_then x k)
unfolding and_then
then_less k missing h = missing
then_less k (within p l) h = weaken l (h p)

parse_less : (fs : List Field) (p : Parsed) → Less (length p.rest) (parse fs p)
unfolding parse
parse_less [] p = within p (omega arith)
parse_less (f ∷ fs) p = then_less (λ r. parse fs r) (field_less f p) (λ r. parse_less fs r)

by_less : (n : ℕ) {x : Option Parsed} (k : Called) → Less n x → as_called x ≡ some k → length k.rest ≤ n
unfolding as_called called_of
by_less n k missing e = let y : ◌≡◌ {A = ℕ} 0 1 = cc in absurd (omega arith)
by_less n k (within p l) e = let y : called_of p ≡ k = some-injective _ _ e in rw (← y) l

called_less : (n : ℕ) (bs : List ℕ) (k : Called) → called_by n bs ≡ some k → length k.rest ≤ length bs
unfolding called_by parse_call parse_by unread
called_less n bs k e = go (fields_of n) refl
  where
    go : (o : Option (List Field)) → fields_of n ≡ o → length k.rest ≤ length bs
    go none z = by_less (length bs) k missing (rw z at e)
    go (some fs) z = by_less (length bs) k (parse_less fs (unread bs)) (rw z at e)

-- ---- one command: the bytes left, and the run it stands in

run-append : (m : Model) (xs ys : List Call) → run m (xs ++ ys) ≡ run (run m xs) ys
unfolding run
run-append m [] ys = refl
run-append m (x ∷ xs) ys = run-append (step m x).next xs ys

-- what holds of every turn: it leaves no more bytes than n, and the play afterwards stands in the run that goes on or begins
record Fair (n : ℕ) (p : Play) (t : Turned) : Type 0 where
  less : length t.rest ≤ n
  since : (r : Run) → Since r p → Since (next_run r t.opening t.calls) t.next

-- calls ks on the play p
since-calls : (p : Play) (roots : List ℕ) (ks : List Call) (r : Run) → Since r p → Since (next_run r none ks) (record { heap = run p.heap ks; roots = roots })
unfolding next_run
since-calls p roots ks r s = record { opened = s.opened; opens = s.opens; heap = ap (λ (m : Model). run m ks) s.heap ∙ sym (run-append s.opened r.calls ks) }

-- none
since-same : (p : Play) (roots : List ℕ) (r : Run) → Since r p → Since (next_run r none []) (record { heap = p.heap; roots = roots })
unfolding run
since-same p roots r s = since-calls p roots [] r s

fair_either : (b : Bool) (n : ℕ) (p : Play) (x y : Turned) → Fair n p x → Fair n p y → Fair n p (cond b x y)
fair_either true n p x y a b = a
fair_either false n p x y a b = b

ended_fair : (n : ℕ) (p : Play) → Fair n p (ended p)
unfolding ended
ended_fair n p = record { less = omega arith; since = λ r s. since-same p p.roots r s }

module _ (n : ℕ) (p : Play) (rest : List ℕ) (h : length rest ≤ n) where
  rooted_fair : (w : ℕ) → Fair n p (rooted p w rest)
  unfolding rooted
  rooted_fair w = record { less = h; since = λ r s. since-same p _ r s }

  opened_fair : (o : Opening) (x : Option Model) → open_heap o ≡ x → Fair n p (opened_by p o rest x)
  unfolding opened_by next_run run
  opened_fair o none e = record { less = h; since = λ r s. since-same p p.roots r s }
  opened_fair o (some m) e = fair_either (seatable o) n p _ _ (record { less = h; since = λ r s. record { opened = m; opens = e; heap = refl } }) (ended_fair n p)

  called_fair : (c : ℕ) (o : Operands) (t : Lists) (x : Act) → Fair n p (called p c o t rest x)
  unfolding called
  called_fair c o t x = record { less = h; since = λ r s. since-calls p p.roots (calls_in x) r s }

  acted_fair : (c : ℕ) (o : Operands) (t : Lists) (x : Act) → Fair n p (acted p c o t rest x)
  unfolding acted
  acted_fair c o t no_act = ended_fair n p
  acted_fair c o t (opens_with x) = opened_fair x (open_heap x) refl
  acted_fair c o t (add_root w) = rooted_fair w
  acted_fair c o t (make k) = called_fair c o t (make k)
  acted_fair c o t (make_both k j) = called_fair c o t (make_both k j)

turn_fair : (p : Play) (c : ℕ) (bs : List ℕ) → Fair (length bs) p (turn_of p c bs)
unfolding turn_of turn_by
turn_fair p c bs = go (called_by c bs) refl
  where
    go : (x : Option Called) → called_by c bs ≡ x → Fair (length bs) p (turn_by p c x)
    go none e = ended_fair (length bs) p
    go (some k) e = fair_either (lendable (memory_of c) k.operands) (length bs) p _ _ (acted_fair (length bs) p k.rest (called_less c bs k e) c k.operands (lists_for (memory_of c) p k) (act_of c k.operands (lists_for (memory_of c) p k))) (ended_fair (length bs) p)

-- ---- fuel that suffices is as good as more

text_fuel : (n m : ℕ) (p : Play) (bs : List ℕ) → length bs ≤ n → length bs ≤ m → text_by n p bs ≡ text_by m p bs
unfolding text_by
text_fuel zero zero p bs h k = refl
text_fuel zero (suc m) p [] h k = refl
text_fuel zero (suc m) p (c ∷ bs) h k = absurd (omega arith)
text_fuel (suc n) zero p [] h k = refl
text_fuel (suc n) zero p (c ∷ bs) h k = absurd (omega arith)
text_fuel (suc n) (suc m) p [] h k = refl
text_fuel (suc n) (suc m) p (c ∷ bs) h k = let l = (turn_fair p c bs).less in ap (λ (xs : List ℕ). (turn_of p c bs).text ++ xs) (text_fuel n m (turn_of p c bs).next (turn_of p c bs).rest (omega (arith, l)) (omega (arith, l)))

play_fuel : (n m : ℕ) (p : Play) (bs : List ℕ) → length bs ≤ n → length bs ≤ m → play_by n p bs ≡ play_by m p bs
unfolding play_by
play_fuel zero zero p bs h k = refl
play_fuel zero (suc m) p [] h k = refl
play_fuel zero (suc m) p (c ∷ bs) h k = absurd (omega arith)
play_fuel (suc n) zero p [] h k = refl
play_fuel (suc n) zero p (c ∷ bs) h k = absurd (omega arith)
play_fuel (suc n) (suc m) p [] h k = refl
play_fuel (suc n) (suc m) p (c ∷ bs) h k = let l = (turn_fair p c bs).less in play_fuel n m (turn_of p c bs).next (turn_of p c bs).rest (omega (arith, l)) (omega (arith, l))

-- ---- the first command, and the others

pub text-end : (p : Play) → text_from p [] ≡ []
unfolding text_from text_by
text-end p = refl

pub text_turn : (p : Play) (n : ℕ) (bs : List ℕ) → text_from p (n ∷ bs) ≡ (turn_of p n bs).text ++ text_from (turn_of p n bs).next (turn_of p n bs).rest
unfolding text_from text_by
text_turn p n bs = let l = (turn_fair p n bs).less in ap (λ (xs : List ℕ). (turn_of p n bs).text ++ xs) (text_fuel (length bs) (length (turn_of p n bs).rest) (turn_of p n bs).next (turn_of p n bs).rest l (omega arith))

pub play_end : (p : Play) → play_after p [] ≡ p
unfolding play_after play_by
play_end p = refl

pub play_turn : (p : Play) (n : ℕ) (bs : List ℕ) → play_after p (n ∷ bs) ≡ play_after (turn_of p n bs).next (turn_of p n bs).rest
unfolding play_after play_by
play_turn p n bs = let l = (turn_fair p n bs).less in play_fuel (length bs) (length (turn_of p n bs).rest) (turn_of p n bs).next (turn_of p n bs).rest l (omega arith)

-- ---- demand 3

-- a call on a model, and what is seen of it
abbrev Steps : Model → Call → Seen → Model → Type 0
Steps m c o n = (o ≡ seen (step m c)) × (n ≡ (step m c).next)

steps_all : (m : Model) (cs : List Call) → Chain Model (λ n. n) Steps (λ s t c o d. d.0) (λ s t c o d. d.1) m cs (seen_all m cs) (run m cs)
unfolding run seen_all
steps_all m [] = start
steps_all m (c ∷ cs) = call (refl, refl) (steps_all (step m c).next cs)

run_holds : (r : Run) (p : Play) → Since r p → RunHolds r
run_holds r p s = record {
  opened = s.opened;
  opens = s.opens;
  demand = code_demand_3 Model (λ n. n) Steps (λ s t c o d. d.0) (λ s t c o d. d.1) r.opening s.opens (steps_all s.opened r.calls);
  shut_out = code_shut_out Model (λ n. n) Steps (λ s t c o d. d.0) (λ s t c o d. d.1) r.opening s.opens (steps_all s.opened r.calls);
}

ended_hold : (r : Run) (o : Option Opening) (rs : List Run) → RunHolds r → AllHold rs → AllHold (ended_run r o ++ rs)
unfolding ended_run AllHold
ended_hold r none rs h k = k
ended_hold r (some o) rs h k = (h, k)

runs_hold : (n : ℕ) (r : Run) (p : Play) (bs : List ℕ) → Since r p → AllHold (runs_by n r p bs)
unfolding runs_by AllHold
runs_hold zero r p bs s = (run_holds r p s, tt)
runs_hold (suc n) r p [] s = (run_holds r p s, tt)
runs_hold (suc n) r p (c ∷ bs) s =
    let t = turn_of p c bs in
    ended_hold r t.opening (runs_by n (next_run r t.opening t.calls) t.next t.rest) (run_holds r p s) (runs_hold n (next_run r t.opening t.calls) t.next t.rest ((turn_fair p c bs).since r s))

since-all : (n : ℕ) (r : Run) (p : Play) (bs : List ℕ) → Since r p → SinceBy n r p bs
unfolding SinceBy
since-all zero r p bs s = s
since-all (suc n) r p [] s = s
since-all (suc n) r p (c ∷ bs) s = let t = turn_of p c bs in (s, since-all n (next_run r t.opening t.calls) t.next t.rest ((turn_fair p c bs).since r s))

pub script_holds : (p : Play) (bs : List ℕ) → ScriptHolds p bs
unfolding runs_from SinceFrom
script_holds p bs = record { runs = λ r s. runs_hold (length bs) r p bs s; since = λ r s. since-all (length bs) r p bs s }

-- ---- a script from its beginning

pub sheet-opens : open_heap sheet_opening ≡ some sheet_heap
unfolding open_heap open_with sizes_fit sheet_heap Layout-.at_last Layout-.with_struct Layout-.with_field Layout-.with_function Layout-.with_register Layout-.with_capture Layout-.when Layout-.command Layout-.byte Layout-.proceed Layout-.reading Layout-.parse
sheet-opens = refl

first-since : Since first_run first_play
unfolding first_play run
first-since = record { opened = sheet_heap; opens = sheet-opens; heap = refl }

-- every opening's calls up to the next one, the first heap's too
pub script_demand_3 : (script : List ℕ) → AllHold (runs_from first_run first_play script)
script_demand_3 script = (script_holds first_play script).runs first_run first-since

pub script_since : (script : List ℕ) → SinceFrom first_run first_play script
script_since script = (script_holds first_play script).since first_run first-since
