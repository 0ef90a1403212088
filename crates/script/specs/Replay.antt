-- A script (docs/SCRIPTS.md): the text that it prints, and the calls that it makes since each opening.
use Rattle.std.specs.Prelude.{ℕ, zero, suc, ◌+◌, ◌≡◌, Bool, true, cond, ◌&&◌, List, [], ◌∷◌, ◌++◌, leb, length, replicate}
use Rattle.std.proofs.Math.Option.{Option, none, some}
use Rattle.model.specs.Calls.{Call}
use Rattle.model.specs.Model.{Model}
use Rattle.model.specs.Opening.{Opening, open_heap}
use Rattle.model.specs.Callsheet.{digits, printed, sheet_heap, sheet_opening}
use Rattle.model.specs.Demand3.{CodeDemand3, history_from, run, seen_all}
use Rattle.model.specs.ShutOut.{ShutOut}
use Rattle.commands.specs.declared.Operands.{Operands}
use Rattle.commands.specs.Rows.{Act, Lists, add_root, make, make_both, no_act, opens_with}
use Rattle.commands.specs.Table.{act_of, form_of, memory_of}
use Rattle.commands.specs.Promise.{bytes_after, calls_in, lent_by, places_after, shown_by}
use Rattle.script.specs.Lines.{adjusted, line_text}
use Rattle.script.specs.Parse.{Called, called_by}
use Rattle.commands.specs.declared.Memory.{Memory}
use Rattle.commands.specs.declared.Memory.TheVariants.{Own, Buffer, Places, Roots}

-- between commands: the heap, and the roots given so far
pub record Play : Type 0 where
  pub heap : Model
  pub roots : List ℕ

abbrev pub used : Play → ℕ
used p = p.heap.account.used

-- ---- the lists that a command is given

unfoldable pub words_for : Memory → Play → Called → List ℕ
words_for Own p k = k.words
words_for Buffer p k = k.words
words_for Places p k = k.words
words_for Roots p k = p.roots

unfoldable pub frames_for : Memory → Called → List ℕ
frames_for Own k = k.frames
frames_for Buffer k = k.frames
frames_for Places k = k.frames
frames_for Roots k = []

-- a lent buffer holds EE
unfoldable pub bytes_for : Memory → Called → List ℕ
bytes_for Own k = k.bytes
bytes_for Buffer k = replicate k.operands.b 0xEE
bytes_for Places k = k.bytes
bytes_for Roots k = k.bytes

unfoldable pub places_for : Memory → Play → Operands → ℕ
places_for Own p o = 0
places_for Buffer p o = 0
places_for Places p o = o.a
places_for Roots p o = p.heap.table.size

-- place i of a lent list holds AAAAAAAAAAAA0000 + i
unfoldable pub numbered : ℕ → List ℕ
numbered zero = []
numbered (suc i) = numbered i ++ ((0xAAAAAAAAAAAA0000 + i) ∷ [])

unfoldable pub lists_for : Memory → Play → Called → Lists
lists_for e p k = record { words = words_for e p k; frames = frames_for e k; bytes = bytes_for e k; places = numbered (places_for e p k.operands) }

-- what the program has room for: buffers of 524,288 bytes, lists of 65,536 places, heaps of 1,024 slots and 65,536 cells
unfoldable pub lendable : Memory → Operands → Bool
lendable Own o = true
lendable Buffer o = leb o.b 524288
lendable Places o = leb o.a 65536
lendable Roots o = true

unfoldable pub seatable : Opening → Bool
seatable o = leb o.slots 1024 && leb o.cells 65536

-- ---- one command

-- its line, the calls that it made, the heap that it opened, the play afterwards, and the bytes left
pub record Turned : Type 0 where
  pub text : List ℕ
  pub calls : List Call
  pub opening : Option Opening
  pub next : Play
  pub rest : List ℕ

-- "an unknown command or missing operand prints `?? 4`, zeros, used, and ends"
unfoldable pub ended : Play → Turned
ended p = record { text = printed (63 ∷ 63 ∷ []) 4 0 (used p); calls = []; opening = none; next = p; rest = [] }

-- "0B root (word; a 65th gives 4)"
unfoldable pub rooted : Play → ℕ → List ℕ → Turned
rooted p w rest =
    let full = leb 64 (length p.roots) in
    record { text = printed (digits 16 2 0x0B) (cond full 4 0) 0 (used p); calls = []; opening = none; next = record { heap = p.heap; roots = cond full p.roots (p.roots ++ (w ∷ [])) }; rest = rest }

-- refused with 10 the earlier heap stays; an opening that document 01 accepts and for which there is no room ends the script
unfoldable pub opened_by : Play → Opening → List ℕ → Option Model → Turned
opened_by p o rest none = record { text = printed (digits 16 2 0) 10 0 (used p); calls = []; opening = none; next = p; rest = rest }
opened_by p o rest (some m) = cond (seatable o) record { text = printed (digits 16 2 0) 0 0 m.account.used; calls = []; opening = some o; next = record { heap = m; roots = [] }; rest = rest } (ended p)

-- the calls of an act, and their line
unfoldable pub called : Play → ℕ → Operands → Lists → List ℕ → Act → Turned
called p n o t rest x =
    let m = p.heap in
    let after = run m (calls_in x) in
    let places = places_after (memory_of n) (lent_by m x) t.places in
    let bytes = bytes_after (memory_of n) (lent_by m x) t.bytes in
    record { text = line_text n (form_of n) (memory_of n) (adjusted (form_of n) o (shown_by m x)) after.account.used places bytes; calls = calls_in x; opening = none; next = record { heap = after; roots = p.roots }; rest = rest }

unfoldable pub acted : Play → ℕ → Operands → Lists → List ℕ → Act → Turned
acted p n o t rest no_act = ended p
acted p n o t rest (opens_with x) = opened_by p x rest (open_heap x)
acted p n o t rest (add_root w) = rooted p w rest
acted p n o t rest (make k) = called p n o t rest (make k)
acted p n o t rest (make_both k j) = called p n o t rest (make_both k j)

unfoldable pub turn_by : Play → ℕ → Option Called → Turned
turn_by p n none = ended p
turn_by p n (some k) =
    let t = lists_for (memory_of n) p k in
    cond (lendable (memory_of n) k.operands) (acted p n k.operands t k.rest (act_of n k.operands t)) (ended p)

-- the command n with the bytes behind it
unfoldable pub turn_of : Play → ℕ → List ℕ → Turned
turn_of p n bs = turn_by p n (called_by n bs)

-- ---- all commands; each takes one of the fuel

unfoldable pub text_by : ℕ → Play → List ℕ → List ℕ
text_by zero p bs = []
text_by (suc fuel) p [] = []
text_by (suc fuel) p (n ∷ bs) = let t = turn_of p n bs in t.text ++ text_by fuel t.next t.rest

unfoldable pub text_from : Play → List ℕ → List ℕ
text_from p bs = text_by (length bs) p bs

unfoldable pub play_by : ℕ → Play → List ℕ → Play
play_by zero p bs = p
play_by (suc fuel) p [] = p
play_by (suc fuel) p (n ∷ bs) = let t = turn_of p n bs in play_by fuel t.next t.rest

unfoldable pub play_after : Play → List ℕ → Play
play_after p bs = play_by (length bs) p bs

-- "It opens 256 slots, 2,048 cells, limit 1,048,576, weights 64, 40, 80, 160, 32", layout 00
unfoldable pub first_play : Play
first_play = record { heap = sheet_heap; roots = [] }

unfoldable pub script_text : List ℕ → List ℕ
script_text script = text_from first_play script

-- ---- the calls since each opening

pub record Run : Type 0 where
  pub opening : Opening
  pub calls : List Call

unfoldable pub next_run : Run → Option Opening → List Call → Run
next_run r none ks = record { opening = r.opening; calls = r.calls ++ ks }
next_run r (some o) ks = record { opening = o; calls = [] }

-- the run that an opening ends
unfoldable pub ended_run : Run → Option Opening → List Run
ended_run r none = []
ended_run r (some o) = r ∷ []

unfoldable pub runs_by : ℕ → Run → Play → List ℕ → List Run
runs_by zero r p bs = r ∷ []
runs_by (suc fuel) r p [] = r ∷ []
runs_by (suc fuel) r p (n ∷ bs) =
    let t = turn_of p n bs in
    ended_run r t.opening ++ runs_by fuel (next_run r t.opening t.calls) t.next t.rest

unfoldable pub runs_from : Run → Play → List ℕ → List Run
runs_from r p bs = runs_by (length bs) r p bs

abbrev pub first_run : Run
first_run = record { opening = sheet_opening; calls = [] }

-- ---- demand 3 of a script

-- the heap is the one that the run's calls have left since its opening
pub record Since (r : Run) (p : Play) : Type 0 where
  pub opened : Model
  pub opens : open_heap r.opening ≡ some opened
  pub heap : p.heap ≡ run opened r.calls

-- demand 3 of the run's calls and of what was seen of them; and what document 01 shuts out is shut out
pub record RunHolds (r : Run) : Type 0 where
  pub opened : Model
  pub opens : open_heap r.opening ≡ some opened
  pub demand : CodeDemand3 opened.layout r.calls (seen_all opened r.calls) (run opened r.calls)
  pub shut_out : ShutOut (run opened r.calls) (history_from opened.layout r.calls (seen_all opened r.calls))

unfoldable pub AllHold : List Run → Type 0
AllHold [] = Unit {0}
AllHold (r ∷ rs) = RunHolds r × AllHold rs

-- before every command the heap on which its calls are made, and from which its line is written, is the run's
unfoldable pub SinceBy : ℕ → Run → Play → List ℕ → Type 0
SinceBy zero r p bs = Since r p
SinceBy (suc fuel) r p [] = Since r p
SinceBy (suc fuel) r p (n ∷ bs) = let t = turn_of p n bs in Since r p × SinceBy fuel (next_run r t.opening t.calls) t.next t.rest

unfoldable pub SinceFrom : Run → Play → List ℕ → Type 0
SinceFrom r p bs = SinceBy (length bs) r p bs

-- of a script's rest, whatever run the play stands in
pub record ScriptHolds (p : Play) (bs : List ℕ) : Type 0 where
  pub runs : (r : Run) → Since r p → AllHold (runs_from r p bs)
  pub since : (r : Run) → Since r p → SinceFrom r p bs
