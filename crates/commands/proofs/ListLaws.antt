-- From what the groups of commands promise to what every command promises, with the lists that it is lent. Assumes nothing.
use Rattle.std.proofs.Common.{Result, Ok, Err}
use Rattle.heap.specs.declared.Refusal.{Refusal}
use Rattle.std.proofs.Common.{Option, Some, None}
use Prim.Native.Nat.{ℕ, ◌≤◌, ◌<◌}
use mathlib.Core.Path.{◌≡◌, refl, sym, ap, ◌∙◌}
use mathlib.Core.Logic.{◌≢◌, ⊎_elim}
use mathlib.Core.List.{List}
use native.Mathlib.Omega.{arith}
use Rattle.layout.specs.Layout.{Layout}
use Rattle.history.proofs.Lift.{Seen, seen}
use Rattle.model.specs.Calls.{Call}
use Rattle.model.specs.Model.{Model}
use Rattle.model.specs.Replies.{Lent, list}
use Rattle.model.specs.Step.{step}
use Rattle.heap.specs.Answers.{reading_is, seen_by}
use Rattle.heap.specs.State.{State, model_of}
use Rattle.heap.specs.Good.{Ready}
use Rattle.heap.specs.Promise.{Does}
use Rattle.heap_access.specs.Answers.{lent_reading}
use Rattle.collector.specs.declared.Collection.{Collection}
use Rattle.collector.specs.Answer.{collection_is}
use Rattle.answers.specs.declared.Shown.{Shown}
use Rattle.answers.specs.Shows.{answer_shown, reply_shown, shown_of, with_lent}
use Rattle.answers.specs.Promise.{ShowsCall}
use Rattle.answers.proofs.ShownLaws.{shown-refusal}
use Rattle.commands.specs.declared.Operands.{Operands}
use Rattle.commands.specs.Rows.{Act, Lists, choose, make, no_act}
use Rattle.commands.specs.Table.{act_in, act_of, change_rows, group_of, lent_rows, memory_of, new_list_rows, read_rows}
use Rattle.commands.specs.Promise.{ChangedBy, CommandedBy, both_change, both_command, bytes_after, calls_in, known_change, known_command, left_in, places_after, unknown_change, unknown_command}
use Rattle.commands.proofs.ActLaws.{act-same, act_silent}
use Rattle.commands.proofs.RowLaws.{change-act, group_last, lent-act, list-act, memory-own, read_act, same_or_not, session-calls}
use Rattle.history.proofs.Sizes.{step-size}
use Rattle.commands.specs.declared.Memory.{Memory}
use Rattle.commands.specs.declared.Memory.TheVariants.{Own, Buffer, Places, Roots}

-- ---- one call

pub shows-does : {l : Layout} {k : Call} {b a : State} {s : Shown} (o : Seen) → Does l k b o a → s ≡ shown_of o → ShowsCall l k b s a
shows-does o p e = record { shown = e ∙ ap shown_of p.shows; next = p.next; good = p.good; kept = λ n. p.kept (λ z. n (ap (λ (x : Shown). x.refusal) e ∙ shown-refusal o ∙ z)) }

collected-lent : (a : Result Collection Refusal) (places : List ℕ) → (collection_is a places).lent ≡ list places
unfolding collection_is
collected-lent (Ok k) places = refl
collected-lent (Err q) places = refl

read_lent : (a : Result ℕ Refusal) (bytes : List ℕ) → (lent_reading a bytes).lent ≡ list bytes
unfolding lent_reading
read_lent (Ok n) bytes = refl
read_lent (Err q) bytes = refl

-- the bytes are not shown
shown_read : (a : Result ℕ Refusal) (bytes : List ℕ) → shown_of (reading_is a) ≡ shown_of (lent_reading a bytes)
unfolding seen_by lent_reading shown_of with_lent answer_shown reply_shown
shown_read (Ok n) bytes = refl
shown_read (Err q) bytes = refl

-- ---- the lists

-- the memory is a list of places
pub data LendsPlaces : Memory → Type 0 where
  places_given : {e : Memory} → e ≡ Places → LendsPlaces e
  roots_given : {e : Memory} → e ≡ Roots → LendsPlaces e

places-left : {e : Memory} (m : Lent) (places places' : List ℕ) → LendsPlaces e → m ≡ list places' → places' ≡ places_after e m places
unfolding places_after left_in
places-left m places places' (places_given e) f = rw (e, f)
places-left m places places' (roots_given e) f = rw (e, f)

bytes-kept : {e : Memory} (m : Lent) (bytes : List ℕ) → LendsPlaces e → bytes ≡ bytes_after e m bytes
unfolding bytes_after
bytes-kept m bytes (places_given e) = rw e
bytes-kept m bytes (roots_given e) = rw e

module _ {l : Layout} {e : Memory} {b : State} {bytes places : List ℕ} where
  -- 0C, 0F
  pub commanded_collection : {x : Act} (k : Call) (q : Result Collection Refusal) (places' : List ℕ) {s : Shown} {a : State} → LendsPlaces e → x ≡ make k → Does l k b (collection_is q places') a → s ≡ shown_of (collection_is q places') →
      CommandedBy l e b bytes places x (Some s) a bytes places'
  unfolding seen
  commanded_collection k q places' h x p t =
      let m : (step (model_of l b) k).lent ≡ list places' = sym (ap (λ (o : Seen). o.lent) p.shows) ∙ collected-lent q places' in
      rw x (known_command (shows-does (collection_is q places') p t) (bytes-kept _ bytes h) (places-left _ places places' h m))

  -- 26
  pub commanded-string : {x : Act} (k : Call) (q : Result ℕ Refusal) (bytes' : List ℕ) {s : Shown} {a : State} → e ≡ Buffer → x ≡ make k → Does l k b (lent_reading q bytes') a → s ≡ shown_of (reading_is q) →
      CommandedBy l e b bytes places x (Some s) a bytes' places
  unfolding seen bytes_after places_after left_in
  commanded-string k q bytes' h x p t =
      let m : (step (model_of l b) k).lent ≡ list bytes' = sym (ap (λ (o : Seen). o.lent) p.shows) ∙ read_lent q bytes' in
      rw x (known_command {bytes' = bytes'} {places' = places} (shows-does (lent_reading q bytes') p (t ∙ shown_read q bytes')) (rw (h, m)) (rw h))

  pub commanded-unknown : {x : Act} → x ≡ no_act → CommandedBy l e b bytes places x None b bytes places
  unfolding calls_in
  commanded-unknown q = unknown_command (ap calls_in q)

  -- a command that is lent neither list
  commanded-changed : {x : Act} {p : Option Shown} {a : State} → e ≡ Own → ChangedBy b x p a → CommandedBy l e b bytes places x p a bytes places
  unfolding bytes_after places_after
  commanded-changed q (unknown_change z) = unknown_command z
  commanded-changed q (known_change h) = known_command {bytes' = bytes} {places' = places} (h l) (rw q) (rw q)
  commanded-changed q (both_change h i) = both_command (h l) (i l)

  pub command-same : {x y : Act} {p : Option Shown} {a : State} {bs ps : List ℕ} → y ≡ x → CommandedBy l e b bytes places x p a bs ps → CommandedBy l e b bytes places y p a bs ps
  command-same q h = rw q h

  -- ---- between commands

  pub ready-after : {x : Act} {p : Option Shown} {a : State} {bs ps marks order marks' order' layout table : List ℕ} → CommandedBy l e b bytes places x p a bs ps → Ready b marks order layout table → marks' ≡ marks → order' ≡ order →
      Ready a marks' order' layout table
  unfolding model_of
  ready-after (unknown_command z) g em eo = record { good = g.good; rested = rw (em, eo) g.rested; tabled = g.tabled }
  ready-after (known_command {k = k} {a = a} s f h) g em eo =
      let n : a.heap.size ≡ b.heap.size = ap (λ (m : Model). m.table.size) s.next ∙ step-size (model_of l b) k in
      record { good = s.good; rested = rw (n, em, eo) g.rested; tabled = g.tabled }
  ready-after (both_command s u) g em eo = record { good = g.good; rested = rw (em, eo) g.rested; tabled = g.tabled }

-- ---- a group of commands, with the heap ready for the next command

abbrev Performing : Layout → ℕ → Operands → Lists → State → Option Shown → State → List ℕ → List ℕ → List ℕ → List ℕ → Type 0
Performing l n o t b p a marks order layout table =
    CommandedBy l (memory_of n) b t.bytes t.places (act_of n o t) p a t.bytes t.places × (Ready a marks order layout table × ((marks ≡ marks) × (order ≡ order)))

module _ {l : Layout} (n : ℕ) (o : Operands) (t : Lists) {g : ℕ} {b a : State} {p : Option Shown} {marks order layout table : List ℕ} (e : group_of n ≡ g) (r : Ready b marks order layout table) where
  own-command : g ≢ 15 → ChangedBy b (act_of n o t) p a → Performing l n o t b p a marks order layout table
  own-command h c =
      let k : CommandedBy l (memory_of n) b t.bytes t.places (act_of n o t) p a t.bytes t.places = commanded-changed (memory-own n (λ z. h (sym e ∙ z))) c in
      (k, (ready-after k r refl refl, (refl, refl)))

  pub read_command : g < 10 → ChangedBy b (act_in (read_rows g) n o t) p a → Performing l n o t b p a marks order layout table
  unfolding read_rows act_in choose
  read_command h c =
      own-command (λ z. omega arith)
      (⊎_elim (λ z. act_silent (session-calls n o t (e ∙ z)) (rw z at c)) (λ z. act-same (read_act n o t e h z) c) (same_or_not g 1))

  pub change-command : 10 ≤ g → g < 14 → ChangedBy b (act_in (change_rows g) n o t) p a → Performing l n o t b p a marks order layout table
  change-command i h c = own-command (λ z. omega arith) (act-same (change-act n o t e i h) c)

  pub list-command : g ≡ 14 → ChangedBy b (act_in new_list_rows n o t) p a → Performing l n o t b p a marks order layout table
  list-command i c = own-command (λ z. omega arith) (act-same (list-act n o t (e ∙ i)) c)

-- the last group
pub lent-command : {l : Layout} (n : ℕ) (o : Operands) (t : Lists) {g : ℕ} {b a : State} {p : Option Shown} {bs ps marks order marks' order' layout table : List ℕ} → group_of n ≡ g → 14 < g → Ready b marks order layout table →
    CommandedBy l (memory_of n) b t.bytes t.places (act_in lent_rows n o t) p a bs ps × ((marks' ≡ marks) × (order' ≡ order)) →
    CommandedBy l (memory_of n) b t.bytes t.places (act_of n o t) p a bs ps × (Ready a marks' order' layout table × ((marks' ≡ marks) × (order' ≡ order)))
lent-command n o t e i r (c, (em, eo)) = (command-same (lent-act n o t (group_last n (rw (sym e) at i))) c, (ready-after c r em eo, (em, eo)))
