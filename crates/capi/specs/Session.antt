-- Demand 3 of what a caller of the library sees, from an accepted opening on.
use Rattle.std.specs.Prelude.{ℕ, ◌≡◌, List, [], ◌∷◌}
use Rattle.layout.specs.Layout.{Layout}
use Rattle.model.specs.Calls.{Call}
use Rattle.model.specs.Replies.{list}
use Rattle.model.specs.Demand3.{CodeDemand3, Seen, history_from}
use Rattle.model.specs.ShutOut.{ShutOut}
use Rattle.heap.specs.State.{State, model_of}
use Rattle.answers.specs.declared.Shown.{Shown}
use Rattle.answers.specs.Promise.{ShowsCall}
use Rattle.answers.specs.Shows.{shown_of}
use Rattle.capi.specs.Promise.{ShowsList}

-- what is seen of a call: the number returned with the six words answered, and the list that was lent, as the call left it
pub data Sight : Type 0 where
  words : Shown → Sight
  words_and_list : Shown → List ℕ → Sight

-- a function's promise: the call k, made on the state b, of which this was seen, left the state a
pub data Made (l : Layout) (k : Call) (b : State) : Sight → State → Type 0 where
  by_words : {s : Shown} {a : State} → ShowsCall l k b s a → Made l k b (words s) a
  by_list : {s : Shown} {ws : List ℕ} {a : State} → ShowsList l k b s ws a → Made l k b (words_and_list s ws) a

-- calls one after the other, each handed the record and the buffers as the one before left them (document 01's premise)
pub data Session (l : Layout) : State → List Call → List Sight → State → Type 0 where
  no_call : {b : State} → Session l b [] [] b
  and_then : {b c a : State} {k : Call} {ks : List Call} {x : Sight} {xs : List Sight} → Made l k b x c → Session l c ks xs a → Session l b (k ∷ ks) (x ∷ xs) a

-- what was seen is this outcome, in words
pub data Shows (o : Seen) : Sight → Type 0 where
  in_words : {s : Shown} → s ≡ shown_of o → Shows o (words s)
  in_list : {s : Shown} {ws : List ℕ} → s ≡ shown_of o → list ws ≡ o.lent → Shows o (words_and_list s ws)

pub data AllShow : List Seen → List Sight → Type 0 where
  show_none : AllShow [] []
  show_next : {o : Seen} {os : List Seen} {x : Sight} {xs : List Sight} → Shows o x → AllShow os xs → AllShow (o ∷ os) (x ∷ xs)

-- the outcomes that were seen meet demand 3, and so does the heap that was left; and what document 01 shuts out is shut out of it
pub record LibraryDemand3 (l : Layout) (ks : List Call) (xs : List Sight) (a : State) : Type 0 where
  pub outcomes : List Seen
  pub shown : AllShow outcomes xs
  pub demand : CodeDemand3 l ks outcomes (model_of l a)
  pub shut_out : ShutOut (model_of l a) (history_from l ks outcomes)
