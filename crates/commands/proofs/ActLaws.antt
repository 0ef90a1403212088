-- From what a call promises to what a command promises, and what that tells. Assumes nothing.
use Rattle.std.proofs.Common.{Option, Some, None}
use Prim.Native.Nat.{ℕ}
use mathlib.Core.Path.{◌≡◌, refl, ap, ◌∙◌}
use mathlib.Core.Logic.{◌≢◌}
use mathlib.Core.List.{List, [], ◌∷◌}
use native.Mathlib.Omega.{arith}
use Rattle.layout.specs.Layout.{Layout}
use Rattle.model.specs.Calls.{Call}
use Rattle.model.specs.Replies.{no_memory}
use Rattle.model.specs.Model.{Model}
use Rattle.model.specs.Step.{step}
use Rattle.model.specs.Demand3.{Seen, run, seen}
use Rattle.heap.specs.State.{State, model_of}
use Rattle.heap.specs.Promise.{Performs, Reads}
use Rattle.answers.specs.declared.Shown.{Shown}
use Rattle.answers.specs.Promise.{ShowsCall}
use Rattle.answers.specs.Shows.{shown_of, with_second}
use Rattle.answers.proofs.ShownLaws.{shows_performed}
use Rattle.commands.specs.Rows.{Act, make, make_both, no_act}
use Rattle.commands.specs.Promise.{ChangedBy, CommandedBy, ReadBy, both_change, both_command, bytes_after, calls_in, known_change, known_command, left_in, lent_by, places_after, shown_by, unknown_change, unknown_command}
use Rattle.commands.specs.declared.Memory.{Memory}
use Rattle.commands.specs.declared.Memory.TheVariants.{Own, Buffer, Places, Roots}

-- ---- one call, or two

pub changed_known : {k : Call} {b : State} {o : Seen} {a : State} {s : Shown} {x : Act} → Performs k b o a → s ≡ shown_of o → x ≡ make k → ChangedBy b x (Some s) a
changed_known p e q = rw q (known_change (shows_performed p e))

-- a reading's state is the same before and after
pub read_known : {k : Call} {t : State} {o : Seen} {s : Shown} {x : Act} → Reads k t o → s ≡ shown_of o → x ≡ make k → ReadBy t x (Some s)
read_known p e q = changed_known p e q

pub read_both : {k j : Call} {t : State} {o v : Seen} {s u r : Shown} → Reads k t o → Reads j t v → s ≡ shown_of o → u ≡ shown_of v → r ≡ with_second u.word s → ReadBy t (make_both k j) (Some r)
read_both p q e f g = rw g (both_change (shows_performed p e) (shows_performed q f))

pub changed-unknown : {b : State} {x : Act} → x ≡ no_act → ChangedBy b x None b
unfolding calls_in
changed-unknown q = unknown_change (ap calls_in q)

-- the same act by another name
pub act-same : {x y : Act} {b a : State} {p : Option Shown} → y ≡ x → ChangedBy b x p a → ChangedBy b y p a
act-same e h = rw e h

-- an act without calls in place of none
pub act_silent : {x : Act} {b a : State} {p : Option Shown} → calls_in x ≡ [] → ChangedBy b no_act p a → ChangedBy b x p a
act_silent e (unknown_change z) = unknown_change e

-- ---- what a command's promise tells

bytes-own : (e : Memory) (bytes : List ℕ) → bytes ≡ bytes_after e no_memory bytes
unfolding bytes_after left_in
bytes-own Own bytes = refl
bytes-own Buffer bytes = refl
bytes-own Places bytes = refl
bytes-own Roots bytes = refl

places-own : (e : Memory) (places : List ℕ) → places ≡ places_after e no_memory places
unfolding places_after left_in
places-own Own places = refl
places-own Buffer places = refl
places-own Places places = refl
places-own Roots places = refl

no_end : {k : Call} {ks : List Call} → k ∷ ks ≢ []
no_end e = let z : ◌≡◌ {A = ℕ} 0 1 = cc in absurd (omega arith)

-- s is shown of the act x, and the heap and both lists are as its calls left them
pub record Acted (l : Layout) (e : Memory) (b : State) (bytes places : List ℕ) (x : Act) (s : Shown) (a : State) (bytes' places' : List ℕ) : Type 0 where
  pub shown : s ≡ shown_by (model_of l b) x
  pub next : model_of l a ≡ run (model_of l b) (calls_in x)
  pub buffered : bytes' ≡ bytes_after e (lent_by (model_of l b) x) bytes
  pub listed : places' ≡ places_after e (lent_by (model_of l b) x) places
  pub calls : calls_in x ≢ []

module _ {l : Layout} {e : Memory} {b : State} {bytes places : List ℕ} where
  acted-call : {k : Call} {s : Shown} {a : State} {bytes' places' : List ℕ} → ShowsCall l k b s a → bytes' ≡ bytes_after e (step (model_of l b) k).lent bytes → places' ≡ places_after e (step (model_of l b) k).lent places →
      Acted l e b bytes places (make k) s a bytes' places'
  unfolding shown_by lent_by calls_in run
  acted-call h f g = record { shown = h.shown; next = h.next; buffered = f; listed = g; calls = no_end }

  acted_both : (k j : Call) {s u : Shown} → ShowsCall l k b s b → ShowsCall l j b u b → Acted l e b bytes places (make_both k j) (with_second u.word s) b bytes places
  unfolding shown_by lent_by calls_in run
  acted_both k j {s} {u} h i =
      let w : u.word ≡ (shown_of (seen (step (step (model_of l b) k).next j))).word = ap (λ (v : Shown). v.word) i.shown ∙ ap (λ (m : Model). (shown_of (seen (step m j))).word) h.next in
      record {
        shown = ap (λ (n : ℕ). with_second n s) w ∙ ap (λ (v : Shown). with_second (shown_of (seen (step (step (model_of l b) k).next j))).word v) h.shown;
        next = i.next ∙ ap (λ (m : Model). (step m j).next) h.next;
        buffered = bytes-own e bytes;
        listed = places-own e places;
        calls = no_end;
      }

  pub acted : {x : Act} {p : Option Shown} {s : Shown} {a : State} {bytes' places' : List ℕ} → CommandedBy l e b bytes places x p a bytes' places' → p ≡ Some s → Acted l e b bytes places x s a bytes' places'
  acted (unknown_command z) q = let z : ◌≡◌ {A = ℕ} 0 1 = cc in absurd (omega arith)
  acted {s = s} (known_command {s = t} h f g) q = let r : t ≡ s = cc in rw r at (acted-call h f g)
  acted {s = s} (both_command {k = k} {j = j} {s = t} {u = u} h i) q = let r : with_second u.word t ≡ s = cc in rw r at (acted_both k j h i)

  pub not_acted : {x : Act} {p : Option Shown} {a : State} {bytes' places' : List ℕ} → CommandedBy l e b bytes places x p a bytes' places' → p ≡ None → (calls_in x ≡ []) × ((a ≡ b) × ((bytes' ≡ bytes) × (places' ≡ places)))
  not_acted (unknown_command z) q = (z, (refl, (refl, refl)))
  not_acted (known_command h f g) q = let z : ◌≡◌ {A = ℕ} 0 1 = cc in absurd (omega arith)
  not_acted (both_command h i) q = let z : ◌≡◌ {A = ℕ} 0 1 = cc in absurd (omega arith)
