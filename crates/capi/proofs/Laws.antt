-- From what a call below promises to what it promises of the words. Assumes nothing.
use Rattle.std.proofs.Common.{Result, Ok, Err}
use Prim.Native.Nat.{ℕ}
use mathlib.Core.Path.{◌≡◌, ap, refl, subst, sym, ◌∙◌}
use mathlib.Core.List.{List, []}
use Rattle.layout.specs.Layout.{Layout}
use Rattle.model.specs.Calls as Calls
use Rattle.model.specs.Calls.{Call, effect, same}
use Rattle.model.specs.Model.{Model, view_of}
use Rattle.model.specs.Refusals.{added, budget, slotless}
use Rattle.model.specs.Replies.{Reply, list, reply}
use Rattle.model.specs.Step.{step}
use Rattle.model.specs.Terms.{terms, uncharged}
use Rattle.model.specs.declared.Frame.{Frame}
use Rattle.history.proofs.Judging.{no-cells-added, says_none}
use Rattle.history.proofs.Lift.{Seen, seen, step_reads}
use Rattle.map_store.specs.Store.{Cursor}
use Rattle.heap.specs.State.{State, state}
use Rattle.heap.specs.Answers.{answered, reading_is, seen_by}
use Rattle.heap.specs.declared.Refusal.{Refusal}
use Rattle.heap.specs.Good.{Good, Rested}
use Rattle.heap.specs.Promise.{Does, Performs, Reads}
use Rattle.heap.specs.declared.Heap.{Heap}
use Rattle.heap.proofs.DoesLaws.{first_none}
use Rattle.heap_access.specs.Answers.{lent_reading}
use Rattle.heap_allocation.specs.Coroutines.{call_of}
use Rattle.heap_allocation.specs.declared.Coroutine.{Coroutine}
use Rattle.collections_maps.specs.Answers.{step_seen}
use Rattle.map_store.specs.declared.Stepped.{Stepped}
use Rattle.collector.specs.Answer.{collection_is}
use Rattle.collector.specs.declared.Collection.{Collection}
use Rattle.answers.specs.declared.Shown.{Shown}
use Rattle.answers.specs.Promise.{ShowsCall}
use Rattle.answers.specs.Shows.{answer_shown, reply_shown, shown_of, with_lent}
use Rattle.answers.proofs.ShownLaws.{shown-refusal}
use Rattle.capi.specs.Record.{cursor_out}
use Rattle.capi.specs.Promise.{ShowsList}

shows-does : {l : Layout} {k : Call} {b a : State} {o : Seen} {s : Shown} → Does l k b o a → s ≡ shown_of o → ShowsCall l k b s a
shows-does {o = o} d e = record {
  shown = e ∙ ap shown_of d.shows;
  next = d.next;
  good = d.good;
  kept = λ n. d.kept (λ z. n (ap (λ (x : Shown). x.refusal) e ∙ shown-refusal o ∙ z));
}

-- what a value shows that is answered as it is
pub plain : (a : Reply) {s : Shown} → s ≡ answer_shown 0 (reply a) → s ≡ shown_of (answered a)
unfolding shown_of with_lent
plain a e = e

-- ---- calls on a heap

-- v: the heap as it is viewed; s: what is shown; u: the words shown_in of it
pub reads : {v t : State} {k : Call} {o : Seen} {s u : Shown} → v ≡ t → Reads k v o → s ≡ shown_of o → u ≡ s → (l : Layout) → ShowsCall l k t u t
reads {k = k} {u = u} e d q r l = subst (λ (x : State). ShowsCall l k x u x) e (shows-does (d l) (r ∙ q))

module _ {slots scalars list directory cells : List ℕ} where
  -- h: the record g, loaded
  pub good-loaded : {h g : Heap} → h ≡ g → Good (state g slots scalars list directory cells) → Good (state h slots scalars list directory cells)
  good-loaded e p = subst (λ (x : Heap). Good (state x slots scalars list directory cells)) (sym e) p

  -- h: the record g before the call; h' the one after it, saved as g'
  does-loaded : {slots' scalars' list' directory' cells' : List ℕ} {h g h' g' : Heap} {l : Layout} {k : Call} {o : Seen} → h ≡ g → g' ≡ h'
      → Does l k (state h slots scalars list directory cells) o (state h' slots' scalars' list' directory' cells')
      → Does l k (state g slots scalars list directory cells) o (state g' slots' scalars' list' directory' cells')
  does-loaded {slots'} {scalars'} {list'} {directory'} {cells'} {h} {g} {h'} {g'} {l} {k} {o} e f d =
      let from = subst (λ (x : Heap). Does l k (state x slots scalars list directory cells) o (state h' slots' scalars' list' directory' cells')) e d in
      subst (λ (x : Heap). Does l k (state g slots scalars list directory cells) o (state x slots' scalars' list' directory' cells')) (sym f) from

  pub performs : {slots' scalars' list' directory' cells' : List ℕ} {h g h' g' : Heap} {k : Call} {o : Seen} {s u : Shown} → h ≡ g → g' ≡ h'
      → Performs k (state h slots scalars list directory cells) o (state h' slots' scalars' list' directory' cells') → s ≡ shown_of o → u ≡ s
      → (l : Layout) → ShowsCall l k (state g slots scalars list directory cells) u (state g' slots' scalars' list' directory' cells')
  performs e f d q r l = shows-does (does-loaded e f (d l)) (r ∙ q)

  -- a call that leaves the record as it was
  pub keeps : {slots' scalars' list' directory' cells' : List ℕ} {h g : Heap} {k : Call} {o : Seen} {s u : Shown} → h ≡ g
      → Performs k (state h slots scalars list directory cells) o (state h slots' scalars' list' directory' cells') → s ≡ shown_of o → u ≡ s
      → (l : Layout) → ShowsCall l k (state g slots scalars list directory cells) u (state g slots' scalars' list' directory' cells')
  keeps e d q r = performs e (sym e) d q r

  -- a coroutine made with k, loaded from j
  pub performs_with : {slots' scalars' list' directory' cells' : List ℕ} {h g h' g' : Heap} {k j : Coroutine} {ws : List ℕ} {fs : List Frame} {o : Seen} {s u : Shown} → h ≡ g → g' ≡ h' → k ≡ j
      → Performs (call_of k ws fs) (state h slots scalars list directory cells) o (state h' slots' scalars' list' directory' cells') → s ≡ shown_of o → u ≡ s
      → (l : Layout) → ShowsCall l (call_of j ws fs) (state g slots scalars list directory cells) u (state g' slots' scalars' list' directory' cells')
  performs_with {slots'} {scalars'} {list'} {directory'} {cells'} {g = g} {g' = g'} {ws = ws} {fs = fs} {u = u} e f p d q r l =
      subst (λ (x : Coroutine). ShowsCall l (call_of x ws fs) (state g slots scalars list directory cells) u (state g' slots' scalars' list' directory' cells')) p (performs e f d q r l)

-- a step of the cursor c, loaded from d
pub steps : (a : Result Stepped Refusal) (cursor : List ℕ) {v t : State} {w : ℕ} {c d : Cursor} {s u : Shown} {cursor' : List ℕ} → v ≡ t → c ≡ d
    → Reads (Calls.next w c) v (step_seen c a) → s ≡ shown_of (step_seen c a) → cursor' ≡ cursor_out s cursor → u ≡ s
    → ((l : Layout) → ShowsCall l (Calls.next w d) t u t) × (cursor' ≡ cursor_out u cursor)
steps a cursor {t = t} {w = w} {u = u} e p d q f r = (
  λ l. subst (λ (x : Cursor). ShowsCall l (Calls.next w x) t u t) p (reads e d q r l),
  f ∙ ap (λ (x : Shown). cursor_out x cursor) (sym r),
)

-- ---- calls that are lent a list

does_lends : {l : Layout} {k : Call} {b a : State} {o : Seen} {s : Shown} {ws : List ℕ} → Does l k b o a → s ≡ shown_of o → o.lent ≡ list ws → ShowsList l k b s ws a
unfolding seen
does_lends d e f = record { call = shows-does d e; lent = sym f ∙ ap (λ (x : Seen). x.lent) d.shows }

reading-lent : (a : Result ℕ Refusal) (bs : List ℕ) → (lent_reading a bs).lent ≡ list bs
unfolding lent_reading
reading-lent (Ok n) bs = refl
reading-lent (Err q) bs = refl

reading-shown : (a : Result ℕ Refusal) (bs : List ℕ) → shown_of (reading_is a) ≡ shown_of (lent_reading a bs)
unfolding shown_of lent_reading seen_by answer_shown reply_shown with_lent
reading-shown (Ok n) bs = refl
reading-shown (Err q) bs = refl

pub reading_lends : (a : Result ℕ Refusal) {bs : List ℕ} {v t : State} {k : Call} {s u : Shown} → v ≡ t → Reads k v (lent_reading a bs) → s ≡ shown_of (reading_is a) → u ≡ s
    → (l : Layout) → ShowsList l k t u bs t
reading_lends a {bs = bs} {k = k} {u = u} e d q r l =
    subst (λ (x : State). ShowsList l k x u bs x) e (does_lends (d l) (r ∙ q ∙ reading-shown a bs) (reading-lent a bs))

collection_lent : (a : Result Collection Refusal) (ws : List ℕ) → (collection_is a ws).lent ≡ list ws
unfolding collection_is
collection_lent (Ok c) ws = refl
collection_lent (Err q) ws = refl

pub collects : (a : Result Collection Refusal) {slots scalars list directory cells slots' scalars' list' directory' cells' ws : List ℕ} {h g h' g' : Heap} {l : Layout} {k : Call} {s u : Shown} → h ≡ g → g' ≡ h'
    → Does l k (state h slots scalars list directory cells) (collection_is a ws) (state h' slots' scalars' list' directory' cells') → ((places : List ℕ) → s ≡ shown_of (collection_is a places)) → u ≡ s
    → ShowsList l k (state g slots scalars list directory cells) u ws (state g' slots' scalars' list' directory' cells')
collects a {ws = ws} e f d q r = does_lends (does-loaded e f d) (r ∙ q ws) (collection_lent a ws)

pub rested-loaded : {h g : Heap} {marks order : List ℕ} → h ≡ g → Rested g.size marks order → Rested h.size marks order
rested-loaded {marks = marks} {order = order} e p = subst (λ (x : Heap). Rested x.size marks order) (sym e) p

-- ---- calls on words

pub word-told : (m : Model) (k : Call) (a : Reply) {s t : Shown} → effect (view_of m) k ≡ same → terms m k ≡ uncharged [] a → s ≡ shown_of (answered a) → t ≡ s → t ≡ shown_of (seen (step m k))
unfolding seen uncharged budget slotless added
word-told m k a f h q u =
    let p = step_reads m k (says_none m (terms m k) (effect (view_of m) k) (rw h first_none) (rw h) (rw f) (rw f (no-cells-added m 0 refl))) f (rw h) in
    u ∙ q ∙ rw (p, h)
