-- The calls that each loop makes, and what a loop promises.
use Rattle.std.specs.Prelude.{◌≡◌, ℕ, zero, suc, ◌+◌, ◌%◌, List, [], ◌∷◌, map, length, ℤ, slice_index, Option, None, Result, Ok, Err, unwrap_or}
use Rattle.std.specs.Result.{result_unwrap_or}
use Rattle.layout.specs.Layout.{Layout}
use Rattle.model.specs.Calls as Calls
use Rattle.model.specs.Calls.{Call}
use Rattle.model.specs.Demand3.{run}
use Rattle.model.specs.Model.{Model}
use Rattle.model.specs.Replies.{list}
use Rattle.model.specs.Step.{step}
use Rattle.history.proofs.Lift.{Seen, seen, seen_all}
use Rattle.answers.specs.Shows.{shown_of}
use Rattle.heap.specs.State.{State, model_of}
use Rattle.heap.specs.Good.{Good}
use Rattle.heap.specs.declared.Refusal.{Refusal}
use Rattle.collector.specs.declared.Collection.{Collection}

-- call i of each loop; ws, ps, vs, hs, ks: the lent words, positions, values, hashes, keys
abbrev pub box_reads : List ℕ → ℕ → Call
box_reads ws i = Calls.read_box (slice_index ws i)

abbrev pub box_stores : List ℕ → List ℕ → ℕ → Call
box_stores ws vs i = Calls.store_box (slice_index ws i) (slice_index vs i)

abbrev pub item_reads : List ℕ → List ℕ → ℕ → Call
item_reads ws ps i = Calls.read_item (slice_index ws i) (slice_index ps i)

abbrev pub item_stores : List ℕ → List ℕ → ℕ → ℕ → Call
item_stores ws ps v i = Calls.store_item (slice_index ws i) (slice_index ps i) v

abbrev pub boxes : ℕ → ℕ → Call
boxes w i = Calls.new_box w

abbrev pub arrays : ℕ → ℤ → ℕ → Call
arrays t size i = Calls.new_array t size

abbrev pub maps : ℕ → Call
maps i = Calls.new_map 0 0

abbrev pub iterators : ℕ → ℕ → Call
iterators source i = Calls.new_iter source

abbrev pub pushes : ℕ → List ℕ → ℕ → Call
pushes w vs i = Calls.push w (slice_index vs i)

abbrev pub pops : ℕ → ℕ → Call
pops w i = Calls.pop w

abbrev pub puts : ℕ → List ℕ → List ℕ → ℕ → Call
puts w hs ks i = Calls.put w (slice_index hs i) (slice_index ks i) (slice_index ks i)

abbrev pub finds : ℕ → List ℕ → List ℕ → ℕ → Call
finds w hs ks i = Calls.find w (slice_index hs i) (slice_index ks i)

abbrev pub removals : ℕ → List ℕ → List ℕ → ℕ → Call
removals w hs ks i = Calls.remove w (slice_index hs i) (slice_index ks i)

abbrev pub steps : ℕ → ℕ → Call
steps w i = Calls.iter_next w

-- n calls in a row, from call i on
unfoldable pub calls : (ℕ → Call) → ℕ → ℕ → List Call
calls k i zero = []
calls k i (suc n) = k i ∷ calls k (i + 1) n

-- the word that a caller is shown of each call; 0 where there is none
abbrev pub word_shown : Seen → ℕ
word_shown o = (shown_of o).word

abbrev pub words : Model → List Call → List ℕ
words m cs = map word_shown (seen_all m cs)

unfoldable pub total : List ℕ → ℕ
total [] = 0
total (w ∷ ws) = w + total ws

-- the first n calls k, made on the state b, left the state a
pub record Ran (k : ℕ → Call) (n : ℕ) (b a : State) : Type 0 where
  pub next : (l : Layout) → model_of l a ≡ run (model_of l b) (calls k 0 n)
  pub good : Good a

-- r is the sum of the words that they answer, modulo 2^64
abbrev pub Summed : (ℕ → Call) → ℕ → State → ℕ → Type 0
Summed k n b r = (l : Layout) → r ≡ total (words (model_of l b) (calls k 0 n)) % 18446744073709551616

-- each place holds the word that its call answers
abbrev pub Filled : (ℕ → Call) → State → List ℕ → Type 0
Filled k b out = (l : Layout) → out ≡ words (model_of l b) (calls k 0 (length out))

-- the words of answers
abbrev pub word_read : Result ℕ Refusal → ℕ
word_read r = result_unwrap_or r 0

abbrev pub visit_word : Result (Option ℕ) Refusal → ℕ
visit_word r = unwrap_or (result_unwrap_or r None) 0

unfoldable pub freed_word : Result Collection Refusal → ℕ
freed_word (Ok c) = c.freed
freed_word (Err q) = 0

-- a collection on the state b, which freed r objects, left the lent list as ws and the state as a
pub record Collects (l : Layout) (roots places : List ℕ) (b : State) (r : ℕ) (ws : List ℕ) (a : State) : Type 0 where
  pub freed : r ≡ word_shown (seen (step (model_of l b) (Calls.collect roots places)))
  pub lent : list ws ≡ (step (model_of l b) (Calls.collect roots places)).lent
  pub next : model_of l a ≡ (step (model_of l b) (Calls.collect roots places)).next
  pub good : Good a
