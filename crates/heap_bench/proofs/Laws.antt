-- One law for a turn of every loop: what is left comes to the whole.
use Rattle.std.proofs.Common.{◌≡◌, ℕ, suc, ◌+◌, ◌-◌, ◌%◌, ◌<◌, ◌≤◌, List, [], ◌∷◌, ◌++◌, length, take, set, sym, refl, ap, ◌∙◌, subst, append-nil, add-one, arith, length-set, take_all, take-suc-set, Option, Some, None, Result, Ok, Err}
use lib.Seq.{append_snoc}
use Rattle.layout.specs.Layout.{Layout}
use Rattle.model.specs.Calls.{Call, collect}
use Rattle.model.specs.Demand3.{run}
use Rattle.model.specs.Model.{Model}
use Rattle.model.specs.Step.{step}
use Rattle.history.proofs.Lift.{Seen, seen, seen_all}
use Rattle.answers.specs.Shows.{answer_shown, or_zero, reply_shown, shown_of, with_lent}
use Rattle.heap.specs.Answers.{made_is, reading_is, seen_by}
use Rattle.heap.specs.State.{State, model_of, with_heap}
use Rattle.heap.specs.Good.{Good, Rested}
use Rattle.layout.specs.Sections.{Tabled}
use Rattle.heap.specs.Promise.{Performs, Does}
use Rattle.heap.specs.declared.Heap.{Heap}
use Rattle.heap.specs.declared.Refusal.{Refusal}
use Rattle.collections_growth.specs.Answers.{perhaps_is}
use Rattle.collector.specs.Answer.{collection_is}
use Rattle.collector.specs.declared.Collection.{Collection}
use Rattle.model.specs.Replies.{list}
use Rattle.heap_bench.specs.Loops.{Collects, Filled, Ran, Summed, calls, freed_word, word_read, total, visit_word, words, word_shown}

-- the words of answers are what is shown
pub read_word : (a : Result ℕ Refusal) → word_read a ≡ word_shown (reading_is a)
unfolding shown_of with_lent answer_shown reply_shown seen_by
read_word (Ok w) = refl
read_word (Err q) = refl

pub made_word : (a : Result ℕ Refusal) → word_read a ≡ word_shown (made_is a)
unfolding shown_of with_lent answer_shown reply_shown seen_by
made_word (Ok w) = refl
made_word (Err q) = refl

pub visit-word : (a : Result (Option ℕ) Refusal) → visit_word a ≡ word_shown (perhaps_is a)
unfolding shown_of with_lent answer_shown reply_shown seen_by or_zero
visit-word (Ok (Some w)) = refl
visit-word (Ok None) = refl
visit-word (Err q) = refl

freed-word : (a : Result Collection Refusal) (ws : List ℕ) → freed_word a ≡ word_shown (collection_is a ws)
unfolding freed_word shown_of with_lent answer_shown reply_shown collection_is
freed-word (Ok c) ws = refl
freed-word (Err q) ws = refl

-- the buffers are as long as they were
pub record Sizes (b a : State) : Type 0 where
  pub slots : length a.slots ≡ length b.slots
  pub scalars : length a.scalars ≡ length b.scalars
  pub directory : length a.directory ≡ length b.directory
  pub cells : length a.cells ≡ length b.cells

pub same_sizes : (b : State) → Sizes b b
same_sizes b = record { slots = refl; scalars = refl; directory = refl; cells = refl }

none_yet : (t : ℕ) → 0 + t ≡ t
none_yet t = omega arith

one_more : (s w t : ℕ) → ((s + w) % 18446744073709551616 + t) % 18446744073709551616 ≡ (s + (w + t)) % 18446744073709551616
one_more s w t = omega arith

module _ (k : ℕ → Call) (n : ℕ) (b : State) where
  -- i of the n calls made, the state is a
  pub record Running (i : ℕ) (a : State) : Type 0 where
    pub good : Good a
    pub sizes : Sizes b a
    pub within : i ≤ n
    pub left : (l : Layout) → run (model_of l a) (calls k i (n - i)) ≡ run (model_of l b) (calls k 0 n)

  -- and s is the sum of the words that they answered
  pub record Summing (i : ℕ) (a : State) (s : ℕ) : Type 0 where
    pub running : Running i a
    pub small : s < 18446744073709551616
    pub sum : (l : Layout) → (s + total (words (model_of l a) (calls k i (n - i)))) % 18446744073709551616 ≡ total (words (model_of l b) (calls k 0 n)) % 18446744073709551616

  -- and those words are in the first places
  pub record Filling (i : ℕ) (a : State) (out : List ℕ) : Type 0 where
    pub running : Running i a
    pub long : length out ≡ n
    pub filled : (l : Layout) → take i out ++ words (model_of l a) (calls k i (n - i)) ≡ words (model_of l b) (calls k 0 n)

  whole : calls k 0 (n - 0) ≡ calls k 0 n
  whole = ap (calls k 0) (let z : n - 0 ≡ n = omega arith in z)

  module _ (h : Heap) (e : h ≡ b.heap) (G : Good b) where
    pub run-start : Running 0 (with_heap b h)
    run-start = rw e (record { good = G; sizes = record { slots = refl; scalars = refl; directory = refl; cells = refl }; within = omega arith; left = λ l. ap (run (model_of l b)) whole })

    pub sum-start : Summing 0 (with_heap b h) 0
    sum-start = record {
      running = run-start;
      small = omega arith;
      sum = λ l. rw e (ap (λ (x : ℕ). x % 18446744073709551616) (none_yet (total (words (model_of l b) (calls k 0 (n - 0)))) ∙ ap (λ (cs : List Call). total (words (model_of l b) cs)) whole));
    }

    pub fill_start : (out : List ℕ) → length out ≡ n → Filling 0 (with_heap b h) out
    fill_start out m = record { running = run-start; long = m; filled = λ l. rw e (ap (words (model_of l b)) whole) }

  module _ (i : ℕ) (a : State) (o : Seen) (a' : State) (lt : i < n) (S : Sizes a a') (D : Performs (k i) a o a') where
    rest : calls k i (n - i) ≡ k i ∷ calls k (i + 1) (n - (i + 1))
    unfolding calls
    rest = ap (calls k i) (let z : n - i ≡ suc (n - (i + 1)) = omega arith in z)

    run-rest : (l : Layout) → run (model_of l a) (calls k i (n - i)) ≡ run (model_of l a') (calls k (i + 1) (n - (i + 1)))
    unfolding run
    run-rest l = ap (run (model_of l a)) rest ∙ ap (λ (m : Model). run m (calls k (i + 1) (n - (i + 1)))) (sym (D l).next)

    words-rest : (l : Layout) → words (model_of l a) (calls k i (n - i)) ≡ word_shown o ∷ words (model_of l a') (calls k (i + 1) (n - (i + 1)))
    unfolding seen_all
    words-rest l =
        ap (words (model_of l a)) rest
        ∙ ap (λ (x : Seen). word_shown x ∷ words (step (model_of l a) (k i)).next (calls k (i + 1) (n - (i + 1)))) (sym (D l).shows)
        ∙ ap (λ (m : Model). word_shown o ∷ words m (calls k (i + 1) (n - (i + 1)))) (sym (D l).next)

    pub run_turn : Running i a → Running (i + 1) a'
    run_turn R = record {
      good = (D record { structs = []; functions = [] }).good;
      sizes = record { slots = S.slots ∙ R.sizes.slots; scalars = S.scalars ∙ R.sizes.scalars; directory = S.directory ∙ R.sizes.directory; cells = S.cells ∙ R.sizes.cells };
      within = omega arith;
      left = λ l. sym (run-rest l) ∙ R.left l;
    }

    pub sum_turn : (s w : ℕ) → w ≡ word_shown o → Summing i a s → Summing (i + 1) a' ((s + w) % 18446744073709551616)
    unfolding total
    sum_turn s w e R = record {
      running = run_turn R.running;
      small = omega arith;
      sum = λ l.
          one_more s w (total (words (model_of l a') (calls k (i + 1) (n - (i + 1)))))
          ∙ ap (λ (x : ℕ). (s + (x + total (words (model_of l a') (calls k (i + 1) (n - (i + 1)))))) % 18446744073709551616) e
          ∙ ap (λ (ws : List ℕ). (s + total ws) % 18446744073709551616) (sym (words-rest l))
          ∙ R.sum l;
    }

    pub fill_turn : (out : List ℕ) (w : ℕ) → w ≡ word_shown o → Filling i a out → Filling (i + 1) a' (set out i w)
    fill_turn out w e R =
        let long = R.long in
        record {
          running = run_turn R.running;
          long = length-set out i w ∙ long;
          filled = λ l.
              let rest = words (model_of l a') (calls k (i + 1) (n - (i + 1))) in
              ap (λ (j : ℕ). take j (set out i w) ++ rest) (add-one i)
              ∙ ap (λ (ws : List ℕ). ws ++ rest) (take-suc-set out i w (omega (arith, long)))
              ∙ append_snoc (take i out) w rest
              ∙ ap (λ (x : ℕ). take i out ++ x ∷ rest) e
              ∙ ap (λ (ws : List ℕ). take i out ++ ws) (sym (words-rest l))
              ∙ R.filled l;
        }

  module _ (i : ℕ) (a : State) (ge : n ≤ i) where
    over : i ≤ n → calls k i (n - i) ≡ []
    unfolding calls
    over le = ap (calls k i) (let z : n - i ≡ 0 = omega arith in z)

    pub run_end : Running i a → (h : Heap) → h ≡ a.heap → Ran k n b (with_heap a h)
    unfolding run
    run_end R h e = rw e (record { next = λ l. ap (run (model_of l a)) (sym (over R.within)) ∙ R.left l; good = R.good })

    pub sum-end : (s : ℕ) → Summing i a s → Summed k n b s
    unfolding total seen_all
    sum-end s R l =
        let small = R.small in
        let gone : total (words (model_of l a) (calls k i (n - i))) ≡ 0 = ap (λ (cs : List Call). total (words (model_of l a) cs)) (over R.running.within) in
        (let z : s ≡ (s + total (words (model_of l a) (calls k i (n - i)))) % 18446744073709551616 = omega (arith, gone, small) in z) ∙ R.sum l

    pub fill_end : (out : List ℕ) → Filling i a out → Filled k b out
    unfolding seen_all
    fill_end out R l =
        let long = R.long in
        sym (take_all i out (omega (arith, long)))
        ∙ sym (append-nil (take i out))
        ∙ ap (λ (cs : List Call). take i out ++ words (model_of l a) cs) (sym (over R.running.within))
        ∙ R.filled l
        ∙ ap (λ (m : ℕ). words (model_of l b) (calls k 0 m)) (sym long)

-- the same calls
module _ {k k' : ℕ → Call} (e : k ≡ k') where
  pub ran_same : {n : ℕ} {b a : State} → Ran k n b a → Ran k' n b a
  ran_same {n = n} {b = b} {a = a} R = subst (λ (x : ℕ → Call). Ran x n b a) e R

  pub filled-same : (b : State) {out : List ℕ} → Filled k b out → Filled k' b out
  filled-same b {out = out} F = subst (λ (x : ℕ → Call). Filled x b out) e F

-- a collection
lent_is : (x : Result Collection Refusal) (ws : List ℕ) → list ws ≡ (collection_is x ws).lent
unfolding collection_is
lent_is (Ok c) ws = refl
lent_is (Err q) ws = refl

pub collects : (l : Layout) (roots places : List ℕ) (b a : State) (h : Heap) (x : Result Collection Refusal) (ws : List ℕ) → h ≡ b.heap → Does l (collect roots places) (with_heap b h) (collection_is x ws) a
    → (r : ℕ) → r ≡ freed_word x → (h' : Heap) → h' ≡ a.heap → Collects l roots places b r ws (with_heap a h')
unfolding seen
collects l roots places b a h x ws e D r f h' g =
    let D' : Does l (collect roots places) b (collection_is x ws) a = subst (λ (y : Heap). Does l (collect roots places) (with_heap b y) (collection_is x ws) a) e D in
    rw g (record { freed = f ∙ freed-word x ws ∙ ap word_shown D'.shows; lent = lent_is x ws ∙ ap (λ (y : Seen). y.lent) D'.shows; next = D'.next; good = D'.good })

pub collect_asks : {h : Heap} {b : State} {layout table marks order : List ℕ} → h ≡ b.heap → Good b → Tabled layout table → Rested b.heap.size marks order
    → Good (with_heap b h) × (Tabled layout table × Rested h.size marks order)
collect_asks {h = h} {b = b} e G T R = rw e (G, (T, R))
