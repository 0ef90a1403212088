-- What the functions promise of a reading, from what its call promises. Assumes nothing.
use Rattle.std.proofs.Common.{Option, Some}
use Prim.Native.Nat.{ℕ}
use mathlib.Core.Path.{◌≡◌, refl, ap}
use mathlib.Core.Bool.{Bool}
use mathlib.Core.List.{[]}
use lib.IntN.{ℤ}
use lib.Ieee.{Float}
use Rattle.layout.specs.Layout.{Layout}
use Rattle.words.specs.Word as Words
use Rattle.words.specs.declared.Raw.{Raw}
use Rattle.model.specs.Calls.{Call, char_word, effect, float_word, integer_word, read_word, reference_word, same, same_words, truth_word}
use Rattle.model.specs.Model.{view_of}
use Rattle.model.specs.Terms.{terms, uncharged}
use Rattle.model.specs.Replies.{Reply, inline, number, raw, truth}
use Rattle.heap.specs.Answers.{answered}
use Rattle.heap.specs.State.{State, model_of}
use Rattle.heap.specs.Good.{Good}
use Rattle.heap.proofs.CallLaws.{reads_so}
use Rattle.answers.specs.declared.Shown.{Shown}
use Rattle.answers.specs.Shows.{shown_of}
use Rattle.commands.specs.Rows.{Act, make}
use Rattle.commands.specs.Promise.{ReadBy}
use Rattle.commands.proofs.ActLaws.{read_known}

-- ---- words: whatever the heap is

word_so : (k : Call) {a b : Reply} {x : Act} {s : Shown} → ((l : Layout) (t : State) → effect (view_of (model_of l t)) k ≡ same) → ((l : Layout) (t : State) → terms (model_of l t) k ≡ uncharged [] a) →
    b ≡ a → s ≡ shown_of (answered b) → x ≡ make k → (t : State) → Good t → ReadBy t x (Some s)
word_so k e h b p q t g = read_known (reads_so k g (λ l. e l t) (λ l. h l t)) (rw b at p) q

module _ {x : Act} {s : Shown} where
  pub truth_read : (b : Bool) {w : ℕ} → w ≡ Words.word_of_bool b → s ≡ shown_of (answered (number w)) → x ≡ make (truth_word b) → (t : State) → Good t → ReadBy t x (Some s)
  unfolding terms effect
  truth_read b e p q = word_so (truth_word b) (λ l t. refl) (λ l t. refl) (ap (λ (v : ℕ). number v) e) p q

  pub char_read : (n : ℕ) {w : ℕ} → w ≡ Words.word_of_char n → s ≡ shown_of (answered (number w)) → x ≡ make (char_word n) → (t : State) → Good t → ReadBy t x (Some s)
  unfolding terms effect
  char_read n e p q = word_so (char_word n) (λ l t. refl) (λ l t. refl) (ap (λ (v : ℕ). number v) e) p q

  pub float_read : (f : Float) {w : ℕ} → w ≡ Words.word_of_float f → s ≡ shown_of (answered (number w)) → x ≡ make (float_word f) → (t : State) → Good t → ReadBy t x (Some s)
  unfolding terms effect
  float_read f e p q = word_so (float_word f) (λ l t. refl) (λ l t. refl) (ap (λ (v : ℕ). number v) e) p q

  pub integer_read : (z : ℤ) {w : Option ℕ} → w ≡ Words.word_of_int z → s ≡ shown_of (answered (inline w)) → x ≡ make (integer_word z) → (t : State) → Good t → ReadBy t x (Some s)
  unfolding terms effect
  integer_read z e p q = word_so (integer_word z) (λ l t. refl) (λ l t. refl) (ap (λ (v : Option ℕ). inline v) e) p q

  pub reference_read : (i t : ℕ) {w : ℕ} → w ≡ Words.word_of_ref i t → s ≡ shown_of (answered (number w)) → x ≡ make (reference_word i t) → (t : State) → Good t → ReadBy t x (Some s)
  unfolding terms effect
  reference_read i t e p q = word_so (reference_word i t) (λ l t. refl) (λ l t. refl) (ap (λ (v : ℕ). number v) e) p q

  pub read_read : (v : ℕ) {w : Raw} → w ≡ Words.decode_word v → s ≡ shown_of (answered (raw w)) → x ≡ make (read_word v) → (t : State) → Good t → ReadBy t x (Some s)
  unfolding terms effect
  read_read v e p q = word_so (read_word v) (λ l t. refl) (λ l t. refl) (ap (λ (v : Raw). raw v) e) p q

  pub same_read : (a b : ℕ) {w : Bool} → w ≡ Words.are_same_words a b → s ≡ shown_of (answered (truth w)) → x ≡ make (same_words a b) → (t : State) → Good t → ReadBy t x (Some s)
  unfolding terms effect
  same_read a b e p q = word_so (same_words a b) (λ l t. refl) (λ l t. refl) (ap (λ (v : Bool). truth v) e) p q
