-- What is shown of a call. Assumes nothing.
use Prim.Native.Nat.{ℕ}
use mathlib.Core.Path.{◌≡◌, refl, ap, ◌∙◌}
use Rattle.layout.specs.Layout.{Layout}
use Rattle.words.specs.declared.Raw.{Raw}
use Rattle.words.specs.declared.Raw.TheVariants as R
use Rattle.std.specs.Prelude.{Option, Some, None}
use Rattle.history.proofs.Lift.{Seen}
use Rattle.model.specs.Calls.{Call}
use Rattle.model.specs.Replies.{Reply, nothing, number, signed, truth, perhaps, next_integer, noted, entry_is, frame_is, map_cursor, array_cursor, inline, raw, collected, Answer, reference_made, reply, Lent, no_memory, list, cursor_at}
use Rattle.heap.specs.State.{State}
use Rattle.heap.specs.Promise.{Performs}
use Rattle.answers.specs.declared.Shown.{Shown}
use Rattle.answers.specs.Shows.{answer_shown, inline_shown, raw_shown, reply_shown, shown_of, with_lent}
use Rattle.answers.specs.Promise.{ShowsCall}

-- ---- the number of the refusal is shown

inline-refusal : (q : ℕ) (i : Option ℕ) → (inline_shown q i).refusal ≡ q
unfolding inline_shown
inline-refusal q (Some w) = refl
inline-refusal q None = refl

raw-refusal : (q : ℕ) (r : Raw) → (raw_shown q r).refusal ≡ q
unfolding raw_shown
raw-refusal q R.Nil = refl
raw-refusal q (R.Bool b) = refl
raw-refusal q (R.Int z) = refl
raw-refusal q (R.Float x) = refl
raw-refusal q (R.Char k) = refl
raw-refusal q (R.Ref s t) = refl

reply-refusal : (q : ℕ) (r : Reply) → (reply_shown q r).refusal ≡ q
unfolding reply_shown
reply-refusal q nothing = refl
reply-refusal q (number n) = refl
reply-refusal q (signed z) = refl
reply-refusal q (truth b) = refl
reply-refusal q (perhaps o) = refl
reply-refusal q (next_integer k) = refl
reply-refusal q (noted k) = refl
reply-refusal q (entry_is e) = refl
reply-refusal q (frame_is f) = refl
reply-refusal q (map_cursor c) = refl
reply-refusal q (array_cursor n) = refl
reply-refusal q (inline i) = inline-refusal q i
reply-refusal q (raw r) = raw-refusal q r
reply-refusal q (collected freed listed) = refl

answer-refusal : (q : ℕ) (a : Answer) → (answer_shown q a).refusal ≡ q
unfolding answer_shown
answer-refusal q (reference_made w) = refl
answer-refusal q (reply r) = reply-refusal q r

lent-refusal : (m : Lent) (s : Shown) → (with_lent m s).refusal ≡ s.refusal
unfolding with_lent
lent-refusal no_memory s = refl
lent-refusal (list ws) s = refl
lent-refusal (cursor_at c) s = refl

pub shown-refusal : (o : Seen) → (shown_of o).refusal ≡ o.refusal
unfolding shown_of
shown-refusal o = lent-refusal o.lent _ ∙ answer-refusal o.refusal o.answer

-- ---- a call that was performed

module _ {k : Call} {b : State} {o : Seen} {a : State} {s : Shown} (p : Performs k b o a) (e : s ≡ shown_of o) where
  pub shows_performed : (l : Layout) → ShowsCall l k b s a
  shows_performed l = record {
    shown = e ∙ ap shown_of (p l).shows;
    next = (p l).next;
    good = (p l).good;
    kept = λ n. (p l).kept (λ z. n (ap (λ (x : Shown). x.refusal) e ∙ shown-refusal o ∙ z));
  }
