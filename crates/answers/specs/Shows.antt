-- What a call shows, as words: the number of the refusal or 0, the word answered, and what is answered beside it.
use Rattle.std.specs.Prelude
use Rattle.std.specs.Prelude.{ℕ, ◌+◌, ◌*◌, Bool, true, false, ℤ, Some, None}
use Rattle.std.proofs.Math.Option.{Option, none, some}
use Rattle.std.specs.Float.Ieee as Ieee
use Rattle.std.specs.Float.{binary64}
use Rattle.words.specs.Word as Words
use Rattle.words.specs.Word.{bits_of_signed}
use Rattle.words.specs.declared.Raw.{Raw}
use Rattle.model.specs.Replies.{Reply, nothing, number, signed, truth, perhaps, next_integer, noted, entry_is, frame_is, map_cursor, array_cursor, inline, raw, collected, Answer, reference_made, reply, Lent, no_memory, list, cursor_at}
use Rattle.history.proofs.Lift.{Seen}
use Rattle.answers.specs.declared.Shown.{Shown}

unfoldable pub bit : Bool → ℕ
bit true = 1
bit false = 0

-- refusal, word, and four more
abbrev pub shows : ℕ → ℕ → ℕ → ℕ → ℕ → ℕ → Shown
shows q w x y z u = record { refusal = q; word = w; x = x; y = y; z = z; u = u; v = 0 }

unfoldable pub yielded : Option ℕ → ℕ
yielded none = 0
yielded (some n) = 1

unfoldable pub or_zero : Option ℕ → ℕ
or_zero none = 0
or_zero (some n) = n

unfoldable pub key_bits : Option ℤ → ℕ
key_bits none = 0
key_bits (some z) = bits_of_signed z

unfoldable pub is_key : Option ℤ → ℕ
is_key none = 0
is_key (some z) = 1

unfoldable pub is_past : Option ℤ → ℕ
is_past none = 1
is_past (some z) = 0

unfoldable pub inline_shown : ℕ → Prelude.Option ℕ → Shown
inline_shown q (Some w) = shows q w 1 0 0 0
inline_shown q None = shows q 0 0 0 0 0

-- a word read: its value, and 0 nil, 1 truth, 2 integer, 3 float, 4 character, 5 reference
unfoldable pub raw_shown : ℕ → Raw → Shown
raw_shown q r = Words.by_kind (shows q 0 0 0 0 0) (λ b. shows q (bit b) 1 0 0 0) (λ z. shows q (bits_of_signed z) 2 0 0 0) (λ x. shows q (Ieee.to_bits binary64 x) 3 0 0 0) (λ k. shows q k 4 0 0 0) (λ s t. shows q (t * 4294967296 + s) 5 0 0 0) r

unfoldable pub reply_shown : ℕ → Reply → Shown
reply_shown q nothing = shows q 0 0 0 0 0
reply_shown q (number n) = shows q n 0 0 0 0
reply_shown q (signed z) = shows q (bits_of_signed z) 0 0 0 0
reply_shown q (truth b) = shows q (bit b) 0 0 0 0
reply_shown q (perhaps o) = shows q (or_zero o) (yielded o) 0 0 0
reply_shown q (next_integer k) = shows q (key_bits k) (is_past k) 0 0 0
reply_shown q (noted k) = shows q (key_bits k) (is_key k) 0 0 0
reply_shown q (entry_is e) = shows q e.value e.hash e.key e.seq (bit e.live)
reply_shown q (frame_is f) = shows q f.function f.counter f.base f.closure 0
reply_shown q (map_cursor c) = shows q c.pos 7 (yielded c.last) (or_zero c.last) c.epoch
reply_shown q (array_cursor n) = shows q n 6 0 0 0
reply_shown q (inline i) = inline_shown q i
reply_shown q (raw r) = raw_shown q r
reply_shown q (collected freed listed) = shows q freed listed 0 0 0

unfoldable pub answer_shown : ℕ → Answer → Shown
answer_shown q (reference_made w) = shows q w 0 0 0 0
answer_shown q (reply r) = reply_shown q r

-- a lent cursor as the call left it: yielded yet, last sequence number, position, epoch
unfoldable pub with_lent : Lent → Shown → Shown
with_lent no_memory s = s
with_lent (list ws) s = s
with_lent (cursor_at c) s = record { refusal = s.refusal; word = s.word; x = s.x; y = yielded c.last; z = or_zero c.last; u = c.pos; v = c.epoch }

unfoldable pub shown_of : Seen → Shown
shown_of o = with_lent o.lent (answer_shown o.refusal o.answer)

-- with another call's word beside the answer
abbrev pub with_second : ℕ → Shown → Shown
with_second x s = record { refusal = s.refusal; word = s.word; x = x; y = s.y; z = s.z; u = s.u; v = s.v }
