-- What the answers of these calls mean, beside those of crate heap.
use Rattle.heap.specs.declared.Refusal.{Refusal}
use Rattle.std.specs.Prelude.{ℕ, List, Result, Ok, Err}
use Rattle.model.specs.declared.Frame.{Frame}
use Rattle.model.specs.Replies.{reply, number, nothing, frame_is, list}
use Rattle.history.proofs.Lift.{Seen}
use Rattle.heap.specs.Answers.{number_of, seen_by}

-- a reading into a lent buffer, which holds bs afterwards
unfoldable pub lent_reading : Result ℕ Refusal → List ℕ → Seen
lent_reading (Ok n) bs = record { refusal = 0; answer = reply (number n); lent = list bs }
lent_reading (Err q) bs = record { refusal = number_of q; answer = reply nothing; lent = list bs }

-- function, counter, base, closure
abbrev pub frame_seen : Result Frame Refusal → Seen
frame_seen = seen_by (λ f. reply (frame_is f))
