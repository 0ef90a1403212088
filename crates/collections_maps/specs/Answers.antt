-- What the answers of these calls mean, beside those of crates heap and collections_growth: document 01's number of a refusal, and the answer of the model.
use Rattle.std.specs.Prelude.{ℤ, ℕ, Option, Result, Ok, Err}
use Rattle.model.specs.Replies.{cursor_at, entry_is, next_integer, noted, nothing, perhaps, reply}
use Rattle.map_store.specs.Store.{Cursor}
use Rattle.map_store.specs.View.{cursor_is, next_is, noted_of, position, stored_entry}
use Rattle.map_store.specs.declared.Stepped.{Stepped}
use Rattle.map_store.specs.declared.Stored.{Stored}
use Rattle.history.proofs.Lift.{Seen}
use Rattle.heap.specs.Answers.{number_of, seen_by}
use Rattle.heap.specs.declared.Refusal.{Refusal}
use Rattle.collections_growth.specs.Answers.{perhaps_is}

-- the greatest noted key, or none
abbrev pub noted_seen : Result (Option ℤ) Refusal → Seen
noted_seen = seen_by (λ k. reply (noted (noted_of k)))

-- the next integer key, or "past"
abbrev pub next_seen : Result (Option ℤ) Refusal → Seen
next_seen = seen_by (λ k. reply (next_integer (next_is k)))

-- hash, key, value, sequence number, live
abbrev pub entry_seen : Result Stored Refusal → Seen
entry_seen = seen_by (λ e. reply (entry_is (stored_entry e)))

-- a step of the cursor c: the position or the end, and the cursor afterwards; a refusal leaves it
unfoldable pub step_seen : Cursor → Result Stepped Refusal → Seen
step_seen c (Ok s) = record { refusal = 0; answer = reply (perhaps (position s.found)); lent = cursor_at (cursor_is s.cursor) }
step_seen c (Err q) = record { refusal = number_of q; answer = reply nothing; lent = cursor_at c }

-- `next`: the answer, with the cursor c in the lent place
unfoldable pub lent_seen : Cursor → Result (Option ℕ) Refusal → Seen
lent_seen c r = record { refusal = (perhaps_is r).refusal; answer = (perhaps_is r).answer; lent = cursor_at c }
