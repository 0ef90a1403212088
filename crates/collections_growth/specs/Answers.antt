-- What a position, an item or a key means as an answer: the model's answer, or document 01's number of a refusal.
use Rattle.std.specs.Prelude.{ℕ, Option, Result}
use Rattle.model.specs.Replies.{perhaps, reply}
use Rattle.map_store.specs.View.{position}
use Rattle.history.proofs.Lift.{Seen}
use Rattle.heap.specs.Answers.{seen_by}
use Rattle.heap.specs.declared.Refusal.{Refusal}

-- a position, an item or a key; or absent, ended, none yet
abbrev pub perhaps_is : Result (Option ℕ) Refusal → Seen
perhaps_is = seen_by (λ o. reply (perhaps (position o)))
