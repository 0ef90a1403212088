-- What a collection's answer means.
use Rattle.std.specs.Prelude.{ℕ, List, Result, Ok, Err}
use Rattle.model.specs.Replies.{collected, list, nothing, reply}
use Rattle.history.proofs.Lift.{Seen}
use Rattle.heap.specs.Answers.{number_of}
use Rattle.heap.specs.declared.Refusal.{Refusal}
use Rattle.collector.specs.declared.Collection.{Collection}

-- objects freed, coroutines listed, or the refusal; the lent list, as the call left it
unfoldable pub collection_is : Result Collection Refusal → List ℕ → Seen
collection_is (Ok c) places = record { refusal = 0; answer = reply (collected c.freed c.listed); lent = list places }
collection_is (Err q) places = record { refusal = number_of q; answer = reply nothing; lent = list places }
