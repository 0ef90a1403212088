-- What an iterator's cursor means as an answer.
use Rattle.std.specs.Prelude.{Result}
use Rattle.model.specs.Replies.{Answer, array_cursor, map_cursor, reply}
use Rattle.map_store.specs.View.{cursor_is}
use Rattle.history.proofs.Lift.{Seen}
use Rattle.heap.specs.Answers.{seen_by}
use Rattle.heap.specs.declared.Refusal.{Refusal}
use Rattle.collections_iterators.specs.declared.CursorAt.{CursorAt}
use Rattle.collections_iterators.specs.declared.CursorAt.TheVariants as C

-- over an array its index, over a map last or nothing yielded, position, epoch
unfoldable pub cursor_answer : CursorAt → Answer
cursor_answer (C.Index p) = reply (array_cursor p)
cursor_answer (C.Map c) = reply (map_cursor (cursor_is c))

-- an iterator's cursor
abbrev pub cursor_seen : Result CursorAt Refusal → Seen
cursor_seen = seen_by cursor_answer
