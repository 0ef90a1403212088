use Rattle.std.proofs.Common.{rules, ap, ◌∙◌, to_z-of_z, SFits, w64}
use Rattle.map_store.specs.Store as S
use Rattle.map_store.proofs.Calls.{next_key}
use Rattle.map_store.proofs.MapStore.next_int.Goals as goal

pub returns-in-Some : goal.returns-in-Some
unfolding S.next_key_of
returns-in-Some c = λ cells. let fit : SFits w64 c.in-Some.k = search rules in rw c.in-Some.is (next_key _ fit _ (rw (to_z-of_z fit) at c.checked_add.ensures))

pub returns-in-None : goal.returns-in-None
unfolding S.next_key_of
returns-in-None c = λ cells. rw c.in-None.is
