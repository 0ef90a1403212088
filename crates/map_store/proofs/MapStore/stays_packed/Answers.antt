use Rattle.map_store.proofs.Calls.{place-is}
use Rattle.map_store.specs.Store as S
use Rattle.map_store.proofs.MapStore.stays_packed.Goals.{then-self-via-then-self, then-self-via-else-self+then-traced}
use Rattle.map_store.proofs.MapStore.stays_packed.Goals as goal

pub returns-then-self : goal.returns-then-self
unfolding S.int_key S.is_place
returns-then-self c =
    elim c.then-self.branch [
      | then-self-via-then-self w ↦ rw w.if-self.true
      | then-self-via-else-self+then-traced w ↦ rw (w.if-self.false, w.if-traced.true)
    ]

pub returns : goal.returns
returns c = rw (c.if-self.false, c.if-traced.false) (place-is _ _ c.requires)
