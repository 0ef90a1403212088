use Rattle.std.proofs.Common.{◌-◌, ◌+◌, arith}
use Rattle.map_store.proofs.Steps.{lifted}
use Rattle.map_store.proofs.Changes.{settled_none, settle_able, settle_moved, settled_made}
use Rattle.map_store.proofs.MapStore.settle.Goals.{then-room-ne0, then-self+then-room-self, else-self, else-room-ne0}
use Rattle.map_store.proofs.MapStore.settle.Goals as goal

pub returns : goal.returns
returns c =
    let G = c.requires.good in
    let F = c.requires.fitting in
    elim c.if-room-ne0.branch [
      | then-room-ne0 w ↦
          elim w.if-self.branch [
            | then-self+then-room-self v ↦
                (let T = lifted _ _ _ _ _ _ v.copy_within.ensures.len (omega arith) v.copy_within.ensures.by_index in
                rw (w.self-is, w.cells-is, v.cells-is) (settled_made _ _ _ _ G F w.if-room-ne0.true _ (settle_moved _ _ _ _ G F w.if-room-ne0.true v.if-self.true v.if-room-self.true _ T)))
            | else-self v ↦ rw (w.self-is, w.cells-is, v.cells-is) (settled_made _ _ _ _ G F w.if-room-ne0.true _ v.rebuild.ensures)
          ]
      | else-room-ne0 w ↦ rw (w.self-is, w.cells-is) (settled_none _ _ _ _ G F w.if-room-ne0.false)
    ]
