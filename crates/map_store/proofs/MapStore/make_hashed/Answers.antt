use Rattle.map_store.proofs.Calls2.{hashed_already, hashed_fitting, hashed-became}
use Rattle.map_store.proofs.MapStore.make_hashed.Goals as goal

pub settle-requires-clause-fitting : goal.settle-requires-clause-fitting
settle-requires-clause-fitting c = hashed_fitting _ _ c.requires.good _ _ c.room_after_remove-room.ensures c.requires.room

pub returns-then-not-self : goal.returns-then-not-self
returns-then-not-self c = hashed-became _ _ c.requires.good _ _ c.room_after_remove-room.ensures _ _ c.settle.ensures

pub returns-else-not-self : goal.returns-else-not-self
returns-else-not-self c = hashed_already _ _ c.requires.good c.if-not-self.false
