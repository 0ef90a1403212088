use Rattle.map_store.proofs.Calls.{value_in, value_out}
use Rattle.map_store.proofs.MapStore.set_value.Goals as goal

pub returns-then-pos-self : goal.returns-then-pos-self
returns-then-pos-self c = value_in _ _ _ _ c.requires c.if-pos-self.true

pub returns-else-pos-self : goal.returns-else-pos-self
returns-else-pos-self c = value_out _ _ _ _ c.requires c.if-pos-self.false
