use Rattle.map_store.proofs.Calls.{read_in, read_out}
use Rattle.map_store.specs.View.{entry_at}
use Rattle.map_store.proofs.reading.Map.entry.Goals as goal

pub returns-then-pos-self : goal.returns-then-pos-self
unfolding entry_at
returns-then-pos-self c = rw c.read_entry.ensures (read_in c.args.self.now.store _ _ c.if-pos-self.true)

pub returns-else-pos-self : goal.returns-else-pos-self
returns-else-pos-self c = read_out c.args.self.now.store _ _ c.if-pos-self.false
