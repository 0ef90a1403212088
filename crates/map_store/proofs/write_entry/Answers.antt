use Rattle.std.proofs.Common.{true, false, ap, ◌∙◌, set}
use Rattle.map_store.specs.Map.{written}
use Rattle.map_store.proofs.Steps.{one_byte}
use Rattle.map_store.proofs.write_entry.Goals as goal

pub returns : goal.returns
unfolding written
returns c = rw (c.from.ensures, one_byte c.args.entry.live)
