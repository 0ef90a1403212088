use Rattle.std.proofs.Common.{◌∙◌}
use Rattle.map_store.specs.RoomLaws.{index_for_is}
use Rattle.map_store.proofs.index_for.Goals as goal

pub returns : goal.returns
returns c = c.max.ensures ∙ index_for_is _ _ c.next_power_of_two.ensures.power c.next_power_of_two.ensures.lower_bound c.next_power_of_two.ensures.upper_bound
