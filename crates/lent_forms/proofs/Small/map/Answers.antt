use Rattle.lent_forms.proofs.Laws.{performs_good}
use Rattle.lent_forms.proofs.Small.map.Goals as goal

pub filled-requires : goal.filled-requires
filled-requires g c = performs_good c.new_map-made.ensures
