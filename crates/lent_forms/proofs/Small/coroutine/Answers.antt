use Rattle.lent_forms.proofs.Laws.{performs_good}
use Rattle.lent_forms.proofs.Small.coroutine.Goals as goal

pub frames-requires : goal.frames-requires
frames-requires g c = performs_good c.made_from.ensures

pub returns-in-Err : goal.returns-in-Err
returns-in-Err g c = performs_good c.made_from.ensures

pub returns-in-Ok : goal.returns-in-Ok
returns-in-Ok g c = performs_good c.made_from.ensures
