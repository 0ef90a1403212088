use Rattle.lent_forms.proofs.Laws.{performs_good}
use Rattle.lent_forms.proofs.Small.put.Goals as goal

pub returns-in-Err : goal.returns-in-Err
returns-in-Err g c = performs_good c.put-done.ensures

pub returns-in-Ok : goal.returns-in-Ok
returns-in-Ok g c = performs_good c.put-done.ensures
