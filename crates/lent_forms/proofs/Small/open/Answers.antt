use Rattle.lent_forms.proofs.Laws.{opened_good}
use Rattle.lent_forms.proofs.Small.«open».Goals as goal

pub returns : goal.returns
returns c = opened_good c.«open».ensures c.in_ok-heap.was
