use Rattle.std.proofs.Common.{ap, refl, ℕ}
use Rattle.model.specs.Calls.{read_box}
use Rattle.sheet.proofs.ShownLaws.{shows-reading, shows_same}
use Rattle.sheet.proofs.state.Sheet.call_read.Goals as goal

pub returns : goal.returns
returns c = shows_same (ap (λ (w : ℕ). read_box w) c.read_little.ensures.is) (shows-reading refl refl c.read_box.ensures)
