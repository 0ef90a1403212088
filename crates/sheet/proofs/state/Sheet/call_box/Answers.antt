use Rattle.std.proofs.Common.{ap, refl, ℕ}
use Rattle.model.specs.Calls.{new_box}
use Rattle.sheet.proofs.ShownLaws.{shows-made, shows_same, whole_performed}
use Rattle.sheet.proofs.state.Sheet.call_box.Goals as goal

pub invariant_of-self : goal.invariant_of-self
invariant_of-self c = record { whole = whole_performed c.args.self.now.whole refl refl c.new_box.ensures }

pub returns : goal.returns
returns c = shows_same (ap (λ (w : ℕ). new_box w) c.read_little-w.ensures.is) (shows-made refl refl c.new_box.ensures)
