use mir.Facts.{to_z-of_z}
use mir.Syntax.{w64}
use lib.IntN.{ℤ}
use Rattle.std.proofs.Common.{ap, refl, ℕ, ◌∙◌, get_or}
use Rattle.map_store.specs.Store.{signed64}
use Rattle.model.specs.Calls.{new_array}
use Rattle.sheet.proofs.ShownLaws.{shows-made, shows_same, signed_same, whole_performed}
use Rattle.sheet.proofs.state.Sheet.call_array.Goals as goal

pub invariant_of-self : goal.invariant_of-self
invariant_of-self c = record { whole = whole_performed c.args.self.now.whole refl refl c.new_array.ensures }

pub returns : goal.returns
returns c =
    shows_same
    (ap (λ (z : ℤ). new_array (get_or c.args.operands.now 0 0) z) (to_z-of_z {w = w64} (record { sfits = c.signed_of-n.type_inv }) ∙ c.signed_of-n.ensures ∙ signed_same c.read_little.result ∙ ap (λ (w : ℕ). signed64 w) c.read_little.ensures.is))
    (shows-made refl refl (rw c.from.ensures at c.new_array.ensures))
