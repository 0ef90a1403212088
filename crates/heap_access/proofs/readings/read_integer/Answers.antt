use mathlib.Core.Path.{ap, ◌∙◌}
use mir.Facts.{to_z-of_z}
use mir.Syntax.{w64}
use lib.IntN.{ℤ}
use Rattle.model.specs.Replies.{reply, signed}
use Rattle.heap_access.proofs.ReadingLaws.{passed_on, shown_ok}
use Rattle.heap_access.proofs.ReadCalls.{integer_read}
use Rattle.heap_access.proofs.readings.read_integer.Goals as goal

pub returns-in_err-read_header_of : goal.returns-in_err-read_header_of
returns-in_err-read_header_of c = passed_on _ _ (integer_read c.args.view.now.good c.read_header_of.ensures) _ c.in_err-read_header_of.was c.from_residual.ensures.1

pub returns : goal.returns
returns c = shown_ok _ _ (integer_read c.args.view.now.good c.read_header_of.ensures) c.in_ok-read_header_of.was (ap (λ (z : ℤ). reply (signed z)) (to_z-of_z {w = w64} (record { sfits = c.signed_of.type_inv }) ∙ c.signed_of.ensures))
