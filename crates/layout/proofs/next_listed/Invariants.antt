use Rattle.std.proofs.Common.{length}
use Rattle.layout.proofs.Listing.{Listing}
use Rattle.layout.proofs.next_listed.Given as goal

abbrev pub invariant-loop-command : goal.invariant-loop-command
invariant-loop-command l = Listing l.bytes l.at l.entry l.rest

abbrev pub decreases-loop-command : goal.decreases-loop-command
decreases-loop-command l = length l.rest
