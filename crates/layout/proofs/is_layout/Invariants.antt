use Rattle.std.proofs.Common.{length}
use Rattle.layout.proofs.Checking.{Checking, begun}
use Rattle.layout.proofs.is_layout.Given as goal

abbrev pub invariant-loop-command : goal.invariant-loop-command
invariant-loop-command l = Checking l.bytes (begun l.under) l.structs l.functions l.rest

abbrev pub decreases-loop-command : goal.decreases-loop-command
decreases-loop-command l = length l.rest
