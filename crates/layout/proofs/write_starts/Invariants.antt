use Rattle.std.proofs.Common.{length}
use Rattle.layout.proofs.Writing.{Writing}
use Rattle.layout.proofs.write_starts.Given as goal

abbrev pub invariant-loop-command : goal.invariant-loop-command
invariant-loop-command l = Writing l.bytes l.initial.table l.kind l.base l.count l.table l.rest

abbrev pub decreases-loop-command : goal.decreases-loop-command
decreases-loop-command l = length l.rest
