use Rattle.std.proofs.Common.{◌-◌}
use Rattle.map_vectors.proofs.Replay.run.Given as goal

abbrev pub decreases-loop-at : goal.decreases-loop-at
decreases-loop-at l = l.end - l.at
