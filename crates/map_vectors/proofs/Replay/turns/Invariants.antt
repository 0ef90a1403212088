use Rattle.std.proofs.Common.{◌-◌, length}
use Rattle.map_vectors.proofs.Replay.turns.Given as goal

abbrev pub decreases-loop-at : goal.decreases-loop-at
decreases-loop-at g l = length l.input.bytes.now - l.at
