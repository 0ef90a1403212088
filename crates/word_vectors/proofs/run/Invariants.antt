use Rattle.std.proofs.Common.{length}
use Rattle.word_vectors.proofs.run.Given as goal

abbrev pub invariant-loop-byte : goal.invariant-loop-byte
invariant-loop-byte g l = Unit {0}

abbrev pub decreases-loop-byte : goal.decreases-loop-byte
decreases-loop-byte g l = length l.script.rest.now
