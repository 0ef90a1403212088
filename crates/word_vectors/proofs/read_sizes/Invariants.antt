use Rattle.std.proofs.Common.{◌≡◌, ◌+◌, ◌*◌, length}
use Rattle.word_vectors.proofs.read_sizes.Given as goal

abbrev pub invariant-loop-weight : goal.invariant-loop-weight
invariant-loop-weight l = length l.script.rest.now + 8 * l.weight-index ≡ length l.initial.script.rest.now
