use Rattle.std.proofs.Common.{ℕ, sym}
use Rattle.std.proofs.lemmas.List.{length-replicate}
use Rattle.replay.proofs.line_buffer.Goals as goal

pub returns : goal.returns
returns c = sym (length-replicate {A = ℕ} 1114279 0)
