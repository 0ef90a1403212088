use Rattle.std.proofs.Common.{ℕ, sym}
use Rattle.std.proofs.lemmas.List.{length-replicate}
use Rattle.sheet.proofs.text_buffer.Goals as goal

pub returns : goal.returns
returns c = sym (length-replicate {A = ℕ} 4063232 0)
