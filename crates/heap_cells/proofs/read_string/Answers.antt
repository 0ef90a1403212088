use Rattle.std.proofs.Common.{◌≡◌, ◌/◌}
use native.Mathlib.Omega.{arith}
use mathlib.Core.Path.{refl}
use Rattle.heap_cells.proofs.StringLaws.{read_more, read_end}
use Rattle.heap_cells.proofs.read_string.Goals as goal

pub returns-then-whole-n : goal.returns-then-whole-n
returns-then-whole-n c = let q : c.loop-q.q ≡ c.args.n / 8 = omega arith in read_end _ (read_more _ (rw q at c.loop-q.invariant) c.unpack-then-whole-n.ensures (omega arith) refl) (omega arith) c.requires.2

pub returns-else-whole-n : goal.returns-else-whole-n
returns-else-whole-n c = read_end _ c.loop-q.invariant (omega arith) c.requires.2
