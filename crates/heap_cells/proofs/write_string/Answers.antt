use Rattle.std.proofs.Common.{◌≡◌, ◌*◌, ◌-◌, ◌/◌, length}
use native.Mathlib.Omega.{arith}
use Rattle.heap_cells.specs.Moves.{Packs}
use Rattle.heap_cells.proofs.StringLaws.{packs_part, writing_end, writing_more}
use Rattle.heap_cells.proofs.write_string.Goals as goal

pub returns-then-whole-bytes : goal.returns-then-whole-bytes
returns-then-whole-bytes c =
    let bs = c.args.bytes.now in
    let q : c.loop-q.q ≡ length bs / 8 = omega arith in
    let last : Packs bs (length bs / 8 * 8) c.pack-then-whole-bytes.result = packs_part {n = length bs - length bs / 8 * 8} c.pack-then-whole-bytes.ensures (λ k lk h. omega arith) in
    writing_end (writing_more c.pack-then-whole-bytes.result (rw q at c.loop-q.invariant) last (omega arith)) (omega arith) (omega arith)

pub returns-else-whole-bytes : goal.returns-else-whole-bytes
returns-else-whole-bytes c = writing_end c.loop-q.invariant (omega arith) (omega arith)
