use Rattle.std.proofs.Common.{rules, subst}
use Rattle.std.proofs.KnownBytes.{Consumes-trans}
use Rattle.std.specs.Io.KnownBytes.{Consumes}
use Rattle.streams.proofs.Filled.{take_filled}
use Rattle.streams.proofs.read_full.Goals as goal

pub loop-filled-preserved : goal.loop-filled-preserved
loop-filled-preserved g c =
    let before = c.loop-filled.invariant in
    let read = c.in_ok-n.ensures in
    (search rules, search rules, subst (Consumes _ _) (take_filled _ _ _ _ before.1 read.bound.0) (Consumes-trans _ _ _ _ _ before.2 read.bytes.0))
