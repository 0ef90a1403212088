use Rattle.std.proofs.Common.{length}
use Rattle.script.proofs.LendLaws.{fronts, lends_own, lends_roots}
use Rattle.script.proofs.lend_words.Goals as goal

pub returns-in-Roots : goal.returns-in-Roots
returns-in-Roots c = λ p input z. lends_roots c.args.memory p _ z c.in-Roots.is (fronts _ _ (length c.args.roots.now) c.requires.1 (rw c.copy_from_slice.ensures.after) c.copy_from_slice.ensures.after)

pub returns-in_default : goal.returns-in_default
returns-in_default c = λ p input z. lends_own c.args.memory p input c.args.words.now c.args.k c.in_default.not-Roots c.requires.0
