use Rattle.std.proofs.Common.{length, ◌-◌}
use Rattle.script.specs.Turns.{Kept, SameLists, lent_in}
use Rattle.script.proofs.RunLaws.{Playing}
use Rattle.script.proofs.Session.run.Given as goal

abbrev pub invariant-loop-self : goal.invariant-loop-self
invariant-loop-self l =
    Playing l.input (lent_in l.initial.lent) l.initial.self (lent_in l.lent) l.self × Kept (lent_in l.initial.lent) (lent_in l.lent) × SameLists l.initial.lent l.lent

abbrev pub decreases-loop-self : goal.decreases-loop-self
decreases-loop-self l = length l.input - l.self.at
