-- The session stays ready, and each turn goes on in the script.
use Rattle.std.proofs.Common.{◌-◌, length}
use Rattle.script.specs.Turns.{SessionReady, lent_in}
use Rattle.replay.proofs.play.Given as goal

abbrev pub invariant-loop-session : goal.invariant-loop-session
invariant-loop-session g l = SessionReady l.input (lent_in l.lent) l.session

abbrev pub decreases-loop-session : goal.decreases-loop-session
decreases-loop-session g l = length l.input - l.session.at
