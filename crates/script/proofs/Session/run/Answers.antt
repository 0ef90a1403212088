use native.Mathlib.Omega.{arith}
use mathlib.Core.Path.{refl}
use Rattle.script.proofs.RunLaws.{kept_on, kept_same, playing_start, playing_step, plays_all, plays_full, same_lists, same_on}
use Rattle.script.proofs.Session.run.Goals as goal

pub loop-self-init : goal.loop-self-init
loop-self-init c = (playing_start c.requires refl, kept_same, same_lists)

pub overflow_sub-lent : goal.overflow_sub-lent
overflow_sub-lent c = c.loop-self.invariant.0.ready.end

pub returns-then-lent-self-lt-LINE : goal.returns-then-lent-self-lt-LINE
returns-then-lent-self-lt-LINE c = record { plays = plays_full c.loop-self.invariant.0 refl (omega arith); kept = c.loop-self.invariant.1; same_lists = c.loop-self.invariant.2 }

pub turn-requires-clause-session_ready : goal.turn-requires-clause-session_ready
turn-requires-clause-session_ready c = c.loop-self.invariant.0.ready

pub loop-self-preserved : goal.loop-self-preserved
loop-self-preserved c = (playing_step c.loop-self.invariant.0 (omega arith) c.turn.ensures.turns, kept_on c.loop-self.invariant.1 c.turn.ensures.kept, same_on c.loop-self.invariant.2 c.turn.ensures.same_lists)

pub returns : goal.returns
returns c = record { plays = plays_all c.loop-self.invariant.0 refl (omega arith); kept = c.loop-self.invariant.1; same_lists = c.loop-self.invariant.2 }
