use mathlib.Core.Path.{refl}
use Rattle.script.proofs.RunLaws.{kept_on}
use Rattle.script.proofs.SessionLaws.{ended_goes, rooted_goes}
use Rattle.script.proofs.TurnLaws.{turns_lent, turns_missing, turns_opens, turns_roots}
use Rattle.script.proofs.Session.turn.Goals as goal

pub returns-in_default-clause-turns : goal.returns-in_default-clause-turns
returns-in_default-clause-turns c =
    turns_missing c.read_call.ensures c.in_default.is
    (ended_goes c.requires.session_ready c.requires.at_in_bounds.0 c.read_call.auto.words refl refl c.ended.ensures)

pub returns-in-0-clause-turns : goal.returns-in-0-clause-turns
returns-in-0-clause-turns c = turns_opens c.read_call.ensures c.in-Some.is c.in-0.is refl c.open_turn.ensures.goes

pub returns-in-11-clause-turns : goal.returns-in-11-clause-turns
returns-in-11-clause-turns c =
    let m = rw c.in-Some.is at c.read_call.ensures.placed in
    turns_roots c.read_call.ensures c.in-Some.is c.in-11.is
    (rooted_goes c.requires.session_ready m.onward m.within c.read_call.auto.words refl refl c.root_turn.ensures)

pub returns-in_default-input-clause-turns : goal.returns-in_default-input-clause-turns
returns-in_default-input-clause-turns c = turns_lent c.read_call.ensures c.in-Some.is refl c.lent_turn.ensures.goes

pub returns-in-0-clause-kept : goal.returns-in-0-clause-kept
returns-in-0-clause-kept c = kept_on record { slots = refl; scalars = refl; list = refl; directory = refl; cells = refl; marks = refl; order = refl; table = refl; roots = refl; words = c.read_call.auto.words; bytes = refl; places = refl; out = refl } c.open_turn.ensures.kept

pub returns-in_default-input-clause-kept : goal.returns-in_default-input-clause-kept
returns-in_default-input-clause-kept c = kept_on record { slots = refl; scalars = refl; list = refl; directory = refl; cells = refl; marks = refl; order = refl; table = refl; roots = refl; words = c.read_call.auto.words; bytes = refl; places = refl; out = refl } c.lent_turn.ensures.kept
