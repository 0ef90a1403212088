use Rattle.text.proofs.WritesLaws.{writes-lent}
use Rattle.script.proofs.CallLaws.{kept_out, known_goes, unknown_goes}
use Rattle.script.proofs.Session.call_turn.Goals as goal

pub returns-in_default-clause-goes : goal.returns-in_default-clause-goes
returns-in_default-clause-goes c =
    let done = c.perform_in-performed.ensures in
    unknown_goes c.args.code c.args.o c.args.l.words c.args.l.end c.args.l.bytes c.args.l.places c.args.next _ c.requires.session_ready (kept_out done.kept c.ended.ensures.text.size)
    done.commanded_by done.ready_2 c.requires.at_lt_next.0 c.requires.at_lt_next.1 c.requires.s_value.1 c.requires.s_value.2 c.in_default.is (rw done.unchanged.3 at c.ended.ensures) done.unchanged.1

pub returns-clause-goes : goal.returns-clause-goes
returns-clause-goes c =
    let done = c.perform_in-performed.ensures in
    let line = writes-lent c.put_shown.ensures c.lent-1.given.1 in
    known_goes c.args.code c.args.o c.args.l.words c.args.l.end c.args.l.bytes c.args.l.places c.args.next _ c.requires.session_ready (kept_out done.kept line.size)
    done.commanded_by done.ready_2 c.requires.at_lt_next.0 c.requires.at_lt_next.1 c.args.s c.in-Some.is c.requires.s_value.0 done.unchanged.1 c.shown_bytes-shown_to.ensures.1.0 (rw done.unchanged.3 at line)

pub returns-in_default-clause-kept : goal.returns-in_default-clause-kept
returns-in_default-clause-kept c = kept_out c.perform_in-performed.ensures.kept c.ended.ensures.text.size

pub returns-clause-kept : goal.returns-clause-kept
returns-clause-kept c = let line = writes-lent c.put_shown.ensures c.lent-1.given.1 in kept_out c.perform_in-performed.ensures.kept line.size
