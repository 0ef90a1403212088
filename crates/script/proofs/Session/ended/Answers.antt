use Rattle.std.proofs.Common.{rules, sym}
use Rattle.script.proofs.SessionLaws.{end_line}
use Rattle.script.proofs.Session.ended.Goals as goal

pub returns : goal.returns
returns c = search (rules, end_line, sym c.put_unknown.ensures.same)
