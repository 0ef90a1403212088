use native.Mathlib.Omega.{arith}
use Rattle.script.proofs.ParseLaws.{reads_call, reads_none, zeros_at}
use Rattle.script.proofs.operands.read_call.Goals as goal

pub take_fields-requires : goal.take_fields-requires
take_fields-requires c = record { at_in_bounds = (omega arith, omega arith, omega arith); by_index = zeros_at 9 }

pub returns-in_err-t : goal.returns-in_err-t
returns-in_err-t c = rw c.from_residual.ensures (reads_none c.take_fields.new.numbers c.args.at (rw c.in_err-t.was at c.take_fields.ensures.parses))

pub returns : goal.returns
returns c =
    let m = rw c.in_ok-t.was at c.take_fields.ensures.room in
    reads_call c.take_fields.new.numbers c.args.at m.0 m.1 c.operands_of.ensures (rw c.in_ok-t.was at c.take_fields.ensures.parses)
