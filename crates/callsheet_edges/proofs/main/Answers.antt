-- The text that is written lies in the lent buffer.
use Rattle.std.proofs.Common.{sym, length-take-le}
use Rattle.sheet.proofs.OpeningLaws.{text-within}
use Rattle.callsheet_edges.proofs.main.Goals as goal

pub slice_bounds-out-end : goal.slice_bounds-out-end
slice_bounds-out-end c = text-within c.in-Some.end c.run.ensures c.in-Some.is

pub slice_bounds-write_all-end : goal.slice_bounds-write_all-end
slice_bounds-write_all-end c = sym (length-take-le c.in-Some.end c.run.new.out (text-within c.in-Some.end c.run.ensures c.in-Some.is))
