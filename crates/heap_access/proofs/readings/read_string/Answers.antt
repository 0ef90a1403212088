use Rattle.heap_access.proofs.BufferLaws.{string_inside, string_lost, string_read, string_short}
use Rattle.heap_access.proofs.readings.read_string.Goals as goal

pub returns-in_err-h : goal.returns-in_err-h
returns-in_err-h c = string_lost c.args.view.now.good c.read_header_of.ensures _ _ c.in_err-h.was c.from_residual.ensures.1

pub returns-then-buffer-h : goal.returns-then-buffer-h
returns-then-buffer-h c = string_short c.args.view.now.good c.read_header_of.ensures c.in_ok-h.was _ c.if-buffer-h.true

pub read_string-requires : goal.read_string-requires
read_string-requires c = ((string_inside c.args.view.now.good c.read_header_of.ensures c.in_ok-h.was).0, (string_inside c.args.view.now.good c.read_header_of.ensures c.in_ok-h.was).1, c.if-buffer-h.false)

pub returns : goal.returns
returns c = string_read c.args.view.now.good c.read_header_of.ensures c.in_ok-h.was _ c.if-buffer-h.false c.read_string.ensures
