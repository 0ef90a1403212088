use Rattle.std.proofs.Common.{◌∙◌, sym}
use borrow.Author.Tests.{eqb-true, eqb-false}
use Rattle.script.proofs.LineLaws.{buffer-none, buffer-some}
use Rattle.script.proofs.lines.put_buffer.Goals as goal

pub returns-then-is_empty : goal.returns-then-is_empty
returns-then-is_empty c = buffer-none c.put_byte.ensures c.args.bytes.now (eqb-true _ 0 (sym c.is_empty.ensures ∙ c.if-is_empty.true)) c.put_byte-then-is_empty.ensures

pub returns-else-is_empty : goal.returns-else-is_empty
returns-else-is_empty c = buffer-some c.put_byte.ensures c.args.bytes.now (eqb-false _ 0 (sym c.is_empty.ensures ∙ c.if-is_empty.false)) c.put_bytes.ensures
