use mathlib.Core.List.{[], ◌∷◌}
use native.Mathlib.Omega.{arith}
use Rattle.text.proofs.PutsLaws.{length_fields}
use Rattle.text.proofs.WritesLaws.{writes-append, writes_head, writes_line}
use Rattle.text.proofs.Writer.put_unknown.Goals as goal

pub put_byte-requires-3 : goal.put_byte-requires-3
put_byte-requires-3 c = omega (arith, c.put_byte.ensures.puts.ends, c.put_byte-2.ensures.puts.ends, c.put_fields.ensures.puts.ends, c.put_byte.ensures.puts.size, c.put_byte-2.ensures.puts.size, c.put_fields.ensures.puts.size, length_fields 4 0 c.args.used)

pub returns : goal.returns
returns c = writes_line (63 ∷ 63 ∷ []) 4 0 c.args.used (writes_head (63 ∷ 63 ∷ []) 4 0 c.args.used (writes-append c.put_byte.ensures c.put_byte-2.ensures) c.put_fields.ensures) c.put_byte-3.ensures
