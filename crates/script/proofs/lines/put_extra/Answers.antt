use native.Mathlib.Omega.{arith}
use Rattle.text.proofs.WritesLaws.{writes-append}
use Rattle.script.specs.Lines.{extra_text}
use Rattle.script.proofs.LineLaws.{length-field}
use Rattle.script.proofs.lines.put_extra.Goals as goal

pub put_field-requires-2 : goal.put_field-requires-2
put_field-requires-2 c = omega (arith, c.put_field.ensures.puts.ends, c.put_field.ensures.puts.size, length-field c.args.f.x c.args.s.x)

pub put_field-requires-3 : goal.put_field-requires-3
put_field-requires-3 c = omega (arith, c.put_field.ensures.puts.ends, c.put_field.ensures.puts.size, length-field c.args.f.x c.args.s.x, c.put_field-2.ensures.puts.ends, c.put_field-2.ensures.puts.size, length-field c.args.f.y c.args.s.y)

pub put_field-requires-4 : goal.put_field-requires-4
put_field-requires-4 c = omega (arith, c.put_field.ensures.puts.ends, c.put_field.ensures.puts.size, length-field c.args.f.x c.args.s.x, c.put_field-2.ensures.puts.ends, c.put_field-2.ensures.puts.size, length-field c.args.f.y c.args.s.y, c.put_field-3.ensures.puts.ends, c.put_field-3.ensures.puts.size, length-field c.args.f.z c.args.s.z)

pub put_field-requires-5 : goal.put_field-requires-5
put_field-requires-5 c = omega (arith, c.put_field.ensures.puts.ends, c.put_field.ensures.puts.size, length-field c.args.f.x c.args.s.x, c.put_field-2.ensures.puts.ends, c.put_field-2.ensures.puts.size, length-field c.args.f.y c.args.s.y, c.put_field-3.ensures.puts.ends, c.put_field-3.ensures.puts.size, length-field c.args.f.z c.args.s.z, c.put_field-4.ensures.puts.ends, c.put_field-4.ensures.puts.size, length-field c.args.f.u c.args.s.u)

pub returns : goal.returns
unfolding extra_text
returns c = writes-append c.put_field.ensures (writes-append c.put_field-2.ensures (writes-append c.put_field-3.ensures (writes-append c.put_field-4.ensures c.put_field-5.ensures)))
