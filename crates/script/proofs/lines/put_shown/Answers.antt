use Prim.Native.Nat.{◌-◌}
use lib.ListN.{length}
use Rattle.model.specs.Callsheet.{digits}
use Rattle.text.proofs.DigitsLaws.{length_digits}
use Rattle.text.proofs.PutsLaws.{length_head}
use Rattle.script.proofs.LineLaws.{length_extra, length-lent, writes-shown}
use native.Mathlib.Omega.{arith}
use Rattle.script.proofs.lines.put_shown.Goals as goal

pub put_extra-requires : goal.put_extra-requires
put_extra-requires c = omega (arith, c.requires, c.put_head.ensures.puts.ends, c.put_head.ensures.puts.size, length_head (digits 16 2 c.args.code) c.adjust-s.result.refusal c.adjust-s.result.word c.args.used, length_digits 16 2 c.args.code)

pub put_lent-requires : goal.put_lent-requires
put_lent-requires c = record {
  places_in_bounds = omega (arith, c.requires, c.put_head.ensures.puts.ends, c.put_head.ensures.puts.size, length_head (digits 16 2 c.args.code) c.adjust-s.result.refusal c.adjust-s.result.word c.args.used, length_digits 16 2 c.args.code, c.put_extra.ensures.puts.ends, c.put_extra.ensures.puts.size, length_extra c.forms_of-f.result c.adjust-s.result);
  bytes_in_bounds = omega (arith, c.requires, c.put_head.ensures.puts.ends, c.put_head.ensures.puts.size, length_head (digits 16 2 c.args.code) c.adjust-s.result.refusal c.adjust-s.result.word c.args.used, length_digits 16 2 c.args.code, c.put_extra.ensures.puts.ends, c.put_extra.ensures.puts.size, length_extra c.forms_of-f.result c.adjust-s.result);
}

pub put_byte-requires : goal.put_byte-requires
put_byte-requires c = omega (
  arith,
  c.requires,
  c.put_head.ensures.puts.ends,
  c.put_head.ensures.puts.size,
  length_head (digits 16 2 c.args.code) c.adjust-s.result.refusal c.adjust-s.result.word c.args.used,
  length_digits 16 2 c.args.code,
  c.put_extra.ensures.puts.ends,
  c.put_extra.ensures.puts.size,
  length_extra c.forms_of-f.result c.adjust-s.result,
  c.put_lent.ensures.puts.ends,
  c.put_lent.ensures.puts.size,
  length-lent c.args.memory c.adjust-s.result c.args.places.now c.args.bytes.now (length c.args.writer.now.out.now - 167 - c.args.writer.now.end) (omega (arith, c.requires)) (omega (arith, c.requires)),
)

pub returns : goal.returns
returns c = writes-shown c.args.code c.args.form c.args.memory c.args.used c.args.places.now c.args.bytes.now c.adjust-s.ensures c.put_head.ensures c.forms_of-f.ensures c.put_extra.ensures c.put_lent.ensures c.put_byte.ensures
