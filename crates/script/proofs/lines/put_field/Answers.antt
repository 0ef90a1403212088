use Rattle.text.proofs.WritesLaws.{writes-none}
use Rattle.script.specs.Lines.{field_text}
use Rattle.script.proofs.lines.put_field.Goals as goal

pub returns-in-Absent : goal.returns-in-Absent
unfolding field_text
returns-in-Absent c = rw c.in-Absent.is writes-none

pub returns-in-Decimal : goal.returns-in-Decimal
unfolding field_text
returns-in-Decimal c = rw c.in-Decimal.is c.put_spaced_decimal.ensures

pub returns-in-Hexadecimal : goal.returns-in-Hexadecimal
unfolding field_text
returns-in-Hexadecimal c = rw c.in-Hexadecimal.is c.put_spaced_hex.ensures
