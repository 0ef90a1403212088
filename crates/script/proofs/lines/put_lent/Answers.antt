use Rattle.text.proofs.WritesLaws.{writes-none}
use Rattle.script.specs.Lines.{lent_text}
use Rattle.script.proofs.lines.put_lent.Goals as goal

pub returns-in-Own : goal.returns-in-Own
unfolding lent_text
returns-in-Own c = rw c.in-Own.is writes-none

pub returns-in-Buffer : goal.returns-in-Buffer
unfolding lent_text
returns-in-Buffer c = rw c.in-Buffer.is c.put_buffer.ensures

pub returns-in-Places : goal.returns-in-Places
unfolding lent_text
returns-in-Places c = rw c.in-Places.is c.put_list.ensures

pub returns-in-Roots : goal.returns-in-Roots
unfolding lent_text
returns-in-Roots c = rw (c.in-Roots.is, ← c.listed.ensures.places_value) c.put_list-in-Roots.ensures
