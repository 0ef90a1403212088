use Rattle.std.proofs.Common.{arith}
use Rattle.layout.proofs.Lookup.{section-inside, section_known, section-unknown}
use Rattle.layout.proofs.ReadLayout.section.Goals as goal

pub overflow_add-result : goal.overflow_add-result
overflow_add-result c = let k = section-inside _ _ c.args.self.now.tabled c.args.kind c.args.number (rw c.count.ensures at c.if-number-self.true) in omega (arith, c.base.ensures)

pub offset_bounds-self-base : goal.offset_bounds-self-base
offset_bounds-self-base c = let k = section-inside _ _ c.args.self.now.tabled c.args.kind c.args.number (rw c.count.ensures at c.if-number-self.true) in omega (arith, c.base.ensures)

pub bounds-self-base : goal.bounds-self-base
bounds-self-base c = let k = section-inside _ _ c.args.self.now.tabled c.args.kind c.args.number (rw c.count.ensures at c.if-number-self.true) in omega (arith, c.base.ensures, c.args.self.now.tabled.room)

pub returns-then-number-self : goal.returns-then-number-self
returns-then-number-self c = rw c.base.ensures (section_known _ _ c.args.self.now.tabled c.args.kind c.args.number (rw c.count.ensures at c.if-number-self.true))

pub returns-else-number-self : goal.returns-else-number-self
returns-else-number-self c = section-unknown _ _ c.args.self.now.tabled c.args.kind c.args.number (rw c.count.ensures at c.if-number-self.false)
