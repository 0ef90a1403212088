use mathlib.Core.Path.{sym}
use native.Mathlib.Omega.{arith}
use Rattle.std.proofs.lemmas.Result.{err_from_is_err_and}
use Rattle.heap.specs.Answers.{seen_by}
use Rattle.heap.proofs.ReachLaws.{located_fits}
use Rattle.collections_arrays.proofs.ArrayLaws.{array-here, array-inside, pop-empty, pop-over, pop-refused, pop-taken}
use Rattle.collections_arrays.proofs.pop.Goals as goal

pub read_header-h-requires : goal.read_header-h-requires
read_header-h-requires c = located_fits c.requires c.locate.ensures c.in_ok-i.was

pub returns-then-h-eq0 : goal.returns-then-h-eq0
unfolding seen_by
returns-then-h-eq0 c = pop-empty (array-here c.requires c.locate.ensures c.in_ok-i.was c.read_header-h.ensures) c.if-h-eq0.true

pub returns-then-not-zero_fits : goal.returns-then-not-zero_fits
unfolding seen_by
returns-then-not-zero_fits c =
    pop-over (array-here c.requires c.locate.ensures c.in_ok-i.was c.read_header-h.ensures) c.if-h-eq0.false (sym c.if-not-zero_fits.ensures.is)

pub returns-in_err-i : goal.returns-in_err-i
unfolding seen_by
returns-in_err-i c =
    let p = err_from_is_err_and c.from_residual.result c.from_residual.ensures.1 in
    rw (p.1, p.2) (pop-refused c.requires c.locate.ensures c.in_err-i.was)

pub overflow_add-h : goal.overflow_add-h
overflow_add-h c = omega (arith, array-inside (array-here c.requires c.locate.ensures c.in_ok-i.was c.read_header-h.ensures))

pub offset_bounds-cells-h : goal.offset_bounds-cells-h
offset_bounds-cells-h c = omega (arith, array-inside (array-here c.requires c.locate.ensures c.in_ok-i.was c.read_header-h.ensures))

pub bounds-cells-h : goal.bounds-cells-h
bounds-cells-h c = omega (arith, array-inside (array-here c.requires c.locate.ensures c.in_ok-i.was c.read_header-h.ensures))

pub returns : goal.returns
unfolding seen_by
returns c =
    pop-taken (array-here c.requires c.locate.ensures c.in_ok-i.was c.read_header-h.ensures) c.if-h-eq0.false (sym c.if-not-zero_fits.ensures.is) c.if-not-zero_fits.ensures.same c.item-v.ensures c.set_word.ensures

pub set_word-requires-clause-fits : goal.set_word-requires-clause-fits
set_word-requires-clause-fits c = located_fits c.requires c.locate.ensures c.in_ok-i.was
