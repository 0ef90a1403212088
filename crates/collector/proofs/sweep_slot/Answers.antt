use mathlib.Core.Path.{ap, ◌∙◌}
use native.Mathlib.Omega.{arith}
use Rattle.heap_slots.specs.declared.Header.{Header}
use Rattle.heap.proofs.PlaceLaws.{coroutine-max}
use Rattle.collector.proofs.Weighing.{weight_le}
use Rattle.collector.proofs.Looking.{look-vacant, look-weighable, look-stays, look-retires, look-returns}
use Rattle.collector.proofs.sweep_slot.Goals as goal

pub returns-then-h-eq-NONE : goal.returns-then-h-eq-NONE
returns-then-h-eq-NONE c = look-vacant _ _ _ _ _ _ _ c.read_header-h.ensures c.if-h-eq-NONE.true

pub weigh-weight-requires-clause-weighable : goal.weigh-weight-requires-clause-weighable
weigh-weight-requires-clause-weighable c = look-weighable _ _ c.args.list.now c.args.marks.now _ c.args.w c.args.t c.read_header-h.ensures c.requires.weighable

pub overflow_add-result : goal.overflow_add-result
overflow_add-result c = omega (arith, c.requires.heavy, c.requires.few, c.weigh-weight.ensures, weight_le c.requires.weights (look-weighable _ _ c.args.list.now c.args.marks.now _ c.args.w c.args.t c.read_header-h.ensures c.requires.weighable))

pub overflow_add-result-then-marks-i-ne0 : goal.overflow_add-result-then-marks-i-ne0
overflow_add-result-then-marks-i-ne0 c = omega (arith, c.requires.cells, c.requires.few, c.requires.weighable.size, ap (λ (h : Header). h.size) c.read_header-h.ensures)

pub overflow_add-result-then-marks-i-ne0-2 : goal.overflow_add-result-then-marks-i-ne0-2
overflow_add-result-then-marks-i-ne0-2 c = omega (arith, c.requires.present, c.requires.few)

pub overflow_add-result-then-marks-i-ne0-3 : goal.overflow_add-result-then-marks-i-ne0-3
overflow_add-result-then-marks-i-ne0-3 c = omega (arith, c.requires.coroutines, c.requires.few, c.coroutine_of-coroutine.ensures, coroutine-max c.read_header-h.result.kind)

pub returns-then-marks-i-ne0 : goal.returns-then-marks-i-ne0
returns-then-marks-i-ne0 c = look-stays _ _ _ _ _ _ _ c.read_header-h.ensures c.if-h-eq-NONE.false c.if-marks-i-ne0.true c.weigh-weight.ensures c.coroutine_of-coroutine.ensures

pub returns-then-generation-eq-LAST_GENERATION : goal.returns-then-generation-eq-LAST_GENERATION
returns-then-generation-eq-LAST_GENERATION c = look-retires _ _ _ _ _ _ _ c.read_header-h.ensures c.if-h-eq-NONE.false c.if-marks-i-ne0.false c.if-generation-eq-LAST_GENERATION.true c.empty.ensures c.write_header.ensures

pub bounds-list-top : goal.bounds-list-top
bounds-list-top c = c.requires.room (λ e. c.if-h-eq-NONE.false (ap (λ (h : Header). h.kind) c.read_header-h.ensures ∙ e))

pub returns : goal.returns
returns c = look-returns _ _ _ _ _ _ _ c.read_header-h.ensures c.if-h-eq-NONE.false c.if-marks-i-ne0.false c.if-generation-eq-LAST_GENERATION.false c.empty-2.ensures c.write_header-2.ensures
