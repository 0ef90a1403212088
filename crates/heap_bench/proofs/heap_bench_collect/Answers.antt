use Rattle.std.proofs.Common.{sym, ap}
use Rattle.heap_bench.specs.Loops.{freed_word}
use Rattle.heap_bench.proofs.Laws.{collects}
use Rattle.heap_bench.proofs.heap_bench_collect.Goals as goal

pub returns-in-Ok-clause-collects : goal.returns-in-Ok-clause-collects
unfolding freed_word
returns-in-Ok-clause-collects c = collects _ _ _ _ _ _ _ _ c.load-h.ensures c.collect-answer.ensures.does _ (ap freed_word (sym c.in-Ok.is)) _ c.save.ensures

pub returns-in-Err-clause-collects : goal.returns-in-Err-clause-collects
unfolding freed_word
returns-in-Err-clause-collects c = collects _ _ _ _ _ _ _ _ c.load-h.ensures c.collect-answer.ensures.does _ (ap freed_word (sym c.in-Err.is)) _ c.save.ensures
