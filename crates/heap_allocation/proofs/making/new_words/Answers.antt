use mathlib.Core.Path.{refl}
use Rattle.std.proofs.lemmas.Result.{err_from_is_err_and}
use Rattle.heap_allocation.proofs.MakeLaws.{region-ready}
use Rattle.heap_allocation.proofs.RegionLaws.{above_copied, words-made, words-refused}
use Rattle.heap_allocation.proofs.making.new_words.Goals as goal

pub finish-requires : goal.finish-requires
finish-requires c =
    let w = c.copy_words.ensures in
    (region-ready (c.prepare.ensures.accepted c.in_ok-prepare.was) (above_copied w) w.inside c.requires.1)

pub returns-in_err-prepare : goal.returns-in_err-prepare
returns-in_err-prepare c =
    let p = err_from_is_err_and c.from_residual.result c.from_residual.ensures.1 in
    rw (p.1, p.2) (words-refused c.prepare.ensures c.args.kind c.args.value c.args.mode c.args.words.now c.in_err-prepare.was c.with_each-bytes.ensures)

pub returns : goal.returns
returns c = words-made c.prepare.ensures c.args.kind c.args.value c.args.mode c.in_ok-prepare.was (above_copied c.copy_words.ensures) c.copy_words.ensures.inside refl c.with_each-bytes.ensures c.finish.ensures
