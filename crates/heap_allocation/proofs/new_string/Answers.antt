use mathlib.Core.Path.{refl}
use Rattle.account.specs.Account.{saturated}
use Rattle.std.proofs.lemmas.Result.{err_from_is_err_and}
use Rattle.heap_allocation.proofs.MakeLaws.{region-ready}
use Rattle.heap_allocation.proofs.RegionLaws.{above_written, string-made, string-object, string-refused, string-size}
use Rattle.heap_allocation.proofs.new_string.Goals as goal

pub finish-requires : goal.finish-requires
finish-requires c =
    (region-ready (c.prepare.ensures.accepted c.in_ok-prepare.was) (above_written c.write_string.ensures) refl (string-object _ (string-size _)))

pub returns-in_err-prepare : goal.returns-in_err-prepare
unfolding saturated
returns-in_err-prepare c =
    let p = err_from_is_err_and c.from_residual.result c.from_residual.ensures.1 in
    rw (p.1, p.2) (string-refused c.requires c.saturating_add-weight.ensures (string-size _) c.prepare.ensures c.in_err-prepare.was)

pub returns : goal.returns
unfolding saturated
returns c = string-made c.requires c.saturating_add-weight.ensures (string-size _) c.prepare.ensures c.in_ok-prepare.was c.write_string.ensures refl c.finish.ensures
