use Rattle.std.proofs.Common.{rules, ◌≡◌, ℕ, ◌-◌, ◌/◌, ◌<◌, length, get_or, Fits, w64, arith}
use Rattle.map_store.proofs.Words.{poke_fits, poke_is}
use Rattle.map_store.proofs.index.Index.poke.Goals as goal

pub overflow_add-part : goal.overflow_add-part
overflow_add-part c =
    let fit : (i : ℕ) → Fits w64 (get_or c.args.cells.now i 0) = search rules in
    record { fits = poke_fits c.args.cells.now _ _ _ c.requires.inside fit c.requires.fits }

pub returns : goal.returns
returns c =
    let fit : (i : ℕ) → Fits w64 (get_or c.args.cells.now i 0) = search rules in
    poke_is _ _ _ _ c.requires.inside fit c.requires.fits
