use Rattle.heap_allocation.proofs.MakeLaws.{next_fits}
use Rattle.heap_allocation.proofs.CoroutineLaws.{seated-object, seated-placeable}
use Rattle.heap_allocation.specs.Coroutines.{scalars_for}
use Rattle.heap_allocation.proofs.place_coroutine.Goals as goal

pub write_scalars-requires : goal.write_scalars-requires
write_scalars-requires c =
    rw c.next_slot-i.ensures (next_fits c.requires.0)

pub finish-requires : goal.finish-requires
finish-requires c =
    let y = c.requires.0 in
    let k = c.args.k in
    let next = c.next_slot-i.ensures in
    let w = rw c.from-x.ensures at c.write_scalars.ensures in
    (seated-placeable (scalars_for k c.args.frames) y next w c.copy_words.ensures, seated-object k _ c.args.frames _ y c.requires.1 next w)
