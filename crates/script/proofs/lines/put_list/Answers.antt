use lib.ListN.{drop, length-drop}
use native.Mathlib.Omega.{arith}
use Rattle.script.specs.Lines.{list_text}
use Rattle.script.proofs.LineLaws.{listing_start, listing-size, listing-room, listing_step, listing-end, length-list, list-next, list-none}
use Rattle.script.proofs.lines.put_list.Goals as goal

pub loop-place-init : goal.loop-place-init
loop-place-init c = listing_start list_text c.args.places.now c.args.writer.now

pub put_spaced_hex-requires : goal.put_spaced_hex-requires
put_spaced_hex-requires c = omega (arith, listing-size c.loop-place.invariant, listing-room c.loop-place.invariant 17 length-list, length-list c.args.places.now, length-list (drop c.loop-place.place-index c.args.places.now), length-drop c.loop-place.place-index c.args.places.now)

pub loop-place-preserved : goal.loop-place-preserved
loop-place-preserved c = listing_step c.loop-place.invariant _ c.loop-place-test.true (list-next c.args.places.now c.loop-place.place-index c.loop-place-test.true) c.put_spaced_hex.ensures

pub returns : goal.returns
returns c = listing-end c.loop-place.invariant list-none (omega arith)
