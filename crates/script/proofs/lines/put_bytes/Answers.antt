use lib.ListN.{drop, length-drop}
use native.Mathlib.Omega.{arith}
use Rattle.script.specs.Lines.{hex_text}
use Rattle.script.proofs.LineLaws.{listing_start, listing-size, listing-room, listing_step, listing-end, length_hex, hex_next, hex_none}
use Rattle.script.proofs.lines.put_bytes.Goals as goal

pub loop-byte-init : goal.loop-byte-init
loop-byte-init c = listing_start hex_text c.args.bytes.now c.args.writer.now

pub put_hex-requires : goal.put_hex-requires
put_hex-requires c = omega (arith, listing-size c.loop-byte.invariant, listing-room c.loop-byte.invariant 2 length_hex, length_hex c.args.bytes.now, length_hex (drop c.loop-byte.byte-index c.args.bytes.now), length-drop c.loop-byte.byte-index c.args.bytes.now)

pub loop-byte-preserved : goal.loop-byte-preserved
loop-byte-preserved c = listing_step c.loop-byte.invariant _ c.loop-byte-test.true (hex_next c.args.bytes.now c.loop-byte.byte-index c.loop-byte-test.true) c.put_hex.ensures

pub returns : goal.returns
returns c = listing-end c.loop-byte.invariant hex_none (omega arith)
