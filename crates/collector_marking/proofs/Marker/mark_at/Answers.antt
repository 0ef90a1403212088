use mathlib.Core.Path.{◌≡◌, ap, ◌∙◌}
use Prim.Native.Nat.{◌+◌}
use native.Mathlib.Omega.{arith}
use lib.ListN.{get_or}
use Rattle.collector_marking.proofs.Adding.{adds-none, adds_as}
use Rattle.collector_marking.proofs.Traced.{at_out, at_in}
use Rattle.collector_marking.proofs.Marker.mark_at.Goals as goal

pub returns-in_default : goal.returns-in_default
returns-in_default c = adds_as (at_out c.args.words.now c.args.base c.args.n (omega arith)) adds-none

pub returns-in_default-get : goal.returns-in_default-get
returns-in_default-get c = adds_as (at_out c.args.words.now c.args.base c.args.n (grind (arith, c.in_default-get.ensures.lookup))) adds-none

pub returns-in-Some-get : goal.returns-in-Some-get
returns-in-Some-get c =
    let sum : c.in-Some.i ≡ c.args.base + c.args.n = omega arith in
    adds_as (at_in c.args.words.now c.args.base c.args.n (omega (arith, c.in-Some-get.ensures.lookup.3.0)) (c.in-Some-get.ensures.lookup.3.1 0 ∙ ap (λ i. get_or c.args.words.now i 0) sum)) c.mark_word.ensures
