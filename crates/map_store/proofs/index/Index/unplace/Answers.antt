use Rattle.std.proofs.Common.{ℕ, ◌+◌, ◌<◌, ◌^◌, sym, ap, ◌∙◌, arith}
use Rattle.probing.specs.Table.{vacancy}
use Rattle.map_store.proofs.Maps.{remove-start, remove_less, remove-stay, remove_move, remove-end, turn-full, turn-inside, turn-fits, turn-far, flag-held}
use Rattle.map_store.proofs.index.Index.unplace.Goals.{then-dist_hole-dist_next, else-dist_hole-dist_next}
use Rattle.map_store.proofs.index.Index.unplace.Goals as goal

pub loop-word-init : goal.loop-word-init
loop-word-init c = remove-start _ _ _ _ _ _ c.requires.mapped c.requires.seat.2 c.requires.seat.0 c.requires.seat.1

pub bounds-cells-p : goal.bounds-cells-p
bounds-cells-p c = turn-inside _ _ _ _ _ _ _ _ _ c.loop-word.invariant _ c.peek-word.ensures c.if-word-eq-EMPTY.false

pub poke-requires-clause-fits : goal.poke-requires-clause-fits
poke-requires-clause-fits c = turn-fits _ _ _ _ _ _ _ _ _ c.loop-word.invariant _ c.peek-word.ensures c.if-word-eq-EMPTY.false

pub loop-word-smaller : goal.loop-word-smaller
loop-word-smaller c =
    let U = c.loop-word.invariant in
    remove_less _ _ _ _ _ _ _ _ _ U (turn-full _ _ _ _ _ _ _ _ _ U _ c.peek-word.ensures c.if-word-eq-EMPTY.false)

pub loop-word-preserved : goal.loop-word-preserved
loop-word-preserved c =
    let U = c.loop-word.invariant in
    let small : c.args.self.len < 2 ^ 64 = omega arith in
    let full = turn-full _ _ _ _ _ _ _ _ _ U _ c.peek-word.ensures c.if-word-eq-EMPTY.false in
    let next = turn-far _ _ _ _ _ _ _ _ _ U _ c.peek-word.ensures c.if-word-eq-EMPTY.false small c.loop-word.next U.moving.shift.full.here in
    let hole = turn-far _ _ _ _ _ _ _ _ _ U _ c.peek-word.ensures c.if-word-eq-EMPTY.false small c.loop-word.hole U.moving.shift.hole in
    elim c.if-dist_hole-dist_next.branch [
      | then-dist_hole-dist_next w ↦
          rw (w.cells-is, w.hole-is, w.poke.ensures, c.peek-word.ensures) (remove_move _ _ _ _ _ _ _ _ _ U full (omega (arith, next, hole, w.if-dist_hole-dist_next.true)))
      | else-dist_hole-dist_next w ↦ rw (w.cells-is, w.hole-is) (remove-stay _ _ _ _ _ _ _ _ _ U full (omega (arith, next, hole, w.if-dist_hole-dist_next.false)))
    ]

pub returns : goal.returns
returns c =
    let z = remove-end _ _ _ _ _ _ _ _ _ c.loop-word.invariant (sym c.peek-word.ensures ∙ c.if-word-eq-EMPTY.true) in
    rw c.poke-2.ensures
    (record {
      mapped = z.0;
      frame = z.1.0;
      room = z.1.1 ∙ ap (λ (f : ℕ → ℕ). vacancy c.args.self.len f + 1) (flag-held _ _ _ _ _ c.requires.mapped c.requires.seat.2.0);
    })
