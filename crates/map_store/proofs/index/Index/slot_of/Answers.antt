use Rattle.std.proofs.Common.{ℕ, ◌+◌, sym, ap, ◌∙◌}
use Rattle.probing.specs.Table.{probe_start, probe_turn}
use Rattle.map_store.proofs.Maps.{word-other, word-own}
use Rattle.map_store.proofs.index.Index.slot_of.Goals as goal

pub loop-self-init : goal.loop-self-init
loop-self-init c = probe_start _ c.requires.mapped.table.size _ _

pub loop-self-smaller : goal.loop-self-smaller
loop-self-smaller c =
    let X = c.requires.mapped.table in
    let e = X.seated.seat c.args.pos c.requires.live in
    (probe_turn _ X.size _ _ e.0 e.1 (λ p. p e.3) c.loop-self.slot c.loop-self.invariant
    (word-other _ _ _ _ c.loop-self.slot c.requires.mapped c.loop-self.invariant.here _ c.requires.live.0 (rw (c.mark.ensures, c.peek.ensures) at c.loop-self-test.true))).1

pub loop-self-preserved : goal.loop-self-preserved
loop-self-preserved c =
    let X = c.requires.mapped.table in
    let e = X.seated.seat c.args.pos c.requires.live in
    (probe_turn _ X.size _ _ e.0 e.1 (λ p. p e.3) c.loop-self.slot c.loop-self.invariant
    (word-other _ _ _ _ c.loop-self.slot c.requires.mapped c.loop-self.invariant.here _ c.requires.live.0 (rw (c.mark.ensures, c.peek.ensures) at c.loop-self-test.true))).0

pub returns : goal.returns
returns c =
    (c.loop-self.invariant.here, word-own _ _ _ _ c.loop-self.slot c.requires.mapped _ c.requires.live.0 (sym c.peek.ensures ∙ c.loop-self-test.false ∙ ap (λ (x : ℕ). x + c.args.pos) c.mark.ensures), c.requires.live)
