use Rattle.std.proofs.Common.{ℕ, ◌+◌, sym, ap, ◌∙◌}
use Rattle.probing.specs.Table.{probe_start, probe_turn, vacancy_some}
use Rattle.map_store.specs.Half.{full_held, held_empty}
use Rattle.map_store.proofs.Maps.{place-cells}
use Rattle.map_store.proofs.index.Index.place.Goals as goal

pub loop-slot-init : goal.loop-slot-init
loop-slot-init c = probe_start _ c.requires.mapped.table.size _ _

pub loop-slot-smaller : goal.loop-slot-smaller
loop-slot-smaller c =
    let X = c.requires.mapped.table in
    let e = vacancy_some _ _ X.room in
    (probe_turn _ X.size _ _ e.0 e.1 (λ p. p e.2) c.loop-slot.slot c.loop-slot.invariant (full_held _ _ _ (rw c.peek.ensures at c.loop-slot-test.true))).1

pub loop-slot-preserved : goal.loop-slot-preserved
loop-slot-preserved c =
    let X = c.requires.mapped.table in
    let e = vacancy_some _ _ X.room in
    (probe_turn _ X.size _ _ e.0 e.1 (λ p. p e.2) c.loop-slot.slot c.loop-slot.invariant (full_held _ _ _ (rw c.peek.ensures at c.loop-slot-test.true))).0

pub returns : goal.returns
returns c =
    let placed = place-cells _ _ _ _ _ c.requires.mapped c.requires.entry.0 c.requires.entry.1 c.requires.entry.2 c.requires.room c.loop-slot.invariant
    (held_empty _ _ _ (sym c.peek.ensures ∙ c.loop-slot-test.false)) _ (ap (λ (w : ℕ). w + c.args.pos) c.mark.ensures) in
    rw c.poke.ensures (record { mapped = placed.0; frame = placed.1.0; room = placed.1.1 })
