use Rattle.std.proofs.Common.{sym, refl, ◌∙◌, arith}
use Rattle.probing.specs.Keep.{find_none, find_first}
use Rattle.probing.specs.Table.{probe_start, probe_turn, vacancy_some}
use Rattle.map_store.specs.Half.{held_empty}
use Rattle.map_store.specs.Entries.{lookup_first, lookup_none}
use Rattle.map_store.proofs.Maps.{Passed, not_empty, seek-full, seek-live, seek-own, seek-inside, seek-other, seek-differs}
use Rattle.map_store.proofs.index.Index.seek.Goals.{then-rest-lt262144+else-h-hash, else-h-hash-via-then-h-hash+else-k-key, else-h-hash-via-else-h-hash, else-rest-lt262144}
use Rattle.map_store.proofs.index.Index.seek.Goals as goal

pub loop-self-init : goal.loop-self-init
loop-self-init c = probe_start _ c.requires.table.size _ _

pub returns-then-word-eq-EMPTY-clause-answer : goal.returns-then-word-eq-EMPTY-clause-answer
returns-then-word-eq-EMPTY-clause-answer c =
    let X = c.requires in
    lookup_none _ _ _ _
    (find_none _ _ _ _ X.table.seated (not_empty _ _ _ _ X) _ _ (λ p m. m.0) c.loop-self.slot c.loop-self.invariant (held_empty _ _ _ (sym c.peek-word.ensures ∙ c.if-word-eq-EMPTY.true)))

pub bounds-cells-at : goal.bounds-cells-at
bounds-cells-at c = omega (arith, seek-inside _ _ _ _ _ c.requires c.loop-self.invariant.here _ c.peek-word.ensures c.if-word-eq-EMPTY.false _ _ c.mark-mine.ensures c.if-rest-lt262144.true)

pub bounds-cells-at-then-rest-lt262144 : goal.bounds-cells-at-then-rest-lt262144
bounds-cells-at-then-rest-lt262144 c = omega (arith, seek-inside _ _ _ _ _ c.requires c.loop-self.invariant.here _ c.peek-word.ensures c.if-word-eq-EMPTY.false _ _ c.mark-mine.ensures c.if-rest-lt262144.true)

pub returns-then-k-key : goal.returns-then-k-key
returns-then-k-key c =
    let X = c.requires in
    let turn = c.loop-self.invariant.here in
    let full = seek-full _ _ _ _ _ X turn _ c.peek-word.ensures c.if-word-eq-EMPTY.false _ _ c.mark-mine.ensures in
    let own = seek-own _ _ _ _ _ X turn _ c.peek-word.ensures c.if-word-eq-EMPTY.false _ _ c.mark-mine.ensures c.if-rest-lt262144.true in
    rw own
    (record {
      answer = lookup_first _ _ _ _ _
          (find_first _ _ _ _ X.table.seated (not_empty _ _ _ _ X) _ _ (λ p m. m.0) c.loop-self.slot c.loop-self.invariant full (rw own at c.if-h-hash.true, rw own at c.if-k-key.true));
      seat = (turn, refl, seek-live _ _ _ _ _ X turn _ c.peek-word.ensures c.if-word-eq-EMPTY.false _ _ c.mark-mine.ensures);
    })

passed : (c : goal.Joined-rest-lt262144) → Passed c.args.cells.now c.args.self.at c.args.hash c.args.key c.loop-self.slot
passed c =
    elim c.if-rest-lt262144.branch [
      | then-rest-lt262144+else-h-hash w ↦
          seek-differs _ _ _ _ _ c.requires c.loop-self.invariant.here _ c.peek-word.ensures c.if-word-eq-EMPTY.false _ _ c.mark-mine.ensures w.if-rest-lt262144.true _
          (λ k. elim w.else-h-hash.branch [ else-h-hash-via-then-h-hash+else-k-key v ↦ v.if-k-key.false k.1 | else-h-hash-via-else-h-hash v ↦ v.if-h-hash.false k.0 ])
      | else-rest-lt262144 w ↦ seek-other _ _ _ _ _ c.requires c.loop-self.invariant.here _ c.peek-word.ensures c.if-word-eq-EMPTY.false _ _ c.mark-mine.ensures w.if-rest-lt262144.false _
    ]

pub loop-self-smaller : goal.loop-self-smaller
loop-self-smaller c =
    let X = c.requires.table in
    let e = vacancy_some _ _ X.room in
    (probe_turn _ X.size _ _ e.0 e.1 (λ p. p.0 e.2) c.loop-self.slot c.loop-self.invariant (passed c)).1

pub loop-self-preserved : goal.loop-self-preserved
loop-self-preserved c =
    let X = c.requires.table in
    let e = vacancy_some _ _ X.room in
    (probe_turn _ X.size _ _ e.0 e.1 (λ p. p.0 e.2) c.loop-self.slot c.loop-self.invariant (passed c)).0
