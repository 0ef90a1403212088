use Rattle.std.proofs.Common.{◌-◌, ◌<◌, ◌≢◌, arith}
use Rattle.map_store.proofs.Removals.{some-live, live_most, left-able, taken-few, taken_less, taken-tight, tight-places, squeezed_able, tightened, took-kept, took-fewer}
use Rattle.map_store.proofs.MapStore.take.Goals.{else-dead-gt16-via-then-dead-gt16+else-self-dead, else-dead-gt16-via-else-dead-gt16}
use Rattle.map_store.proofs.MapStore.take.Goals as goal

pub overflow_sub-self : goal.overflow_sub-self
overflow_sub-self c = let G = c.requires.good in some-live _ _ _ _ _ _ _ (G.indexed c.requires.hashed) G.live G.small c.requires.seat

pub overflow_sub-dead : goal.overflow_sub-dead
overflow_sub-dead c = let G = c.requires.good in omega (arith, live_most _ _ _ _ _ _ _ (G.indexed c.requires.hashed) G.live G.small c.requires.seat)

pub rebuild-requires : goal.rebuild-requires
rebuild-requires c =
    let G = c.requires.good in
    let U = rw c.places-index.ensures at c.unplace.ensures in
    let able = left-able _ _ _ _ _ _ _ (G.indexed c.requires.hashed) G.live G.small c.requires.seat _ U.mapped U.frame U.room in
    rw c.places-index.ensures (squeezed_able _ _ _ _ able _ _ c.squeeze-self.ensures)

pub returns-then-self-dead : goal.returns-then-self-dead
returns-then-self-dead c =
    let G = c.requires.good in
    let X = G.indexed c.requires.hashed in
    let U = rw c.places-index.ensures at c.unplace.ensures in
    let able = left-able _ _ _ _ _ _ _ X G.live G.small c.requires.seat _ U.mapped U.frame U.room in
    let Z = tightened _ _ _ _ able _ _ c.squeeze-self.ensures _ (rw c.places-index.ensures at c.rebuild.ensures) in
    let few = tight-places _ _ _ _ _ _ _ X G.live G.small c.requires.seat _ U.mapped U.frame U.room _ _ Z in
    let fewer : c.squeeze-self.result ≢ c.args.self.now.len = omega (arith, few, c.if-dead-gt16.true) in
    took-fewer _ _ _ G _ _
    (taken-tight _ _ _ _ _ _ _ X G.live G.small c.requires.seat _ U.mapped U.frame U.room c.if-dead-gt16.true c.if-self-dead.true _ _ Z) c.requires.seat.2 fewer

pub returns-else-dead-gt16 : goal.returns-else-dead-gt16
returns-else-dead-gt16 c =
    let G = c.requires.good in
    let X = G.indexed c.requires.hashed in
    let U = rw c.places-index.ensures at c.unplace.ensures in
    elim c.else-dead-gt16.branch [
      | else-dead-gt16-via-then-dead-gt16+else-self-dead w ↦
          took-kept _ _ _ G _ (taken_less _ _ _ _ _ _ _ X G.live G.small c.requires.seat _ U.mapped U.frame U.room w.if-dead-gt16.true w.if-self-dead.false) c.requires.seat.2
      | else-dead-gt16-via-else-dead-gt16 w ↦
          took-kept _ _ _ G _ (taken-few _ _ _ _ _ _ _ X G.live G.small c.requires.seat _ U.mapped U.frame U.room w.if-dead-gt16.false) c.requires.seat.2
    ]
