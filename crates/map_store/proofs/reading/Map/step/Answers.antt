use Rattle.std.proofs.Common.{sym, ap, ◌∙◌, ◌+◌, ◌*◌, ◌<◌, arith}
use Rattle.map_store.specs.View.{position, cursor_is}
use Rattle.map_store.proofs.Rooms.{len-small}
use Rattle.map_store.proofs.Cursors.{step-inside, step-found, step-none}
use Rattle.map_store.proofs.reading.Map.step.Goals.{in-Some, in-None}
use Rattle.map_store.proofs.reading.Map.step.Goals as goal

inside : (c : goal.In-Some) → c.in-Some.p < c.args.self.now.store.len
inside c =
    step-inside c.args.self.now.store c.args.self.now.cells.now (cursor_is c.args.c) _ c.start_of-start.ensures _ (ap position (sym c.in-Some.is) ∙ c.live_from-found.ensures)

pub overflow_mul-last : goal.overflow_mul-last
overflow_mul-last c = record { fits = omega (arith, inside c, len-small _ _ c.args.self.now.good) }

pub overflow_add-last : goal.overflow_add-last
overflow_add-last c = record { fits = omega (arith, inside c, len-small _ _ c.args.self.now.good) }

pub offset_bounds-self-p : goal.offset_bounds-self-p
offset_bounds-self-p c = record { fits = omega (arith, inside c, len-small _ _ c.args.self.now.good) }

pub bounds-self-p : goal.bounds-self-p
bounds-self-p c = let G = c.args.self.now.good in omega (arith, inside c, G.fits, G.room)

pub overflow_add-last-in-Some : goal.overflow_add-last-in-Some
overflow_add-last-in-Some c =
    let within = step-inside c.args.self.now.store c.args.self.now.cells.now (cursor_is c.args.c) _ c.start_of-start.ensures _ (ap position (sym c.in-Some.is) ∙ c.live_from-found.ensures) in
    record { fits = omega (arith, within, len-small _ _ c.args.self.now.good) }

pub returns : goal.returns
returns c =
    elim c.match-found.branch [
      | in-Some w ↦
          rw (w.last-is, w.found-is)
          (step-found c.args.self.now.store c.args.self.now.cells.now (cursor_is c.args.c) _ c.start_of-start.ensures _ (ap position (sym w.in-Some.is) ∙ c.live_from-found.ensures))
      | in-None w ↦
          rw (w.last-is, w.found-is, w.in-None.is)
          (step-none c.args.self.now.store c.args.self.now.cells.now (cursor_is c.args.c) _ c.start_of-start.ensures (ap position (sym w.in-None.is) ∙ c.live_from-found.ensures) _ w.max.ensures)
    ]
