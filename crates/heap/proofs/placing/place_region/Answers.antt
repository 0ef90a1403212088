use Rattle.heap.proofs.SeatLaws.{region-state, seatable}
use Rattle.heap.proofs.placing.place_region.Goals as goal

pub seat-requires : goal.seat-requires
seat-requires c = seatable c.requires.0 c.requires.1

pub returns : goal.returns
returns c =
    rw (← c.in_ok-word.was) (region-state c.args.header c.requires.0 c.requires.1 c.requires.2 c.requires.3 c.requires.4 c.seat.ensures c.next_slot.ensures)
