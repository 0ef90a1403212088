use Rattle.heap.proofs.SeatLaws.{plain_state, seatable}
use Rattle.heap.proofs.placing.place_plain.Goals as goal

pub seat-requires : goal.seat-requires
seat-requires c = seatable c.requires.0 c.requires.1

pub returns : goal.returns
returns c = plain_state c.args.header c.requires.0 c.requires.1 c.requires.2 c.seat.ensures
