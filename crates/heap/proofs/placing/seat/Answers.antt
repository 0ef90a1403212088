use native.Mathlib.Omega.{arith}
use Rattle.heap.proofs.PlaceLaws.{flag-max}
use Rattle.heap.proofs.SeatLaws.{seat-charged, seat-half, seat-slot, seats}
use Rattle.heap.proofs.placing.seat.Goals as goal

pub returns-in_err-account : goal.returns-in_err-account
returns-in_err-account c = absurd (seat-charged c.requires c.charge.ensures c.in_err-account.was)

pub write_header-requires : goal.write_header-requires
write_header-requires c = seat-slot c.requires c.take_slot-t.ensures

pub overflow_mul-result : goal.overflow_mul-result
overflow_mul-result c = omega (arith, seat-half c.requires c.take_slot-t.ensures (rw c.flag_of.ensures (flag-max c.args.header.kind)))

pub overflow_add-result : goal.overflow_add-result
overflow_add-result c = omega (arith, seat-half c.requires c.take_slot-t.ensures (rw c.flag_of.ensures (flag-max c.args.header.kind)), (seat-slot c.requires c.take_slot-t.ensures).0)

pub returns : goal.returns
returns c = seats _ _ _ c.take_slot-t.ensures c.flag_of.ensures c.coroutine_of.ensures c.charge.ensures c.in_ok-account.was c.write_header.ensures
