use Rattle.std.proofs.Common.{length, rules, arith, ap}
use Rattle.std.proofs.Math.Seq.{length-sets}
use Rattle.layout.specs.Sections.{starts, table_of}
use Rattle.layout.proofs.Lookup.{structs_most, functions_most, read_accepted, read_short, read_bad}
use Rattle.layout.proofs.read_layout.Goals as goal
use Rattle.layout.proofs.read_layout.Goals.{then-table-lt-TABLE-via-then-table-lt-TABLE, then-table-lt-TABLE-via-else-table-lt-TABLE+then-not-is_layout}

pub returns-then-table-lt-TABLE : goal.returns-then-table-lt-TABLE
returns-then-table-lt-TABLE c = elim c.then-table-lt-TABLE.branch [
  | then-table-lt-TABLE-via-then-table-lt-TABLE w ↦ read_short c.args.bytes.now c.args.table.now w.if-table-lt-TABLE.true
  | then-table-lt-TABLE-via-else-table-lt-TABLE+then-not-is_layout w ↦ read_bad c.args.bytes.now c.args.table.now (search rules)
]

pub write_starts-structs-requires-clause-room : goal.write_starts-structs-requires-clause-room
write_starts-structs-requires-clause-room c = let m = structs_most c.args.bytes.now (search rules) in omega arith

pub write_starts-functions-requires-clause-room : goal.write_starts-functions-requires-clause-room
write_starts-functions-requires-clause-room c =
    let m = functions_most c.args.bytes.now (search rules) in
    omega (arith, ap length c.write_starts-structs.ensures.table_after, length-sets c.args.table.now 0 (starts 1 c.args.bytes.now))

pub returns : goal.returns
unfolding table_of
returns c =
    rw (c.count.ensures, c.count-2.ensures, c.write_starts-functions.ensures.table_after, c.write_starts-structs.ensures.table_after, c.write_starts-structs.ensures.value, c.write_starts-functions.ensures.value)
    (read_accepted c.args.bytes.now c.args.table.now (search rules) c.if-table-lt-TABLE.false)
