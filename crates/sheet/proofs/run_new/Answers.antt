use Rattle.std.proofs.Common.{refl, rules}
use Rattle.text.proofs.WritesLaws.{writes-lent}
use Rattle.sheet.proofs.PlayLaws.{puts_prints}
use Rattle.sheet.proofs.OpeningLaws.{Long, never_refused, opened-tabled, opened-whole, opened_prints}
use Rattle.sheet.proofs.run_new.Goals as goal

pub returns-in_default : goal.returns-in_default
returns-in_default c =
    let b : Long c.new-buffers.result = record { slots = search rules; scalars = search rules; list = search rules; directory = search rules; cells = search rules; marks = search rules; order = search rules } in
    absurd (never_refused b refl c.«open».ensures c.in_default.not-Ok)

pub invariant_of-layout : goal.invariant_of-layout
invariant_of-layout c =
    let b : Long c.new-buffers.result = record { slots = search rules; scalars = search rules; list = search rules; directory = search rules; cells = search rules; marks = search rules; order = search rules } in
    record { tabled = opened-tabled b refl c.«open».ensures _ c.in-Ok.is }

pub invariant_of-sheet : goal.invariant_of-sheet
invariant_of-sheet c =
    let b : Long c.new-buffers.result = record { slots = search rules; scalars = search rules; list = search rules; directory = search rules; cells = search rules; marks = search rules; order = search rules } in
    record { whole = opened-whole b refl c.«open».ensures _ c.in-Ok.is }

pub returns : goal.returns
returns c =
    let b : Long c.new-buffers.result = record { slots = search rules; scalars = search rules; list = search rules; directory = search rules; cells = search rules; marks = search rules; order = search rules } in
    opened_prints b refl c.«open».ensures _ c.in-Ok.is c.args.input.now c.requires.input_len_bound (puts_prints (writes-lent c.play.ensures c.out-1.given.1.1))
