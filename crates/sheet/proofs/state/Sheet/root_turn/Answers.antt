use Rattle.std.proofs.Common.{◌≡◌, arith, length, rules}
use Rattle.sheet.proofs.CommandLaws.{commands_root}
use Rattle.sheet.proofs.state.Sheet.root_turn.Goals as goal

pub returns : goal.returns
returns c =
    let n : length c.args.self.now.roots ≡ 64 = search rules in
    commands_root (omega (arith, c.args.self.now.whole.few, n)) c.read_little.ensures.is c.add_root-refusal.ensures (rw c.from.ensures at c.put_line.ensures)
