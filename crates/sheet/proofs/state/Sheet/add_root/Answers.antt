use Rattle.std.proofs.Common.{refl, rules}
use Rattle.history.proofs.Facts.{leb_no, leb_yes}
use Rattle.sheet.proofs.ShownLaws.{root-added}
use Rattle.sheet.proofs.state.Sheet.add_root.Goals as goal

pub returns-then-self-lt64 : goal.returns-then-self-lt64
returns-then-self-lt64 c =
    record {
      refusal = rw (leb_no 64 c.args.self.now.count c.if-self-lt64.true) refl;
      roots = root-added c.args.self.now.roots c.args.self.now.count c.args.w c.if-self-lt64.true (search rules);
      same = refl;
    }

pub returns : goal.returns
returns c =
    let full = leb_yes 64 c.args.self.now.count c.if-self-lt64.false in
    record { refusal = rw full refl; roots = rw full refl; same = refl }
