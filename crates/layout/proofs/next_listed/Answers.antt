use Rattle.std.proofs.Common.{◌≡◌, ◌-◌, ◌<◌, length, drop, ◌∙◌, sym, rules, arith, length-drop}
use Rattle.std.proofs.Math.Seq.{take_all}
use Rattle.layout.proofs.Listing.{listing_start, listing_past, listing_unread, listing_over, listing_found, listing_foreign, listing_passed}
use Rattle.layout.proofs.next_listed.Goals as goal

pub returns-in_err-rest : goal.returns-in_err-rest
returns-in_err-rest c = rw c.from_residual.ensures (let past : length c.args.bytes.now < c.args.at = grind (arith, c.in_err-rest.ensures.lookup) in listing_past _ _ _ past)

pub loop-command-init : goal.loop-command-init
loop-command-init c =
    let bs = c.args.bytes.now in
    listing_start c.args.entry c.in_ok-rest.ensures.lookup.0.0 (c.in_ok-rest.ensures.lookup.0.2 ∙ take_all (length bs - c.args.at) (drop c.args.at bs) (omega (arith, length-drop c.args.at bs)))

pub returns-in_default-command : goal.returns-in_default-command
returns-in_default-command c = listing_over c.loop-command.invariant c.in-Some.command c.in-Some.after.now c.in-Some.ensures c.in_default-command.not-Lists

pub returns-then-eq : goal.returns-then-eq
returns-then-eq c = rw c.from.ensures (listing_found c.loop-command.invariant c.in-Lists.listed c.in-Lists.number c.in-Some.after.now (rw c.in-Lists.is at c.in-Some.ensures) (search rules) (omega arith))

pub returns-then-ne : goal.returns-then-ne
returns-then-ne c = listing_foreign c.loop-command.invariant c.in-Lists.listed c.in-Lists.number c.in-Some.after.now (rw c.in-Lists.is at c.in-Some.ensures) (λ e. let u : c.section.result ≡ c.section-in-Some.result = c.section.ensures ∙ e ∙ sym c.section-in-Some.ensures in search rules)

pub loop-command-preserved : goal.loop-command-preserved
loop-command-preserved c =
    let u : c.section.result ≡ c.section-in-Some.result = search rules in
    listing_passed c.loop-command.invariant c.in-Lists.listed c.in-Lists.number c.in-Some.after.now (rw c.in-Lists.is at c.in-Some.ensures) (sym c.section.ensures ∙ u ∙ c.section-in-Some.ensures) (λ e. search rules)

pub returns : goal.returns
returns c = listing_unread c.loop-command.invariant c.in_default.ensures
