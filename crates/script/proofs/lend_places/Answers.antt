use native.Mathlib.Omega.{arith}
use Rattle.script.proofs.LendLaws.{few_places}
use Rattle.script.proofs.lend_places.Goals as goal

pub number_places-requires : goal.number_places-requires
number_places-requires c = (omega (arith, few_places c.args.memory c.args.o c.place_count-n.ensures c.requires.0 c.requires.1, c.requires.2), few_places c.args.memory c.args.o c.place_count-n.ensures c.requires.0 c.requires.1)

pub returns-clause-upper_bound : goal.returns-clause-upper_bound
returns-clause-upper_bound c = few_places c.args.memory c.args.o c.place_count-n.ensures c.requires.0 c.requires.1
