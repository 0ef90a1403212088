use native.Mathlib.Omega.{arith}
use Rattle.heap.proofs.ReachLaws.{found-reached, scalars_fit, slot-fits}
use Rattle.collections_iterators.proofs.VisitLaws.{source-array, source-map, visits_array, visits_else, visits_map, visits_missed, visits_none}
use Rattle.collections_iterators.proofs.advance.Goals as goal

pub returns-then-x-ne0 : goal.returns-then-x-ne0
returns-then-x-ne0 c = visits_none c.if-x-ne0.true c.requires.epoch

pub returns-in_default : goal.returns-in_default
returns-in_default c = visits_missed c.args.view.now.good c.find.ensures c.if-x-ne0.false c.in_default.is c.requires.epoch c.ended.ensures

pub read_header-h-requires : goal.read_header-h-requires
read_header-h-requires c = slot-fits c.args.view.now.good (found-reached c.args.view.now.good c.find.ensures c.in-Ok.is)

pub visit_array-requires : goal.visit_array-requires
visit_array-requires c = record { array = source-array c.args.view.now.good c.find.ensures c.in-Ok.is c.read_header-h.ensures c.in-6.is; epoch = c.requires.epoch }

pub returns-in-6 : goal.returns-in-6
returns-in-6 c = visits_array c.args.view.now.good c.find.ensures c.if-x-ne0.false c.in-Ok.is c.read_header-h.ensures c.in-6.is c.visit_array.ensures

pub read_part-requires : goal.read_part-requires
read_part-requires c = scalars_fit c.args.view.now.good (found-reached c.args.view.now.good c.find.ensures c.in-Ok.is)

pub visit_map-requires : goal.visit_map-requires
visit_map-requires c = record { map = source-map c.args.view.now.good c.find.ensures c.in-Ok.is c.read_header-h.ensures c.in-7.is c.read_part.ensures; epoch = c.requires.epoch }

pub returns-in-7 : goal.returns-in-7
returns-in-7 c = visits_map c.args.view.now.good c.find.ensures c.if-x-ne0.false c.in-Ok.is c.read_header-h.ensures c.in-7.is c.read_part.ensures c.visit_map.ensures

pub returns-in_default-kind : goal.returns-in_default-kind
returns-in_default-kind c =
    visits_else c.args.view.now.good c.find.ensures c.if-x-ne0.false c.in-Ok.is c.read_header-h.ensures (λ z. absurd (omega (arith, z))) (λ z. absurd (omega (arith, z))) c.requires.epoch c.ended-in_default-kind.ensures
