use Rattle.std.proofs.Common.{ap, ◌∙◌, eq-eqb, ne_eqb}
use Rattle.map_store.specs.Store as S
use Rattle.map_store.specs.Later.{Search}
use Rattle.map_store.specs.LaterLaws.{searched-first}
use Rattle.map_store.proofs.reading.Map.start_of.Goals as goal

pub returns-in-None : goal.returns-in-None
unfolding S.start_of
returns-in-None c = rw c.in-None.is

pub returns-in-Some : goal.returns-in-Some
unfolding S.start_of
returns-in-Some c = rw (c.in-Some.is, eq-eqb _ _ c.if-c-self.true)

pub returns-in-Some-2 : goal.returns-in-Some-2
unfolding S.start_of
returns-in-Some-2 c =
    rw (c.in-Some-2.is, ne_eqb _ _ c.if-c-self.false)
    (ap (λ (r : Search). r.pos) c.first_later.ensures ∙ searched-first _ _ _ _ c.args.self.now.good.numbered)
