use Rattle.map_store.proofs.Calls.{search_start, search_none, search_on, search_ends}
use Rattle.map_store.proofs.reading.Map.first_later.Goals as goal

pub loop-pos-init : goal.loop-pos-init
loop-pos-init c = search_start _ _ c.args.self.now.good _

pub returns-then-self-pos : goal.returns-then-self-pos
returns-then-self-pos c = search_ends _ _ c.args.self.now.good _ _ c.loop-pos.invariant c.loop-pos-test.true c.if-self-pos.true

pub loop-pos-preserved : goal.loop-pos-preserved
loop-pos-preserved c = search_on _ _ c.args.self.now.good _ _ c.loop-pos.invariant c.loop-pos-test.true c.if-self-pos.false

pub returns : goal.returns
returns c = search_none _ _ c.args.self.now.good _ _ c.loop-pos.invariant c.loop-pos-test.false
