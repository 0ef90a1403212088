use Rattle.capi.proofs.Laws.{collects, good-loaded, rested-loaded}
use Rattle.capi.proofs.mch_collect.Goals as goal

pub collect-collection-requires-clause-good : goal.collect-collection-requires-clause-good
collect-collection-requires-clause-good c = good-loaded c.load-h.ensures c.requires.good

pub collect-collection-requires-clause-rested : goal.collect-collection-requires-clause-rested
collect-collection-requires-clause-rested c = rested-loaded c.load-h.ensures c.requires.rested

pub returns-clause-shows_list : goal.returns-clause-shows_list
returns-clause-shows_list c = collects _ c.load-h.ensures c.save.ensures c.collect-collection.ensures.does c.collected.ensures c.write_answer.ensures
