use Rattle.heap_access.proofs.ReadingLaws.{capture-words, words-fit}
use Rattle.heap_access.proofs.StoreCalls.{capture-store}
use Rattle.heap_access.proofs.stores.store_capture.Goals as goal

pub store_word-requires : goal.store_word-requires
store_word-requires c = words-fit c.requires capture-words

pub returns : goal.returns
returns c = capture-store _ _ c.requires c.store_word.ensures
