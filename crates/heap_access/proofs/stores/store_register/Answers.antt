use Rattle.heap_access.proofs.ReadingLaws.{register-words, words-fit}
use Rattle.heap_access.proofs.StoreCalls.{register-store}
use Rattle.heap_access.proofs.stores.store_register.Goals as goal

pub store_word-requires : goal.store_word-requires
store_word-requires c = words-fit c.requires register-words

pub returns : goal.returns
returns c = register-store _ _ c.requires c.store_word.ensures
