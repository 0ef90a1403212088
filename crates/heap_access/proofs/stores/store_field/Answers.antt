use Rattle.heap_access.proofs.ReadingLaws.{field-words, words-fit}
use Rattle.heap_access.proofs.StoreCalls.{field-store}
use Rattle.heap_access.proofs.stores.store_field.Goals as goal

pub store_word-requires : goal.store_word-requires
store_word-requires c = words-fit c.requires field-words

pub returns : goal.returns
returns c = field-store _ _ c.requires c.store_word.ensures
