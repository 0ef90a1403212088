use Rattle.heap_access.proofs.ReadCalls.{item_read}
use Rattle.heap_access.proofs.ReadingLaws.{item-words, words-fit}
use Rattle.heap_access.proofs.readings.read_item.Goals as goal

pub read_word-requires : goal.read_word-requires
read_word-requires c = words-fit c.args.view.now.good item-words

pub returns : goal.returns
returns c = item_read c.args.view.now.good _ c.read_word.ensures
