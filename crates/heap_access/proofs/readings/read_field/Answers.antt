use Rattle.heap_access.proofs.ReadCalls.{field_read}
use Rattle.heap_access.proofs.ReadingLaws.{field-words, words-fit}
use Rattle.heap_access.proofs.readings.read_field.Goals as goal

pub read_word-requires : goal.read_word-requires
read_word-requires c = words-fit c.args.view.now.good field-words

pub returns : goal.returns
returns c = field_read c.args.view.now.good _ c.read_word.ensures
