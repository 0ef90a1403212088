use Rattle.heap_access.proofs.ReadCalls.{register_read}
use Rattle.heap_access.proofs.ReadingLaws.{register-words, words-fit}
use Rattle.heap_access.proofs.readings.read_register.Goals as goal

pub read_word-requires : goal.read_word-requires
read_word-requires c = words-fit c.args.view.now.good register-words

pub returns : goal.returns
returns c = register_read c.args.view.now.good _ c.read_word.ensures
