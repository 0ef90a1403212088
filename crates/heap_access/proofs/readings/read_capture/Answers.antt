use Rattle.heap_access.proofs.ReadCalls.{capture_read}
use Rattle.heap_access.proofs.ReadingLaws.{capture-words, words-fit}
use Rattle.heap_access.proofs.readings.read_capture.Goals as goal

pub read_word-requires : goal.read_word-requires
read_word-requires c = words-fit c.args.view.now.good capture-words

pub returns : goal.returns
returns c = capture_read c.args.view.now.good _ c.read_word.ensures
