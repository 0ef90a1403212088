use Rattle.commands.proofs.ActLaws.{read_both}
use Rattle.commands.proofs.readings.function_read.Goals as goal

pub returns : goal.returns
returns c = read_both c.function_number.ensures c.is_import.ensures c.answer-number.ensures c.answer-import.ensures c.with_second.ensures
