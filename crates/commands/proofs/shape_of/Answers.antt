use mathlib.Core.Path.{refl}
use native.Mathlib.Omega.{arith}
use Rattle.commands.specs.Rows.{choose, coded, field_code, group_in, has, joined}
use Rattle.commands.specs.Table.{fields_code, fields_of, form_of, group_of, memory_of, table, coroutine_rows, groups, grow_rows, heap_rows, iterator_rows, lent_rows, list_rows, map_change_rows, map_number_rows, map_rows, new_list_rows, new_rows, plain_rows, session_rows, store_rows, word_rows}
use Rattle.commands.proofs.ShapeLaws.{form_code, memory_code, packed, row_of, rows_from, shape_end, shape_row}
use Rattle.commands.proofs.shape_of.Goals as goal

pub returns-then-code-gt102 : goal.returns-then-code-gt102
returns-then-code-gt102 c = shape_end _ (omega arith)

pub returns : goal.returns
unfolding rows_from row_of packed fields_of form_of memory_of group_of table joined choose group_in has coded field_code fields_code form_code memory_code groups session_rows word_rows plain_rows list_rows coroutine_rows map_rows map_number_rows iterator_rows heap_rows new_rows store_rows grow_rows map_change_rows new_list_rows lent_rows
returns c = rw (c.form_at.ensures, c.memory_at.ensures) (shape_row _ (omega arith) _ refl)
