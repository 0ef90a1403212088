use mathlib.Core.Path.{refl}
use mathlib.Core.Logic.{inl, inr}
use Rattle.commands.specs.Rows.{choose}
use Rattle.commands.specs.Table.{act_in, lent_rows}
use Rattle.commands.proofs.RowLaws.{memory_0_c, memory_0_f, memory_26, no_row}
use Rattle.commands.proofs.ListLaws.{commanded-string, commanded-unknown, commanded_collection, places_given, roots_given}
use Rattle.commands.proofs.changes.lent_call.Goals as goal

pub returns-in-12-clause-by_index : goal.returns-in-12-clause-by_index
unfolding act_in choose lent_rows
returns-in-12-clause-by_index c =
    elim c.in-12.is [
      | inl e ↦ rw e (λ frames. commanded_collection _ c.collect.result _ (roots_given memory_0_c) refl c.collect.ensures.does (c.collected.ensures _))
      | inr e ↦ rw e (λ frames. commanded_collection _ c.collect.result _ (places_given memory_0_f) refl c.collect.ensures.does (c.collected.ensures _))
    ]

pub returns-in-38-clause-by_index : goal.returns-in-38-clause-by_index
unfolding act_in choose lent_rows
returns-in-38-clause-by_index c = rw c.in-38.is (λ frames. commanded-string _ c.read_string.result _ memory_26 refl (c.read_string.ensures _) c.answer.ensures)

pub returns-in_default-clause-by_index : goal.returns-in_default-clause-by_index
unfolding lent_rows
returns-in_default-clause-by_index c =
    let m = c.in_default.in_default-own.rest in
    λ frames. commanded-unknown (no_row lent_rows _ _ _ (((tt, λ e. m.0.1 (inl e)), λ e. m.0.1 (inr e)), m.1))
