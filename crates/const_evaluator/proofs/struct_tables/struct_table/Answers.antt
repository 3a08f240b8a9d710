use Rattle.std.proofs.Common.{◌∙◌, List, map, ap, rules}
use Rattle.schema_bare.specs.declared.sorted.FieldById.{FieldById}
use Rattle.schema_bare.specs.ById.{numbered_in}
use Rattle.const_evaluator.specs.Places.{number_at_place}
use Rattle.const_evaluator.specs.GivenFields.{fields_given}
use Rattle.const_evaluator.proofs.Tabled.{table_right}
use Rattle.const_evaluator.proofs.struct_tables.struct_table.Goals as goal

pub returns-in-Ok-clause-right : goal.returns-in-Ok-clause-right
returns-in-Ok-clause-right c =
    table_right (number_at_place c.args.places.now) (fields_given c.args.list.now) (map numbered_in c.as_slice.result.now) c.as_slice-fields.result.now
    (record { desc = c.args.desc; places = c.in-Ok.places; owed = c.in_ok-owed.owed }) c.as_slice-fields.ensures
    (ap (λ (ss : List FieldById). map numbered_in ss) c.as_slice.ensures.value ∙ c.in_ok-sorted.ensures)
    (search rules) c.in_ok-owed.ensures.ids c.in_ok-owed.ensures.owed c.in-Ok.ensures
