use Rattle.std.proofs.Common.{◌∙◌, ap, sym, int_lt, w16}
use Rattle.std.proofs.lemmas.Int.{to_z-of_z}
use Rattle.thrift_value.specs.TreeOf.{field_tree}
use Rattle.value_text.specs.Reading.{id_comes_behind}
use Rattle.value_text.proofs.RowSteps.{last_mapped}
use Rattle.value_text.proofs.reading.id_comes_behind.Goals as goal

pub returns-in-Some : goal.returns-in-Some
returns-in-Some c =
    c.is_below.ensures ∙ ap (int_lt c.in-Some.last.now.0) (to_z-of_z w16 c.args.id c.ranges.id)
    ∙ ap (λ o. id_comes_behind o c.args.id) (sym (last_mapped field_tree c.args.before.now _ c.in-Some.last.now c.in-Some.ensures.cases.0))
