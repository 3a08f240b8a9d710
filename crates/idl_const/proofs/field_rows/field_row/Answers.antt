use Rattle.std.proofs.Common.{◌≡◌, ◌++◌, map, ap, ◌∙◌}
use Rattle.std.proofs.lemmas.Result.{IfOk-weaker}
use Rattle.idl_const.specs.FieldEntries.{entry_in, given_entry, given_in_memory}
use Rattle.idl_const.specs.FieldRows.{owed_in}
use Rattle.idl_const.proofs.FieldRowLaws.{row_meets}
use Rattle.idl_const.proofs.field_rows.field_row.Goals as goal

pub returns : goal.returns
returns c =
    let items_are : map entry_in c.put_given.new.row.items ≡ map owed_in c.args.owed.now ++ map given_entry (map given_in_memory c.args.given.items) =
    c.in_ok-put_given.ensures
    ∙ (λ i. (c.in_ok-put_owed.ensures ∙ ap (λ l. map entry_in l ++ map owed_in c.args.owed.now) c.new-row.ensures.items) i ++ map given_entry (map given_in_memory (c.from.ensures.0 i))) in
    IfOk-weaker c.tidied.result _ _ (λ row row_are. row_meets c.put_given.new.row.items row.items c.args.owed.now c.args.given.items items_are row_are) c.tidied.ensures
