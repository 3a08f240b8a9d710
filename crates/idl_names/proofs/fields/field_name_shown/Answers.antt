use Rattle.idl_names.proofs.fields.field_name_shown.Goals as goal

pub invariant_of-result : goal.invariant_of-result
invariant_of-result c = record { marked = c.requires.name }
