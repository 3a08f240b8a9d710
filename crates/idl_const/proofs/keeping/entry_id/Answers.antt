use Rattle.std.proofs.Common.{FitsSigned, sym, ap, ◌∙◌, rules}
use Rattle.std.specs.Int.{w16}
use Rattle.std.proofs.lemmas.Int.{to_z-of_z}
use Rattle.idl_const.specs.FieldEntries.{entry_in, entry_id}
use Rattle.idl_const.proofs.keeping.entry_id.Goals as goal

pub returns-in-Given : goal.returns-in-Given
returns-in-Given c =
    let fits : FitsSigned w16 c.in-Given.id = search rules in
    to_z-of_z w16 c.in-Given.id fits ∙ sym (ap (λ e. entry_id (entry_in e)) c.in-Given.is)

pub returns-in-Owed : goal.returns-in-Owed
returns-in-Owed c =
    let fits : FitsSigned w16 c.in-Owed.field.now.id = search rules in
    to_z-of_z w16 c.in-Owed.field.now.id fits ∙ sym (ap (λ e. entry_id (entry_in e)) c.in-Owed.is)
