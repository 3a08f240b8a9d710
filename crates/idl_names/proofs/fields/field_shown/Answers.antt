use Rattle.std.proofs.Common.{rules}
use Rattle.idl_include.specs.DeclaredIn.{field_in}
use Rattle.idl_names.proofs.fields.field_shown.Goals as goal

pub invariant_of-result : goal.invariant_of-result
unfolding field_in
invariant_of-result c = record { numbered = search (rules, c.requires.id); marked = search (rules, c.requires.repeated) }
