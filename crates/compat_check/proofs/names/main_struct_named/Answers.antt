use Rattle.std.proofs.Common.{◌∙◌}
use Rattle.compat_check.proofs.names.main_struct_named.Goals as goal

pub returns : goal.returns
returns c = c.number_of_name.ensures ∙ c.requires c.args.name.now
