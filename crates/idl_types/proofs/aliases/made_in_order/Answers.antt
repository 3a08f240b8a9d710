use Rattle.std.proofs.Common.{List, Option}
use Rattle.idl_include.specs.SourcesOf.{program_in}
use Rattle.schema.specs.declared.types.TypeDesc.{TypeDesc}
use Rattle.idl_types.specs.Known.{AreAliasTypes}
use Rattle.idl_types.proofs.Sets.{kept_right}
use Rattle.idl_types.proofs.aliases.made_in_order.Goals as goal

pub returns : goal.returns
returns c = kept_right (λ made. AreAliasTypes (program_in c.args.names.now) made.items) c.make_each-done.new.made c.make_each-done.result c.kept.result c.kept.ensures c.make_each-done.ensures
