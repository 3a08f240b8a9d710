use Rattle.idl_include.specs.DeclaredIn.{type_in}
use Rattle.idl_include.specs.SourcesOf.{program_in}
use Rattle.idl_types.proofs.Meant.{result_means}
use Rattle.idl_types.proofs.meaning.type_meant.Goals as goal

pub returns : goal.returns
returns c = result_means (program_in c.args.tables.now.names.now) c.args.tables.now.aliases.now c.requires c.type_by.result c.args.file (type_in c.args.tree.now) c.type_by.ensures
