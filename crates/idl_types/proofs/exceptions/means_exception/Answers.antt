use Rattle.idl_include.specs.DeclaredIn.{type_in}
use Rattle.idl_include.specs.SourcesOf.{program_in}
use Rattle.idl_names.specs.FiledIn.{filed_structs}
use Rattle.schema.specs.PlainKind.{kind_of}
use Rattle.idl_types.proofs.Throwing.{kind_tells}
use Rattle.idl_types.proofs.exceptions.means_exception.Goals as goal

pub returns : goal.returns
returns c =
    kind_tells (program_in c.args.tables.now.names.now) (filed_structs c.args.structs.now) c.args.file (type_in c.args.tree.now) (kind_of c.in_ok-kind.kind)
    c.is_exception_kind.result c.requires.structs c.in_ok-kind.ensures c.is_exception_kind.ensures
