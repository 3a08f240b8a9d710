use Rattle.std.proofs.Common.{arith}
use Rattle.idl_include.specs.SourcesOf.{program_in}
use Rattle.idl_types.proofs.Made.{alias_put}
use Rattle.idl_types.proofs.aliases.make_alias.Goals as goal

pub returns : goal.returns
returns c =
    alias_put c.put_made.result (program_in c.args.names.now) c.args.typedefs.now c.args.made.now.items c.put_made.new.made.items c.args.number c.index-typedefs-place.result
    c.in_ok-kind.kind c.requires.typedefs (omega arith) c.index-typedefs-place.is c.in_ok-kind.ensures c.requires.made c.put_made.ensures.within c.put_made.ensures.put
