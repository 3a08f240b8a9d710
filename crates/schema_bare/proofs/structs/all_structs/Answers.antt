use Rattle.std.proofs.Common.{rules}
use Rattle.idl_include.specs.SourcesOf.{program_in}
use Rattle.schema_bare.proofs.Adding.{all_made}
use Rattle.schema_bare.proofs.structs.all_structs.Goals as goal

pub returns : goal.returns
returns c =
    all_made (program_in c.args.tables.now.names.now) c.args.structs.now c.args.services.now c.in_ok-made.made.items c.put_structs.new.structs.items
    c.put_all_args.new.structs.items c.requires.structs c.requires.services (search (rules, c.in_ok-made.ensures.items)) c.in_ok-put_structs.ensures c.in_ok-put_all_args.ensures
