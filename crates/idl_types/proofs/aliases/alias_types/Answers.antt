use Rattle.std.proofs.Common.{rules, arith, ap, length}
use Rattle.idl_include.specs.SourcesOf.{program_in}
use Rattle.idl_types.proofs.Made.{all_known}
use Rattle.idl_types.proofs.aliases.alias_types.Goals as goal

pub returns-clause-all : goal.returns-clause-all
returns-clause-all c =
    all_known (program_in c.args.names.now) c.args.typedefs.now c.in_ok-made.made.items c.requires
    (omega (arith, c.if-len-typedefs.false, c.len.ensures, c.as_slice.ensures.len, ap length c.as_slice.ensures.value))
    (search (rules, c.if-not-are_all_made.ensures, c.as_slice.ensures.value))
