use Rattle.idl_include.specs.SourcesOf.{program_in}
use Rattle.idl_types.specs.Known.{AreAliasTypes}
use Rattle.idl_types.proofs.aliases.make_each.Given as goal

abbrev pub invariant-loop-number : goal.invariant-loop-number
invariant-loop-number l = AreAliasTypes (program_in l.names) l.made.items
