use Rattle.std.proofs.Common.{take}
use Rattle.schema_bare.specs.GivenLists.{args_given}
use Rattle.idl_check.proofs.Sited.{AreBehind, one_given}
use Rattle.idl_check.proofs.sites.put_arguments.Given as goal

abbrev pub invariant-loop-function : goal.invariant-loop-function
invariant-loop-function l = AreBehind (one_given (args_given l.file)) l.initial.sites.items (take l.function-index l.functions) l.sites.items
