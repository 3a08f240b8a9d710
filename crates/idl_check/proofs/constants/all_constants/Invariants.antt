use Rattle.std.proofs.Common.{map, take}
use Rattle.std.specs.List.{AllZip}
use Rattle.idl_include.specs.SourcesOf.{program_in}
use Rattle.idl_names.specs.FiledIn.{filed_by, const_declared}
use Rattle.schema.specs.SchemaOf.{plain_constant}
use Rattle.idl_check.specs.Taking.{AreWorths}
use Rattle.idl_check.specs.Filling.{IsConstantTaken}
use Rattle.idl_check.proofs.constants.all_constants.Given as goal

abbrev pub invariant-loop-one : goal.invariant-loop-one
invariant-loop-one l =
    AllZip (IsConstantTaken (program_in l.tables.names.now)) (map (filed_by const_declared) (take l.one-index l.given)) (map plain_constant l.made.items)
    × AreWorths (program_in l.tables.names.now) l.worths
