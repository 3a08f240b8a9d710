use Rattle.std.proofs.Common.{◌≡◌, map, take}
use Rattle.idl_parser.specs.declared.tree.Const.{Const}
use Rattle.idl_names.specs.declared.filed.InFile.{InFile}
use Rattle.const_evaluator.specs.Places.{number_at_place}
use Rattle.const_evaluator.proofs.tables.constant_values.Given as goal

abbrev pub invariant-loop-constant : goal.invariant-loop-constant
invariant-loop-constant l = l.numbers.items ≡ map (λ (c : InFile Const). number_at_place l.places c.file c.item.now.name.at) (take l.constant-index l.constants)
