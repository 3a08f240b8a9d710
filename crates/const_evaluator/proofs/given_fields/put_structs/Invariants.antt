use Rattle.std.proofs.Common.{◌≡◌, ◌++◌, map, take}
use Rattle.const_evaluator.specs.GivenFields.{fields_given, struct_fields}
use Rattle.const_evaluator.proofs.given_fields.put_structs.Given as goal

-- the structs so far
abbrev pub invariant-loop-one : goal.invariant-loop-one
invariant-loop-one l = map fields_given l.lists.items ≡ map fields_given l.fn.lists.items ++ map struct_fields (take l.one-index l.structs)
