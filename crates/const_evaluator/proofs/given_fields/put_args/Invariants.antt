use Rattle.std.proofs.Common.{◌≡◌, ◌++◌, map, take}
use Rattle.const_evaluator.specs.GivenFields.{fields_given, args_fields}
use Rattle.const_evaluator.proofs.given_fields.put_args.Given as goal

-- the arguments so far
abbrev pub invariant-loop-function : goal.invariant-loop-function
invariant-loop-function l = map fields_given l.lists.items ≡ map fields_given l.fn.lists.items ++ map (args_fields l.file) (take l.function-index l.functions)
