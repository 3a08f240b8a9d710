-- The struct of a result, from a value that is lent.
use Rattle.std.specs.Prelude.{⊤}
use Rattle.thrift_value.specs.Sizes.{HasSmallSizes}
use Rattle.thrift_value.specs.Tree.{FieldTrees, no_fields, field}
use Rattle.thrift_value.specs.TreeOf.{tree_of}
use Rattle.processor.specs.declared.results.ResultField.{ResultField}
use Rattle.processor.specs.declared.results.ResultField.TheVariants.{Nothing, One}

-- its fields
abbrev pub lent_fields : ResultField → FieldTrees
lent_fields Nothing = no_fields
lent_fields (One id value) = field id (tree_of value.now) no_fields

-- its lengths and sizes have an encoding
abbrev pub HasSmallField : ResultField → Type 0
HasSmallField Nothing = ⊤
HasSmallField (One id value) = HasSmallSizes (tree_of value.now)
