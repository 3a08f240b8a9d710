use Rattle.std.proofs.Common.{map}
use Rattle.idl_parser.specs.declared.tree.EnumValue.{EnumValue}
use Rattle.idl_include.specs.Declarations.{EnumValueDecl}
use Rattle.idl_include.specs.DeclaredIn.{enum_value_in}
use Rattle.idl_names.specs.Before.{texts_of}
use Rattle.idl_names.proofs.MarksAt.{marked_at, texts_in_values}
use Rattle.idl_names.proofs.enums.value_name_shown.Goals as goal

pub invariant_of-result : goal.invariant_of-result
invariant_of-result c = record {
  marked =
      marked_at (λ (v : EnumValue). v.name.text) c.args.values.now c.split_at.result.0.now
      (texts_of (map (λ (v : EnumValueDecl). v.name) (map enum_value_in c.split_at.result.0.now))) c.args.place c.index-values-place.result c.args.repeated c.requires.place
      c.split_at.ensures.front (texts_in_values c.split_at.result.0.now) c.requires.marked;
}
