use Rattle.std.proofs.Common.{◌∙◌, ap, sym, map}
use Rattle.idl_parser.specs.declared.tree.EnumValue.{EnumValue}
use Rattle.idl_include.specs.DeclaredIn.{enum_value_in}
use Rattle.idl_names.specs.EnumRange.{fits_enum}
use Rattle.idl_names.proofs.MarksAt.{fits_at}
use Rattle.idl_names.proofs.enums.value_shown.Goals as goal

pub invariant_of-result : goal.invariant_of-result
invariant_of-result c = record {
  marked =
      fits_at c.args.values.now c.split_at.result.0.now c.args.place c.index-values-place.result c.args.fits c.requires.place c.split_at.ensures.front c.requires.marked
      ∙ ap (λ (v : EnumValue). fits_enum (map enum_value_in c.split_at.result.0.now) (enum_value_in v)) (sym c.index-values-place.is);
}
