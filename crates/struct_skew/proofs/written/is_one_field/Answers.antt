use Rattle.std.proofs.Common.{◌≡◌, ℤ, List, [], ◌∷◌, length, map, refl, arith}
use Rattle.std.specs.Prelude.{nat_eq}
use Rattle.std.proofs.lemmas.Bool.{ne_eqb}
use Rattle.thrift_value.specs.declared.value.Value.{Value}
use Rattle.thrift_value.specs.TreeOf.{field_tree, field_trees}
use Rattle.struct_skew.specs.WrittenTests.{is_one_field}
use Rattle.struct_skew.proofs.written.is_one_field.Goals as goal

by_length : (fields : List (ℤ × Value)) → nat_eq (length fields) 1 ≡ is_one_field (field_trees (map field_tree fields))
by_length [] = refl
by_length (f ∷ []) = refl
by_length (f ∷ (g ∷ fs)) = ne_eqb (length (f ∷ (g ∷ fs))) 1 (λ e. omega (arith, e))

pub returns : goal.returns
returns c = by_length c.args.fields.now
