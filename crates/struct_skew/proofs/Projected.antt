-- What a projection is, and what its faults name.
use Rattle.std.proofs.Common.{◌≡◌, ℕ, Bool, true, false, cond, Result, Ok, Err, refl, subst}
use Rattle.std.specs.Prelude.{⊤, MatchResult, nat_lt}
use Rattle.thrift_value.specs.declared.tag.Tag.TheVariants as tag
use Rattle.thrift_value.specs.Measures.{count_of, depth_of}
use Rattle.thrift_value.specs.Sizes.{HasSmallSizes}
use Rattle.thrift_value.specs.Tags.{tag_of}
use Rattle.thrift_value.specs.Tidy.{IsTidy}
use Rattle.thrift_value.specs.Tree.{Tree, of_struct}
use Rattle.schema.specs.PlainKind.{kind_struct}
use Rattle.schema.specs.PlainSchema.{PlainSchema}
use Rattle.schema.specs.Sound.{IsSound, IsPlaceIn}
use Rattle.schema.specs.WrittenAs.{IsWrittenAs}
use Rattle.struct_skew.specs.declared.fault.SkewFault.{SkewFault}
use Rattle.struct_skew.specs.declared.fault.SkewFault.TheVariants.{TooDeep, TooMany}
use Rattle.struct_skew.specs.Fits.{fits_kind}
use Rattle.struct_skew.specs.Projection.{bounded, meaning_of, projection}
use Rattle.struct_skew.specs.ProjectionLaws.{NamesDeclared}
use Rattle.struct_skew.specs.Results.{and_if_ok}
use Rattle.struct_skew.proofs.Rightness.{IsRight, meaning_right}

fits_struct : (which : ℕ) (raw : Tree) → tag_of raw ≡ tag.Struct → fits_kind (kind_struct which) raw ≡ true
fits_struct which (of_struct _) is = refl
fits_struct which _ is = absurd cc

module _ (s : PlainSchema) (sound : IsSound s) (which : ℕ) (within : IsPlaceIn s.structs which) (raw : Tree) (is_struct : tag_of raw ≡ tag.Struct) where
  projected : (small : Type 0) → (small → HasSmallSizes raw) → MatchResult (projection s which raw) (IsRight s.structs small (kind_struct which)) (NamesDeclared s)
  projected small sized =
      by_meaning (meaning_of s.structs raw (kind_struct which)) (meaning_right s sound.all_else.structs small raw (kind_struct which) within (fits_struct which raw is_struct) sized)
    where
      by_bounds : (x : Tree) (deep many : Bool) → IsRight s.structs small (kind_struct which) x
          → MatchResult (cond deep (Err TooDeep) (cond many (Err TooMany) (Ok x))) (IsRight s.structs small (kind_struct which)) (NamesDeclared s)
      by_bounds x true many right = tt
      by_bounds x false true right = tt
      by_bounds x false false right = right

      by_meaning : (r : Result Tree SkewFault) → MatchResult r (IsRight s.structs small (kind_struct which)) (NamesDeclared s)
          → MatchResult (and_if_ok r bounded) (IsRight s.structs small (kind_struct which)) (NamesDeclared s)
      by_meaning (Ok x) right = by_bounds x (nat_lt 64 (depth_of x)) (nat_lt 4000000 (count_of x)) right
      by_meaning (Err e) names = names

  right_value : (small : Type 0) → (small → HasSmallSizes raw) → (value : Tree) → projection s which raw ≡ Ok value → IsRight s.structs small (kind_struct which) value
  right_value small sized value is = subst (λ r. MatchResult r (IsRight s.structs small (kind_struct which)) (NamesDeclared s)) is (projected small sized)

  pub projection_tidy : (value : Tree) → projection s which raw ≡ Ok value → IsTidy value
  projection_tidy value is = (right_value ⊥ (λ no. absurd no) value is).tidy

  pub projection_typed : (value : Tree) → projection s which raw ≡ Ok value → IsWrittenAs s.structs (kind_struct which) value
  projection_typed value is = (right_value ⊥ (λ no. absurd no) value is).typed

  pub projection_sized : HasSmallSizes raw → (value : Tree) → projection s which raw ≡ Ok value → HasSmallSizes value
  projection_sized small value is = (right_value ⊤ (λ _. small) value is).sized tt

  pub projection_names : (fault : SkewFault) → projection s which raw ≡ Err fault → NamesDeclared s fault
  projection_names fault is = subst (λ r. MatchResult r (IsRight s.structs ⊥ (kind_struct which)) (NamesDeclared s)) is (projected ⊥ (λ no. absurd no))
