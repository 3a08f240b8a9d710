-- The bounds of a projection.
use Rattle.std.proofs.Common.{◌≡◌, ℕ, ◌≤◌, Bool, true, false, cond, Result, Ok, Err, refl, subst, ltb-false}
use Rattle.std.specs.Prelude.{nat_lt}
use Rattle.thrift_value.specs.Measures.{count_of, depth_of}
use Rattle.thrift_value.specs.Tree.{Tree}
use Rattle.schema.specs.PlainKind.{kind_struct}
use Rattle.schema.specs.PlainSchema.{PlainSchema}
use Rattle.struct_skew.specs.declared.fault.SkewFault.{SkewFault}
use Rattle.struct_skew.specs.declared.fault.SkewFault.TheVariants.{TooDeep, TooMany}
use Rattle.struct_skew.specs.Projection.{bounded, meaning_of, projection}
use Rattle.struct_skew.specs.Results.{and_if_ok}

within : (x value : Tree) (deep many : Bool) → nat_lt 64 (depth_of x) ≡ deep → nat_lt 4000000 (count_of x) ≡ many
    → cond deep (Err TooDeep) (cond many (Err TooMany) (Ok x)) ≡ Ok value → (depth_of value ≤ 64) × (count_of value ≤ 4000000)
within x value true many d m is = absurd cc
within x value false true d m is = absurd cc
within x value false false d m is =
    let same : x ≡ value = cc in
    let P : Tree → Type 0 = λ v. (depth_of v ≤ 64) × (count_of v ≤ 4000000) in
    subst P same (ltb-false 64 (depth_of x) d, ltb-false 4000000 (count_of x) m)

by_meaning : (r : Result Tree SkewFault) (value : Tree) → and_if_ok r bounded ≡ Ok value → (depth_of value ≤ 64) × (count_of value ≤ 4000000)
by_meaning (Ok x) value is = within x value (nat_lt 64 (depth_of x)) (nat_lt 4000000 (count_of x)) refl refl is
by_meaning (Err e) value is = absurd cc

pub projection_bounded : (s : PlainSchema) (which : ℕ) (raw value : Tree) → projection s which raw ≡ Ok value → (depth_of value ≤ 64) × (count_of value ≤ 4000000)
projection_bounded s which raw value is = by_meaning (meaning_of s.structs raw (kind_struct which)) value is
