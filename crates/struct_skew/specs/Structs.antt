-- What is declared of a struct, in memory and as plain data.
use Rattle.std.specs.Prelude.{◌≡◌, ◌<ℤ◌, ℕ, List, Some, AllPairs}
use Rattle.std.specs.List.{slice_get}
use Rattle.schema.specs.declared.types.StructDesc.{StructDesc}
use Rattle.schema.specs.PlainSchema.{PlainField, PlainStruct}
use Rattle.schema.specs.SchemaOf.{plain_struct}
use Rattle.struct_skew.specs.declared.needs.StructNeeds.{StructNeeds}
use Rattle.struct_skew.specs.Needs.{needs_of, plain_needs}

-- the struct at a number, with what it needs, and its ids rise
pub record IsStructAt (structs : List PlainStruct) (which : ℕ) (desc : StructDesc) (needs : StructNeeds) : Type 0 where
  pub here : slice_get structs which ≡ Some (plain_struct desc)
  pub needed : plain_needs needs ≡ needs_of (plain_struct desc)
  pub rising : AllPairs (λ (f g : PlainField). f.id <ℤ g.id) (plain_struct desc).fields
