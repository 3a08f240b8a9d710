-- What is at fault with a pair of structs.
use Rattle.std.specs.Prelude.{ℕ, ℤ, pos, Bool, true, false, not, ◌&&◌, cond, List, Option, Some, None, is_none, find}
use Rattle.std.specs.List.{slice_get}
use Rattle.std.specs.Option.{option_map, option_or}
use Rattle.schema.specs.LookUp.{fields_at}
use Rattle.schema.specs.PlainSchema.{PlainField, PlainSchema}
use Rattle.schema.specs.WrittenAs.{field_with_id}
use Rattle.struct_skew.specs.Projection.{is_required, is_union}
use Rattle.struct_skew.specs.WrittenTests.{some_passes}
use Rattle.compat_model.specs.declared.break_kind.BreakKind.{BreakKind}
use Rattle.compat_model.specs.declared.break_kind.BreakKind.TheVariants as breaks
use Rattle.compat_model.specs.Likeness.{are_like}

-- a fault, with the id of the field where it is one of a field, and else 0
pub record StructFault : Type 0 where
  pub id : ℤ
  pub kind : BreakKind

-- a fault of a field
abbrev pub field_fault : BreakKind → PlainField → StructFault
field_fault kind f = record { id = f.id; kind = kind }

-- the first of some fields that passes a test
abbrev pub first_at_fault : BreakKind → (PlainField → Bool) → List PlainField → Option StructFault
first_at_fault kind test fields = option_map (field_fault kind) (find test fields)

-- one of two holds, and the other doesn't
abbrev pub holds_for_one_alone : Bool → Bool → Bool
holds_for_one_alone true other = not other
holds_for_one_alone false other = other

-- the struct at a number is a union
abbrev pub is_union_at : PlainSchema → ℕ → Bool
is_union_at s which = some_passes (slice_get s.structs which) (λ d. is_union d.kind)

-- one is a union, and the other isn't
abbrev pub kind_fault : Bool → Bool → Option StructFault
kind_fault one other = cond (holds_for_one_alone one other) (Some (record { id = pos 0; kind = breaks.Kind })) None

-- no field of the reader has this id
abbrev pub is_unknown : List PlainField → PlainField → Bool
is_unknown read f = is_none (field_with_id f.id read)

-- a field of the reader has this id and a type that isn't like it
abbrev pub is_unlike : List PlainField → PlainField → Bool
is_unlike read f = some_passes (field_with_id f.id read) (λ g. not (are_like f.kind g.kind))

-- a field has to be there for the reader, and not for the writer, who may not know it
abbrev pub is_newly_required : List PlainField → PlainField → Bool
is_newly_required written g = is_required g.need && not (some_passes (field_with_id g.id written) (λ f. is_required f.need))

-- a field of a union that the reader doesn't know
abbrev pub lost_field : Bool → List PlainField → List PlainField → Option StructFault
lost_field union written read = cond union (first_at_fault breaks.UnionField (is_unknown read) written) None

-- the first fault of fields that are written and those that they are read as: by kind, and within a kind by rising id
abbrev pub fields_fault : Bool → List PlainField → List PlainField → Option StructFault
fields_fault union written read =
    option_or (lost_field union written read)
    (option_or (first_at_fault breaks.Unlike (is_unlike read) written) (first_at_fault breaks.NewRequired (is_newly_required written) read))

-- the first fault of a struct of one schema that is read as one of another
abbrev pub struct_fault : PlainSchema → ℕ → PlainSchema → ℕ → Option StructFault
struct_fault s which t other =
    option_or (kind_fault (is_union_at s which) (is_union_at t other)) (fields_fault (is_union_at s which) (fields_at s which) (fields_at t other))
