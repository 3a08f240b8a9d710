use Rattle.std.proofs.Common.{ℕ, Bool, List, get_or, map, refl}
use Rattle.thrift_value.specs.Tree.{FieldTrees}
use Rattle.thrift_value.specs.TreeOf.{field_tree, field_trees}
use Rattle.schema.specs.PlainSchema.{PlainField}
use Rattle.schema.specs.SchemaOf.{plain_field}
use Rattle.struct_skew.specs.WrittenTests.{has_field_at, has_fields_at}
use Rattle.struct_skew.proofs.Steps.{get_or_same}
use Rattle.struct_skew.proofs.Tried.{one_fails, one_passes, all_pass}
use Rattle.struct_skew.proofs.written.has_fields_at.Goals as goal

-- what is tried of each place
abbrev all_there : List PlainField → FieldTrees → List ℕ → Bool
all_there declared fields places = has_fields_at declared places fields

abbrev one_there : List PlainField → FieldTrees → ℕ → Bool
one_there declared fields place = has_field_at declared place fields

pub returns-then-not-has_field_at : goal.returns-then-not-has_field_at
returns-then-not-has_field_at c =
    let declared = map plain_field c.args.declared.now in
    let fields = field_trees (map field_tree c.args.fields.now) in
    let i = c.loop-place.place-index in
    let place = get_or c.args.places.now i 0 in
    one_fails (all_there declared fields) (one_there declared fields) (λ p ps. refl) c.args.places.now i place c.loop-place-test.true (get_or_same c.args.places.now i 0 place c.loop-place-test.true)
    c.loop-place.invariant c.if-not-has_field_at.ensures

pub loop-place-preserved : goal.loop-place-preserved
loop-place-preserved c =
    let declared = map plain_field c.args.declared.now in
    let fields = field_trees (map field_tree c.args.fields.now) in
    let i = c.loop-place.place-index in
    let place = get_or c.args.places.now i 0 in
    one_passes (all_there declared fields) (one_there declared fields) (λ p ps. refl) c.args.places.now i place c.loop-place-test.true (get_or_same c.args.places.now i 0 place c.loop-place-test.true)
    c.loop-place.invariant c.if-not-has_field_at.ensures

pub returns : goal.returns
returns c =
    all_pass (all_there (map plain_field c.args.declared.now) (field_trees (map field_tree c.args.fields.now))) c.args.places.now c.loop-place.place-index refl c.loop-place-test.false c.loop-place.invariant
