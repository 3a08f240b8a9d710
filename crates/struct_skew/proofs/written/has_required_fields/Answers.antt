use Rattle.std.proofs.Common.{◌≡◌, ap, map, ◌∙◌}
use Rattle.std.specs.Prelude.{⊤}
use Rattle.std.proofs.lemmas.Option.{MatchOption-at_some}
use Rattle.thrift_value.specs.TreeOf.{field_tree, field_trees}
use Rattle.schema.specs.SchemaOf.{plain_field}
use Rattle.struct_skew.specs.Needs.{is_required_field, places_from}
use Rattle.struct_skew.specs.WrittenTests.{has_fields_at}
use Rattle.struct_skew.proofs.RequiredPlaces.{required_places}
use Rattle.struct_skew.proofs.written.has_required_fields.Goals as goal

pub returns-in-Some : goal.returns-in-Some
returns-in-Some c =
    let declared = map plain_field c.args.declared.now in
    let fields = field_trees (map field_tree c.args.fields.now) in
    let known : c.in-Some.places.now ≡ places_from is_required_field 0 declared =
    MatchOption-at_some ⊤ (λ places. places.now ≡ places_from is_required_field 0 (map plain_field c.args.declared.now)) c.in-Some.places c.in-Some.is c.requires in
    c.has_fields_at.ensures ∙ ap (λ ps. has_fields_at declared ps fields) known ∙ required_places fields declared
