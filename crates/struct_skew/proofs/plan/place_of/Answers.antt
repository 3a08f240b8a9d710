use Rattle.std.proofs.Common.{refl, map, rules}
use Rattle.std.proofs.lemmas.List.Sorted.{answers_always}
use Rattle.schema.specs.declared.types.FieldDesc.{FieldDesc}
use Rattle.schema.specs.SchemaOf.{plain_field}
use Rattle.schema.proofs.FindById.{search_missed}
use Rattle.struct_skew.proofs.PlacesOfIds.{place_found, place_missed}
use Rattle.struct_skew.proofs.plan.place_of.Goals as goal

pub returns-in-Ok : goal.returns-in-Ok
returns-in-Ok c =
    let equal = c.in-Ok.ensures.position (λ (f : FieldDesc). f.id) (answers_always _ _ _ (λ f a r g called. search rules)) in
    place_found c.args.id.now c.args.id.now refl c.args.fields.now c.in-Ok.place c.requires equal c.in-Ok.ensures.bound

pub returns-in-Err : goal.returns-in-Err
returns-in-Err c =
    let parted = c.in-Err.ensures.position (λ (f : FieldDesc). f.id) (answers_always _ _ _ (λ f a r g called. search rules)) in
    place_missed c.args.id.now (map plain_field c.args.fields.now)
    (search_missed c.args.id.now c.args.id.now refl c.args.fields.now c.in-Err.field-0 c.requires parted)
