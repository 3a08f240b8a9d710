use Rattle.std.proofs.Common.{Some, sym, rules, to_z, of_z}
use Rattle.std.specs.Int.{w16}
use Rattle.std.proofs.lemmas.Int.{to_z-of_z}
use Rattle.std.proofs.lemmas.List.Sorted.{answers_always}
use Rattle.schema.specs.declared.types.FieldDesc.{FieldDesc}
use Rattle.schema.proofs.FindById.{search_found, search_missed}
use Rattle.struct_skew.proofs.declared.searched_field.Goals as goal

pub returns-in_ok-field-in-Ok : goal.returns-in_ok-field-in-Ok
returns-in_ok-field-in-Ok c =
    let equal = c.in-Ok.ensures.position (λ (f : FieldDesc). f.id) (answers_always _ _ _ (λ f a r g called. search rules)) in
    search_found c.args.id (to_z w16 (of_z w16 c.args.id)) (to_z-of_z w16 c.args.id c.ranges.id) c.args.declared.now c.in-Ok.place (Some c.in_ok-field-in-Ok.field.now) c.requires equal c.in-Ok.ensures.bound c.in_ok-field-in-Ok.ensures

pub returns-in-Err : goal.returns-in-Err
returns-in-Err c =
    let parted = c.in-Err.ensures.position (λ (f : FieldDesc). f.id) (answers_always _ _ _ (λ f a r g called. search rules)) in
    sym (search_missed c.args.id (to_z w16 (of_z w16 c.args.id)) (to_z-of_z w16 c.args.id c.ranges.id) c.args.declared.now c.in-Err.field-0 c.requires parted)
