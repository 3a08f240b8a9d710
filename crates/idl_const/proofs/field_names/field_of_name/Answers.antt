use Rattle.std.proofs.Common.{◌≡◌, slice_get, ◌∙◌}
use Rattle.std.specs.Option.{option_copied}
use Rattle.idl_const.proofs.FieldPlaces.{got, some_field, no_field}
use Rattle.idl_const.proofs.field_names.field_of_name.Goals as goal

pub returns-in-Some : goal.returns-in-Some
returns-in-Some c =
    let is : option_copied c.get.result ≡ slice_get c.args.fields.now c.in-Some.place = got c.args.fields.now c.in-Some.place c.get.result c.get.ensures.lookup in
    some_field c.args.fields.now c.args.name.now c.in-Some.place (option_copied c.get.result) is (c.in-Some.ensures ∙ c.requires c.args.name.now)

pub returns-in-None : goal.returns-in-None
returns-in-None c = no_field c.args.fields.now c.args.name.now (c.in-None.ensures ∙ c.requires c.args.name.now)
