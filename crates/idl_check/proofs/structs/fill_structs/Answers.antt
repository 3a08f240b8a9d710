use Rattle.std.proofs.Common.{List, map, ap, subst, ◌∙◌}
use Rattle.std.specs.Prelude.{OnOk}
use Rattle.schema.specs.SchemaOf.{plain_struct}
use Rattle.idl_check.specs.Taking.{AreWorths}
use Rattle.idl_check.specs.Sites.{SitedFields, AllZipped, sited_in}
use Rattle.idl_check.specs.Filling.{IsStructFilled}
use Rattle.idl_check.proofs.structs.fill_structs.Goals as goal

pub returns : goal.returns
returns c program structs services worths =
    let P : List SitedFields → Type 0 =
    λ sites. OnOk c.fill_list.result (AllZipped (IsStructFilled program) sites (map plain_struct c.args.structs.now) (map plain_struct c.fill_list.new.structs)
    × AreWorths program c.fill_list.new.worths) in
    subst P (ap (map sited_in) c.as_slice.ensures.value ∙ c.in_ok-sites.ensures program structs services) (c.fill_list.ensures program worths)
