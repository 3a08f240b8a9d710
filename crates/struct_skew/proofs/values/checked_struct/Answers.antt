use Rattle.std.proofs.Common.{subst, ap, length, map}
use Rattle.thrift_value.specs.TreeOf.{field_tree}
use Rattle.struct_skew.specs.Answering.{ProjectsOrNoMemory}
use Rattle.struct_skew.proofs.Containers.{struct_meant}
use Rattle.struct_skew.proofs.values.checked_struct.Goals as goal

pub returns-else-is_wrong_number : goal.returns-else-is_wrong_number
returns-else-is_wrong_number c meant means =
    struct_meant c.args.which c.args.kind c.in-Ok.fields.items (length c.as_slice.result.now) c.is_wrong_number.result c.new.result meant
    (subst (λ r. ProjectsOrNoMemory (λ v. map field_tree v.items) r meant) c.in-Ok.is means) (ap length c.as_slice.ensures.value) c.is_wrong_number.ensures c.if-is_wrong_number.false c.new.ensures
