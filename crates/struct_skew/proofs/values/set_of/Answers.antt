use Rattle.std.proofs.Common.{subst}
use Rattle.schema.specs.PlainKind.{kind_of}
use Rattle.thrift_value.specs.TreeOf.{tree_of}
use Rattle.std.proofs.Common.{map}
use Rattle.struct_skew.specs.Answering.{ProjectsOrNoMemory}
use Rattle.struct_skew.proofs.Containers.{set_meant}
use Rattle.struct_skew.proofs.values.set_of.Goals as goal

pub returns-in_ok-items-in-Ok : goal.returns-in_ok-items-in-Ok
returns-in_ok-items-in-Ok c meant means =
    set_meant (kind_of c.args.member.now) c.in-Ok.items.items _ c.tag_of_kind.result c.new.result meant
    (subst (λ r. ProjectsOrNoMemory (λ v. map tree_of v.items) r meant) c.in-Ok.is means) c.in_ok-items-in-Ok.ensures c.new.ensures c.tag_of_kind.ensures
