use Rattle.std.proofs.Common.{subst, map}
use Rattle.schema.specs.PlainKind.{kind_of}
use Rattle.thrift_value.specs.TreeOf.{pair_tree}
use Rattle.struct_skew.specs.Answering.{ProjectsOrNoMemory}
use Rattle.struct_skew.proofs.Containers.{map_meant}
use Rattle.struct_skew.proofs.values.map_of.Goals as goal

pub returns-in_ok-pairs-in-Ok : goal.returns-in_ok-pairs-in-Ok
returns-in_ok-pairs-in-Ok c meant means =
    map_meant (kind_of c.args.key.now) (kind_of c.args.value.now) c.in-Ok.pairs.items _ c.tag_of_kind-tag.result c.tag_of_kind.result c.new.result meant
    (subst (λ r. ProjectsOrNoMemory (λ v. map pair_tree v.items) r meant) c.in-Ok.is means) c.in_ok-pairs-in-Ok.ensures c.new.ensures c.tag_of_kind-tag.ensures c.tag_of_kind.ensures
