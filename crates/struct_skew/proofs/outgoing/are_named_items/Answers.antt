use Rattle.std.proofs.Common.{◌∙◌, arith}
use Rattle.schema.specs.PlainKind.{kind_of}
use Rattle.struct_skew.proofs.OneTest.{some_named_items}
use Rattle.struct_skew.proofs.outgoing.are_named_items.Goals as goal

pub returns-in_default : goal.returns-in_default
returns-in_default c =
    c.is_tag_of.ensures ∙ some_named_items c.args.t (kind_of c.args.kind.now) c.args.items.now (omega (arith, c.in_default.len_at_least))
