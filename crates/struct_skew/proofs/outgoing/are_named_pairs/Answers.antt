use Rattle.std.proofs.Common.{sym, ap, ◌∙◌, arith}
use Rattle.std.specs.Prelude.{◌&&◌}
use Rattle.schema.specs.PlainKind.{kind_of}
use Rattle.known_parts.specs.Parts.{are_same_tags, tag_of_kind}
use Rattle.struct_skew.proofs.OneTest.{some_named_pairs}
use Rattle.struct_skew.proofs.outgoing.are_named_pairs.Goals as goal

pub returns-then-is_tag_of : goal.returns-then-is_tag_of
returns-then-is_tag_of c =
    c.is_tag_of-then-is_tag_of.ensures ∙ ap (λ b. b && are_same_tags (tag_of_kind (kind_of c.args.value.now)) c.args.v) c.if-is_tag_of.ensures
    ∙ some_named_pairs c.args.k c.args.v (kind_of c.args.key.now) (kind_of c.args.value.now) c.args.pairs.now (omega (arith, c.in_default.len_at_least))

pub returns-else-is_tag_of : goal.returns-else-is_tag_of
returns-else-is_tag_of c =
    c.is_tag_of.ensures ∙ sym c.if-is_tag_of.ensures ∙ ap (λ b. b && are_same_tags (tag_of_kind (kind_of c.args.value.now)) c.args.v) c.if-is_tag_of.ensures
    ∙ some_named_pairs c.args.k c.args.v (kind_of c.args.key.now) (kind_of c.args.value.now) c.args.pairs.now (omega (arith, c.in_default.len_at_least))
