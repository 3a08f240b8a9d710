use Rattle.std.proofs.Common.{◌≡◌, subst}
use Rattle.thrift_value.specs.declared.tag.Tag.TheVariants as tags
use Rattle.thrift_value.specs.TreeOf.{tree_of}
use Rattle.schema.specs.PlainKind.{kind_struct}
use Rattle.schema.specs.SchemaOf.{schema_of}
use Rattle.wire_model.specs.Decoder.{Unread}
use Rattle.wire_model.proofs.Answered.{front, taken_here, bytes_behind_place}
use Rattle.struct_skew.specs.ReadSettled.{ReadsSettled}
use Rattle.struct_skew.proofs.SettledWhole.{settled_at_place}
use Rattle.struct_skew.proofs.settled_reading.settled_in.Goals as goal

pub overflow_sub-result : goal.overflow_sub-result
overflow_sub-result g c =
    let s = schema_of c.args.schema.now in
    let start : c.new-ahead.result ≡ front c.args.bytes.now c.args.at = c.new-ahead.ensures in
    let here = subst (λ (r : Unread). ReadsSettled g.W.WireProtocol.wire 64 s.structs (kind_struct c.args.which) r (tree_of c.in_ok-value.value) c.settled_struct.new.ahead) start c.in_ok-value.ensures in
    rw c.len.ensures
    (taken_here g.W.WireProtocol.wire g.W.WireProtocol.format c.args.bytes.now c.args.at (tree_of c.in_ok-value.value) c.settled_struct.new.ahead
    (λ levels before after x. c.value_read_is_spelled.ensures levels tags.Struct before after x)
    (bytes_behind_place c.args.bytes.now c.args.at c.type_inv.bytes) here.read)

pub returns : goal.returns
returns g c =
    let s = schema_of c.args.schema.now in
    let start : c.new-ahead.result ≡ front c.args.bytes.now c.args.at = c.new-ahead.ensures in
    let here = subst (λ (r : Unread). ReadsSettled g.W.WireProtocol.wire 64 s.structs (kind_struct c.args.which) r (tree_of c.in_ok-value.value) c.settled_struct.new.ahead) start c.in_ok-value.ensures in
    rw c.len.ensures
    (settled_at_place g.W.WireProtocol.wire g.W.WireProtocol.format s c.args.which c.args.bytes.now c.args.at (tree_of c.in_ok-value.value) c.settled_struct.new.ahead c.requires.sound
    (λ levels before after x. c.value_read_is_spelled.ensures levels tags.Struct before after x)
    (bytes_behind_place c.args.bytes.now c.args.at c.type_inv.bytes) here)
