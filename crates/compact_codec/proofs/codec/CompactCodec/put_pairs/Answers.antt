use Rattle.std.specs.Int.{w32}
use Rattle.std.proofs.Common.{List, [], ◌∷◌, ◌++◌, ◌+◌, ◌*◌, ap, ◌∙◌, append_assoc}
use Rattle.wire_num.specs.Varint.{varint_bytes}
use Rattle.wire_model.proofs.Answered.{on_ok_by}
use Rattle.compact_codec.proofs.Containers.{pairs_header}
use Rattle.compact_codec.proofs.codec.CompactCodec.put_pairs.Goals as goal

pub returns-clause-ok : goal.returns-clause-ok
returns-clause-ok c =
    let codes : List _ = (16 * c.code_of.result + c.code_of-2.result) ∷ [] in
    on_ok_by c.put_u8-2.result
    (λ appended. appended
    ∙ ap (λ (t : List _). t ++ codes) c.in_ok-append_varint32.ensures.ok
    ∙ append_assoc c.args.into.now.items (varint_bytes w32 c.args.count) codes
    ∙ ap (λ (t : List _). c.args.into.now.items ++ t)
    (pairs_header c.args.key c.args.value c.args.count c.code_of.result c.code_of-2.result c.if-count-eq0.false c.code_of.ensures.code c.code_of-2.ensures.code))
    c.put_u8-2.ensures.ok
