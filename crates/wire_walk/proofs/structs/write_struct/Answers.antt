use Rattle.thrift_value.specs.TreeOf.{tree_of}
use Rattle.wire_model.specs.Encoder.{text}
use Rattle.wire_model.proofs.Answered.{on_ok_by, read_back_by}
use Rattle.wire_walk.proofs.structs.write_struct.Goals as goal

pub returns-clause-spelled : goal.returns-clause-spelled
returns-clause-spelled g c =
    on_ok_by c.append.result (λ ranged. c.written_is_spelled.ensures (tree_of c.args.value.now) c.requires.tidy.tagged ranged c.requires.sizes) c.append.ensures.in_range

pub returns-clause-read_back : goal.returns-clause-read_back
returns-clause-read_back g c =
    let x = tree_of c.args.value.now in
    read_back_by g.C.WireProtocol.wire c.append.result x c.args.into.now.items c.append.new.into.items (text g.C.WireProtocol.encoder x) c.append.ensures.ok
    (on_ok_by c.append.result
    (λ ranged few more. c.written_is_read.ensures x c.args.into.now.items more c.requires.tidy.tagged ranged c.requires.sizes
    (record { is_struct = c.requires.is_struct; depth = c.requires.depth; count = few }))
    c.append.ensures.in_range)
