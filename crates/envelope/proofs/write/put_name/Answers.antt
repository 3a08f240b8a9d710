use Rattle.std.proofs.Common.{◌∙◌, length, arith}
use Rattle.std.proofs.lemmas.Result.{on_ok_weaker, on_err_weaker}
use Rattle.std.specs.Int.{w32}
use Rattle.wire_num.specs.Varint.{varint_bytes}
use Rattle.envelope.specs.Spelling.{compact_name}
use Rattle.envelope.proofs.Appending.{appended, slice_appended, slice_left, still_there}
use Rattle.envelope.proofs.write.put_name.Goals as goal

pub returns-clause-ok : goal.returns-clause-ok
unfolding compact_name
returns-clause-ok c =
    on_ok_weaker c.extend_from_slice.result
    (λ e. appended c.args.into.now.items (varint_bytes w32 (length c.args.name.now)) c.put_varint32.new.into.items c.args.name.now c.extend_from_slice.new.self.items c.in_ok-put_varint32.ensures.ok e)
    (slice_appended c.extend_from_slice.result c.put_varint32.new.into.items c.args.name.now c.extend_from_slice.new.self.items c.extend_from_slice.ensures.items)

pub returns-clause-err : goal.returns-clause-err
returns-clause-err c =
    on_err_weaker c.extend_from_slice.result
    (λ e. still_there _ c.args.into.now.items (varint_bytes w32 (length c.args.name.now)) c.extend_from_slice.new.self.items (omega arith) (e ∙ c.in_ok-put_varint32.ensures.ok))
    (slice_left c.extend_from_slice.result c.put_varint32.new.into.items c.args.name.now c.extend_from_slice.new.self.items c.extend_from_slice.ensures.items)
