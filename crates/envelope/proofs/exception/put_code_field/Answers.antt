use Rattle.std.proofs.Common.{◌≡◌, [], ◌∷◌, ◌++◌, ◌∙◌, ap, arith}
use Rattle.std.proofs.lemmas.Int.{to_z-of_z}
use Rattle.std.proofs.lemmas.Result.{on_ok_weaker, on_err_weaker}
use Rattle.std.specs.Int.{w32}
use Rattle.wire_num.specs.Varint.{varint_bytes}
use Rattle.wire_num.specs.Zigzag.{zigzag}
use Rattle.envelope.specs.Exception.{compact_code_field}
use Rattle.envelope.proofs.Appending.{appended, still_there}
use Rattle.envelope.proofs.exception.put_code_field.Goals as goal

pub returns-clause-ok : goal.returns-clause-ok
unfolding compact_code_field
returns-clause-ok c =
    let code : c.zigzag32.result ≡ zigzag c.args.code = c.zigzag32.ensures ∙ ap zigzag (to_z-of_z w32 c.args.code c.ranges.code) in
    on_ok_weaker c.put_varint32.result
    (λ e. appended _ (21 ∷ []) c.extend_from_slice.new.self.items (varint_bytes w32 (zigzag c.args.code)) _ c.in_ok-extend_from_slice.ensures.items
    (e ∙ ap (λ n. c.extend_from_slice.new.self.items ++ varint_bytes w32 n) code))
    c.put_varint32.ensures.ok

pub returns-clause-err : goal.returns-clause-err
returns-clause-err c =
    on_err_weaker c.put_varint32.result (λ e. still_there _ _ (21 ∷ []) _ (omega arith) (e ∙ c.in_ok-extend_from_slice.ensures.items)) c.put_varint32.ensures.err
