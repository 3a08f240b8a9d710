use Rattle.std.proofs.Common.{[], ◌∷◌, arith}
use Rattle.std.proofs.lemmas.Result.{on_ok_weaker, on_err_weaker}
use Rattle.envelope.specs.Exception.{compact_text_field}
use Rattle.envelope.specs.Spelling.{compact_name}
use Rattle.envelope.proofs.Appending.{appended, still_first}
use Rattle.envelope.proofs.exception.put_text_field.Goals as goal

pub returns-clause-ok : goal.returns-clause-ok
unfolding compact_text_field
returns-clause-ok c =
    on_ok_weaker c.put_name.result
    (λ e. appended c.args.into.now.items (24 ∷ []) c.extend_from_slice.new.self.items (compact_name c.args.text.now) c.put_name.new.into.items c.in_ok-extend_from_slice.ensures.items e)
    c.put_name.ensures.ok

pub returns-clause-err : goal.returns-clause-err
returns-clause-err c =
    on_err_weaker c.put_name.result
    (λ e. still_first _ _ c.args.into.now.items (24 ∷ []) c.extend_from_slice.new.self.items c.put_name.new.into.items (omega arith) (omega arith) c.in_ok-extend_from_slice.ensures.items e)
    c.put_name.ensures.err
