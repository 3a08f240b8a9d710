use Rattle.std.proofs.Common.{[], ◌∷◌, ◌++◌, ◌∙◌, ap, arith}
use Rattle.std.proofs.lemmas.Int.{to_z-of_z}
use Rattle.std.proofs.lemmas.Result.{on_ok_weaker, on_err_weaker}
use Rattle.std.specs.Int.{w32}
use Rattle.envelope.specs.Exception.{compact_text_field, compact_code_field, failure_struct}
use Rattle.envelope.proofs.Appending.{appended, slice_appended, slice_left, still_there}
use Rattle.envelope.proofs.exception.put_compact_failure.Goals as goal

pub returns-clause-ok : goal.returns-clause-ok
unfolding failure_struct
returns-clause-ok c =
    let coded = c.in_ok-put_code_field.ensures.ok ∙ ap (λ z. c.put_text_field.new.into.items ++ compact_code_field z) (to_z-of_z w32 c.args.code c.ranges.code) in
    on_ok_weaker c.extend_from_slice.result
    (λ e. appended c.args.into.now.items (compact_text_field c.args.text.now) c.put_text_field.new.into.items (compact_code_field c.args.code ++ 0 ∷ []) c.extend_from_slice.new.self.items
    c.in_ok-put_text_field.ensures.ok
    (appended c.put_text_field.new.into.items (compact_code_field c.args.code) c.put_code_field.new.into.items (0 ∷ []) c.extend_from_slice.new.self.items coded e))
    (slice_appended c.extend_from_slice.result c.put_code_field.new.into.items (0 ∷ []) c.extend_from_slice.new.self.items c.extend_from_slice.ensures.items)

pub returns-clause-err : goal.returns-clause-err
returns-clause-err c =
    on_err_weaker c.extend_from_slice.result
    (λ e. still_there _ c.args.into.now.items (compact_text_field c.args.text.now ++ compact_code_field _) c.extend_from_slice.new.self.items (omega arith)
    (e ∙ appended c.args.into.now.items (compact_text_field c.args.text.now) c.put_text_field.new.into.items (compact_code_field _) c.put_code_field.new.into.items
    c.in_ok-put_text_field.ensures.ok c.in_ok-put_code_field.ensures.ok))
    (slice_left c.extend_from_slice.result c.put_code_field.new.into.items (0 ∷ []) c.extend_from_slice.new.self.items c.extend_from_slice.ensures.items)
