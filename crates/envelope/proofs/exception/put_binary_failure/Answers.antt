use Rattle.std.proofs.Common.{◌≡◌, ℕ, ℤ, List, pos, length, [], ◌∷◌, ◌++◌, ◌∙◌, ap, arith}
use Rattle.std.proofs.lemmas.Int.{to_z-of_z, to_z_pos}
use Rattle.std.proofs.lemmas.Result.{on_ok_weaker, on_err_weaker}
use Rattle.std.specs.Int.{w32}
use Rattle.wire_num.specs.Fixed.{signed_bytes}
use Rattle.envelope.specs.Exception.{failure_struct, binary_code_field}
use Rattle.envelope.proofs.Appending.{appended, slice_appended, slice_left, still_there}
use Rattle.envelope.proofs.exception.put_binary_failure.Goals as goal

pub returns-clause-ok : goal.returns-clause-ok
unfolding failure_struct
returns-clause-ok c =
    let A = 11 ∷ 0 ∷ 1 ∷ signed_bytes w32 (pos (length c.args.text.now)) in
    let B = binary_code_field c.args.code in
    let size : c.numbered_field.result ≡ A = c.numbered_field.ensures ∙ ap (λ (z : ℤ). 11 ∷ 0 ∷ 1 ∷ signed_bytes w32 z) (to_z_pos w32 (length c.args.text.now) (omega arith)) in
    let code : c.numbered_field-2.result ≡ B = c.numbered_field-2.ensures ∙ ap (λ (z : ℤ). 8 ∷ 0 ∷ 2 ∷ signed_bytes w32 z) (to_z-of_z w32 c.args.code c.ranges.code) in
    let texted = appended c.args.into.now.items A c.extend_from_slice.new.self.items c.args.text.now c.extend_from_slice-2.new.self.items
    (c.in_ok-extend_from_slice.ensures.items ∙ ap (λ (xs : List ℕ). c.args.into.now.items ++ xs) size) c.in_ok-extend_from_slice-2.ensures.items in
    on_ok_weaker c.extend_from_slice-4.result
    (λ e. appended c.args.into.now.items (A ++ c.args.text.now) c.extend_from_slice-2.new.self.items (B ++ 0 ∷ []) c.extend_from_slice-4.new.self.items texted
    (appended c.extend_from_slice-2.new.self.items B c.extend_from_slice-3.new.self.items (0 ∷ []) c.extend_from_slice-4.new.self.items
    (c.in_ok-extend_from_slice-3.ensures.items ∙ ap (λ (xs : List ℕ). c.extend_from_slice-2.new.self.items ++ xs) code) e))
    (slice_appended c.extend_from_slice-4.result c.extend_from_slice-3.new.self.items (0 ∷ []) c.extend_from_slice-4.new.self.items c.extend_from_slice-4.ensures.items)

pub returns-clause-err : goal.returns-clause-err
returns-clause-err c =
    let texted = appended c.args.into.now.items c.numbered_field.result c.extend_from_slice.new.self.items c.args.text.now c.extend_from_slice-2.new.self.items
    c.in_ok-extend_from_slice.ensures.items c.in_ok-extend_from_slice-2.ensures.items in
    let coded = appended c.args.into.now.items (c.numbered_field.result ++ c.args.text.now) c.extend_from_slice-2.new.self.items c.numbered_field-2.result c.extend_from_slice-3.new.self.items
    texted c.in_ok-extend_from_slice-3.ensures.items in
    on_err_weaker c.extend_from_slice-4.result
    (λ e. still_there _ c.args.into.now.items ((c.numbered_field.result ++ c.args.text.now) ++ c.numbered_field-2.result) c.extend_from_slice-4.new.self.items (omega arith) (e ∙ coded))
    (slice_left c.extend_from_slice-4.result c.extend_from_slice-3.new.self.items (0 ∷ []) c.extend_from_slice-4.new.self.items c.extend_from_slice-4.ensures.items)
