use Rattle.std.proofs.Common.{◌≡◌, ℕ, ℤ, List, pos, length, ◌∷◌, ◌++◌, ◌∙◌, ap, arith}
use Rattle.std.proofs.lemmas.Int.{to_z-of_z, to_z_pos}
use Rattle.std.proofs.lemmas.Result.{on_ok_weaker, on_err_weaker}
use Rattle.std.specs.Int.{w32}
use Rattle.wire_num.specs.Fixed.{signed_bytes}
use Rattle.envelope.specs.Spelling.{strict_mark, strict_version}
use Rattle.envelope.proofs.Appending.{appended, still_there}
use Rattle.envelope.proofs.write.write_strict.Goals as goal

pub returns-clause-ok : goal.returns-clause-ok
returns-clause-ok c =
    let front = strict_mark ∷ strict_version ∷ 0 ∷ c.args.kind ∷ signed_bytes w32 (pos (length c.args.name.now)) in
    let began : c.strict_front.result ≡ front = c.strict_front.ensures ∙ ap (λ (z : ℤ). strict_mark ∷ strict_version ∷ 0 ∷ c.args.kind ∷ signed_bytes w32 z) (to_z_pos w32 (length c.args.name.now) (omega arith)) in
    on_ok_weaker c.put_i32.result
    (λ e. appended c.args.into.now.items front c.extend_from_slice.new.self.items (c.args.name.now ++ signed_bytes w32 c.args.id) c.put_i32.new.into.items
    (c.in_ok-extend_from_slice.ensures.items ∙ ap (λ (xs : List ℕ). c.args.into.now.items ++ xs) began)
    (appended c.extend_from_slice.new.self.items c.args.name.now c.extend_from_slice-2.new.self.items (signed_bytes w32 c.args.id) c.put_i32.new.into.items c.in_ok-extend_from_slice-2.ensures.items
    (e ∙ ap (λ z. c.extend_from_slice-2.new.self.items ++ signed_bytes w32 z) (to_z-of_z w32 c.args.id c.ranges.id))))
    c.put_i32.ensures.ok

pub returns-clause-err : goal.returns-clause-err
returns-clause-err c =
    on_err_weaker c.put_i32.result
    (λ e. still_there _ c.args.into.now.items (c.strict_front.result ++ c.args.name.now) c.put_i32.new.into.items (omega arith)
    (e ∙ appended c.args.into.now.items c.strict_front.result c.extend_from_slice.new.self.items c.args.name.now c.extend_from_slice-2.new.self.items
    c.in_ok-extend_from_slice.ensures.items c.in_ok-extend_from_slice-2.ensures.items))
    c.put_i32.ensures.err
