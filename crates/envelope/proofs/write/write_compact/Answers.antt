use Rattle.std.proofs.Common.{◌≡◌, ℕ, ◌+◌, ◌*◌, ◌%◌, [], ◌∷◌, ◌++◌, ◌∙◌, ap, arith}
use Rattle.std.proofs.lemmas.Int.{to_z-of_z}
use Rattle.std.proofs.lemmas.Result.{on_ok_weaker, on_err_weaker}
use Rattle.std.specs.Int.{w32}
use Rattle.envelope.specs.Spelling.{compact_mark, compact_version, compact_id, compact_name}
use Rattle.envelope.proofs.Appending.{appended, still_first}
use Rattle.envelope.proofs.write.write_compact.Goals as goal

pub returns-clause-ok : goal.returns-clause-ok
returns-clause-ok c =
    let front = compact_mark ∷ (32 * (c.args.kind % 8) + compact_version) ∷ [] in
    let id = c.in_ok-put_id.ensures.ok ∙ ap (λ z. c.extend_from_slice.new.self.items ++ compact_id z) (to_z-of_z w32 c.args.id c.ranges.id) in
    let typed : c.args.kind % 8 * 32 + 1 ≡ 32 * (c.args.kind % 8) + 1 = omega arith in
    on_ok_weaker c.put_name.result
    (λ e. appended c.args.into.now.items front c.extend_from_slice.new.self.items (compact_id c.args.id ++ compact_name c.args.name.now) c.put_name.new.into.items
    (c.in_ok-extend_from_slice.ensures.items ∙ ap (λ (b : ℕ). c.args.into.now.items ++ (compact_mark ∷ b ∷ [])) typed)
    (appended c.extend_from_slice.new.self.items (compact_id c.args.id) c.put_id.new.into.items (compact_name c.args.name.now) c.put_name.new.into.items id e))
    c.put_name.ensures.ok

pub returns-clause-err : goal.returns-clause-err
returns-clause-err c =
    on_err_weaker c.put_name.result
    (λ e. still_first _ _ c.args.into.now.items _ c.put_id.new.into.items c.put_name.new.into.items (omega arith) (omega arith)
    (appended c.args.into.now.items _ c.extend_from_slice.new.self.items (compact_id _) c.put_id.new.into.items
    c.in_ok-extend_from_slice.ensures.items c.in_ok-put_id.ensures.ok) e)
    c.put_name.ensures.err
