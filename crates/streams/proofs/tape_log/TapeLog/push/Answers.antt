use Rattle.std.proofs.Common.{◌≡◌, ◌<◌, ◌≤◌, [], ◌∷◌, ◌++◌, length, ap, sym, ◌∙◌, subst, arith}
use Rattle.streams.specs.Rows.{TapeView, marks_in, bytes_owed}
use Rattle.streams.specs.Marks.{lent_bytes}
use Rattle.streams.proofs.Growing.{as_many_marks, mark_added, owed_added, bytes_added}
use Rattle.streams.proofs.tape_log.TapeLog.push.Goals as goal

pub push_reserved-requires : goal.push_reserved-requires
push_reserved-requires c =
    let room : length (marks_in c.self.inside.rows.items c.self.inside.bytes.items) < c.self.inside.rows.cap = subst (λ (v : TapeView). length v.items < v.capacity) (sym c.self.view_is) c.requires.room in
    omega (arith, as_many_marks c.self.inside.rows.items c.self.inside.bytes.items, c.self.inside.rows.ok.0)

pub invariant_of-self : goal.invariant_of-self
invariant_of-self c =
    let more : c.extend_from_slice.new.self.items ≡ c.self.inside.bytes.items ++ c.of.result.1.now =
    bytes_added c.extend_from_slice.result c.self.inside.bytes c.extend_from_slice.new.self (lent_bytes c.args.mark) c.of.result.1.now c.of.ensures.bytes
    (subst (λ (v : TapeView). length (lent_bytes c.args.mark) ≤ v.spare) (sym c.self.view_is) c.requires.spare) c.extend_from_slice.ensures.succeeds c.extend_from_slice.ensures.items in
    ap bytes_owed c.push_reserved.ensures.items
    ∙ owed_added c.self.inside.rows.items c.self.inside.bytes.items c.of.result.1.now c.of.result.0 c.self.invariant c.of.ensures.len
    ∙ ap length (sym more)

pub returns-clause-items : goal.returns-clause-items
returns-clause-items c =
    let more : c.extend_from_slice.new.self.items ≡ c.self.inside.bytes.items ++ c.of.result.1.now =
    bytes_added c.extend_from_slice.result c.self.inside.bytes c.extend_from_slice.new.self (lent_bytes c.args.mark) c.of.result.1.now c.of.ensures.bytes
    (subst (λ (v : TapeView). length (lent_bytes c.args.mark) ≤ v.spare) (sym c.self.view_is) c.requires.spare) c.extend_from_slice.ensures.succeeds c.extend_from_slice.ensures.items in
    (λ i. marks_in (c.push_reserved.ensures.items i) (more i))
    ∙ mark_added c.self.inside.rows.items c.self.inside.bytes.items c.of.result.1.now c.of.result.0 c.self.invariant c.of.ensures.len
    ∙ (λ i. (c.self.view_is i).items ++ c.of.ensures.mark i ∷ [])
