use Rattle.std.proofs.Common.{◌++◌, ◌≡◌, length, refl, sym, ap, ◌∙◌, subst, arith}
use Rattle.host_model.specs.Marks.{written_by}
use Rattle.plain_machine.proofs.Fronting.{Flat, flat_on, flat_all}
use Rattle.plain_machine.proofs.tape.output.Goals as goal

pub loop-mark-init : goal.loop-mark-init
loop-mark-init c = subst (Flat written_by c.args.marks.now 0) (sym c.new-bytes.ensures.items) (record { so_far = refl })

pub loop-mark-preserved : goal.loop-mark-preserved
loop-mark-preserved c =
    flat_on written_by c.args.marks.now c.loop-mark.mark-index c.mark-item.result c.loop-mark.bytes.items c.extend_from_slice.new.self.items c.loop-mark.invariant c.loop-mark-test.true c.mark-item.is
    ((c.in_ok-extend_from_slice.ensures {u = tt}).items ∙ ap (λ bytes. c.loop-mark.bytes.items ++ bytes) c.written_by.ensures)

pub returns : goal.returns
returns c =
    let all : c.loop-mark.mark-index ≡ length c.args.marks.now = omega arith in
    flat_all written_by c.args.marks.now c.loop-mark.bytes.items (subst (λ i. Flat written_by c.args.marks.now i c.loop-mark.bytes.items) all c.loop-mark.invariant)
