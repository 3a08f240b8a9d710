use Rattle.std.proofs.Common.{pos, [], ◌∷◌, ◌++◌, codes, sym, ap, ◌∙◌}
use Rattle.std.specs.Int.{w32}
use Rattle.wire_num.specs.Fixed.{signed_bytes}
use Rattle.workload.specs.CallFrames.{call_head, number_field, work_struct}
use Rattle.workload.proofs.FrameBytes.{subtract_laid, six}
use Rattle.workload.proofs.frames.put_subtract.Goals as goal

pub returns : goal.returns
returns c =
    six c.args.into.now.items (signed_bytes w32 (pos 54)) (call_head (codes "calculate") c.args.k) (number_field 1 c.args.k) (12 ∷ 0 ∷ 2 ∷ [])
    (work_struct c.args.a c.args.b) (0 ∷ [])
    c.in_ok-put_i32.ensures.ok c.in_ok-put_head.ensures c.in_ok-put_number.ensures c.in_ok-extend_from_slice.ensures.items c.in_ok-put_work.ensures c.in_ok-push.ensures.items
    ∙ ap (λ xs. c.args.into.now.items ++ xs) (sym (subtract_laid c.args.k c.args.a c.args.b))
