use Rattle.std.proofs.Common.{pos, [], ◌∷◌, ◌++◌, codes, sym, ap, ◌∙◌}
use Rattle.std.specs.Int.{w32}
use Rattle.wire_num.specs.Fixed.{signed_bytes}
use Rattle.workload.specs.CallFrames.{call_head, number_field}
use Rattle.workload.proofs.FrameBytes.{add_laid, five}
use Rattle.workload.proofs.frames.put_add.Goals as goal

pub returns : goal.returns
returns c =
    five c.args.into.now.items (signed_bytes w32 (pos 30)) (call_head (codes "add") c.args.k) (number_field 1 c.args.a) (number_field 2 c.args.b) (0 ∷ [])
    c.in_ok-put_i32.ensures.ok c.in_ok-put_head.ensures c.in_ok-put_number.ensures c.in_ok-put_number-2.ensures c.in_ok-push.ensures.items
    ∙ ap (λ xs. c.args.into.now.items ++ xs) (sym (add_laid c.args.k c.args.a c.args.b))
