use Rattle.std.proofs.Common.{[], ◌++◌, map, get_or, ap, ◌∙◌}
use Rattle.script_text.specs.Plans.{plain_line}
use Rattle.workload.specs.LoadPlan.{piece_line}
use Rattle.workload.proofs.Counting.{flat_more}
use Rattle.workload.proofs.lines.put_round.Goals as goal

pub loop-c-preserved : goal.loop-c-preserved
loop-c-preserved c =
    flat_more (λ n. piece_line c.args.i n (get_or c.args.streams.now n [])) c.loop-c.c (map plain_line c.args.into.now.items) c.loop-c.invariant
    (c.in_ok-put_piece.ensures ∙ ap (λ bytes. map plain_line c.loop-c.into.items ++ piece_line c.args.i c.loop-c.c bytes) c.stream_of.ensures)
