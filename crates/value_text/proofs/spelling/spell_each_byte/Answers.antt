use Rattle.std.proofs.Common.{sym, subst}
use Rattle.std.specs.List.{flat_map}
use Rattle.text_out.specs.Quoted.{quoted_byte}
use Rattle.value_text.specs.Handing.{HandsOver}
use Rattle.value_text.proofs.Handed.{handed_on, fails_on}
use Rattle.value_text.proofs.spelling.spell_each_byte.Goals as goal

pub runs-preserved : goal.runs-preserved
runs-preserved g c =
    handed_on _ _ _ _ _ _ _ _ _ c.runs.invariant
    (subst (λ t. HandsOver (g.K.Sink.taken c.runs.out) (g.K.Sink.taken c.spell_run.new.out) (g.K.Sink.faults c.runs.out) (g.K.Sink.faults c.spell_run.new.out) (flat_map quoted_byte c.runs.rest.now) (flat_map quoted_byte t)) (sym c.split_at.ensures.back) (c.in_ok-count.ensures {u = tt}).told)

pub returns-in_err-count : goal.returns-in_err-count
returns-in_err-count g c =
    fails_on (g.K.Sink.taken c.args.out.now) (g.K.Sink.taken c.runs.out) (g.K.Sink.taken c.spell_run.new.out) (g.K.Sink.faults c.args.out.now) (g.K.Sink.faults c.runs.out) (g.K.Sink.faults c.spell_run.new.out) (flat_map quoted_byte c.args.bytes.now) (flat_map quoted_byte c.runs.rest.now) c.from_residual.result c.from_residual.ensures.0 c.runs.invariant
    (c.in_err-count.ensures {u = tt}).told
