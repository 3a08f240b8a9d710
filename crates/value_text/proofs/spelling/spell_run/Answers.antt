use Rattle.std.proofs.Common.{◌++◌, drop, take, get_or, refl, sym, ap, ◌∙◌}
use Rattle.std.specs.List.{flat_map}
use Rattle.text_out.specs.Quoted.{quoted_byte}
use Rattle.value_text.specs.Handing.{HandsOver}
use Rattle.value_text.proofs.Handed.{part_handed, part_breaks, texts_left}
use Rattle.value_text.proofs.PlainRuns.{run_parts}
use Rattle.value_text.proofs.spelling.spell_run.Goals as goal

pub returns-in_err-spell_byte-clause-told : goal.returns-in_err-spell_byte-clause-told
returns-in_err-spell_byte-clause-told g c =
    part_breaks (g.K.Sink.taken c.args.out.now) (g.K.Sink.taken c.spell_byte.new.out) (g.K.Sink.faults c.args.out.now) (g.K.Sink.faults c.spell_byte.new.out) (flat_map quoted_byte c.args.bytes.now) (quoted_byte (get_or c.args.bytes.now 0 0)) (flat_map quoted_byte (drop 1 c.args.bytes.now))
    (λ count. HandsOver (g.K.Sink.taken c.args.out.now) (g.K.Sink.taken c.spell_byte.new.out) (g.K.Sink.faults c.args.out.now) (g.K.Sink.faults c.spell_byte.new.out) (flat_map quoted_byte c.args.bytes.now) (flat_map quoted_byte (drop count c.args.bytes.now))) c.from_residual.result
    (texts_left quoted_byte c.args.bytes.now 0 0 (get_or c.args.bytes.now 0 0) c.requires refl) c.from_residual.ensures.0 (c.in_err-spell_byte.ensures {u = tt})

pub returns-in_err-hand_over-clause-told : goal.returns-in_err-hand_over-clause-told
returns-in_err-hand_over-clause-told g c =
    part_breaks (g.K.Sink.taken c.args.out.now) (g.K.Sink.taken c.hand_over.new.out) (g.K.Sink.faults c.args.out.now) (g.K.Sink.faults c.hand_over.new.out) (flat_map quoted_byte c.args.bytes.now) c.split_at.result.0.now (flat_map quoted_byte (drop c.plain_run-count.result c.args.bytes.now))
    (λ count. HandsOver (g.K.Sink.taken c.args.out.now) (g.K.Sink.taken c.hand_over.new.out) (g.K.Sink.faults c.args.out.now) (g.K.Sink.faults c.hand_over.new.out) (flat_map quoted_byte c.args.bytes.now) (flat_map quoted_byte (drop count c.args.bytes.now))) c.from_residual-in_err-hand_over.result
    (run_parts c.args.bytes.now ∙ ap (λ n. take n c.args.bytes.now ++ flat_map quoted_byte (drop n c.args.bytes.now)) (sym c.plain_run-count.ensures.exact) ∙ ap (λ t. t ++ flat_map quoted_byte (drop c.plain_run-count.result c.args.bytes.now)) (sym c.split_at.ensures.front))
    c.from_residual-in_err-hand_over.ensures.0 (c.in_err-hand_over.ensures {u = tt})

pub returns-clause-told : goal.returns-clause-told
returns-clause-told g c =
    part_handed (g.K.Sink.taken c.args.out.now) (g.K.Sink.taken c.hand_over.new.out) (g.K.Sink.faults c.args.out.now) (g.K.Sink.faults c.hand_over.new.out) (flat_map quoted_byte c.args.bytes.now) c.split_at.result.0.now (flat_map quoted_byte (drop c.plain_run-count.result c.args.bytes.now))
    (run_parts c.args.bytes.now ∙ ap (λ n. take n c.args.bytes.now ++ flat_map quoted_byte (drop n c.args.bytes.now)) (sym c.plain_run-count.ensures.exact) ∙ ap (λ t. t ++ flat_map quoted_byte (drop c.plain_run-count.result c.args.bytes.now)) (sym c.split_at.ensures.front))
    (c.in_ok-hand_over.ensures {u = tt})
