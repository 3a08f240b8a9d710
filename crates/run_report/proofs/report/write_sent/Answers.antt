use Rattle.std.proofs.Common.{[], ◌∷◌, append_assoc, subst}
use Rattle.host_model.specs.Report.{hex_or_dash}
use Rattle.streams.specs.Taken.{IsTakenInPart}
use Rattle.streams.proofs.Taking.{but_in_part, more_in_part, err_takes}
use Rattle.run_report.proofs.report.write_sent.Goals as goal

pub returns-in_err-write_bytes-clause-told : goal.returns-in_err-write_bytes-clause-told
returns-in_err-write_bytes-clause-told g c =
    err_takes _ _ _ _ c.from_residual.result c.from_residual.ensures.0
    (subst (λ t. IsTakenInPart (g.K.Sink.taken c.args.out.now) (g.K.Sink.taken c.write_bytes.new.out) t)
    (append_assoc c.args.pending.now.items (hex_or_dash c.args.bytes.now) (10 ∷ []))
    (more_in_part _ _ _ (10 ∷ []) (c.in_err-write_bytes.ensures {u = tt}).told))

pub returns-in_err-push-clause-told : goal.returns-in_err-push-clause-told
returns-in_err-push-clause-told g c =
    err_takes _ _ _ _ c.from_residual-in_err-push.result c.from_residual-in_err-push.ensures.0
    (subst (λ t. IsTakenInPart (g.K.Sink.taken c.args.out.now) (g.K.Sink.taken c.write_bytes.new.out) t)
    (append_assoc c.args.pending.now.items (hex_or_dash c.args.bytes.now) (10 ∷ []))
    (but_in_part _ _ _ c.write_bytes.new.pending.items (10 ∷ []) (c.in_ok-write_bytes.ensures {u = tt}).told))
