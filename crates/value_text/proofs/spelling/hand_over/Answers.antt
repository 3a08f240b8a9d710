use Rattle.std.proofs.Common.{◌≡◌, List, ℕ, ◌++◌, take, refl, ap, sym, ◌∙◌, take-append-drop}
use Rattle.value_text.specs.Handing.{HandsOver}
use Rattle.value_text.proofs.Handed.{handed_on, fails_on, breaks_here}
use Rattle.value_text.proofs.spelling.hand_over.Goals as goal

pub pieces-preserved : goal.pieces-preserved
pieces-preserved g c =
    let w = c.in_ok-count.ensures {u = tt} in
    let rest : List ℕ = c.pieces.rest.now in
    let behind : List ℕ = c.split_at.result.1.now in
    let parts : rest ≡ take c.in_ok-count.count rest ++ behind =
    sym (take-append-drop c.in_ok-count.count rest) ∙ ap (λ t. take c.in_ok-count.count rest ++ t) (sym c.split_at.ensures.back) in
    let one : HandsOver (g.K.Sink.taken c.pieces.out) (g.K.Sink.taken c.write.new.self) (g.K.Sink.faults c.pieces.out) (g.K.Sink.faults c.write.new.self) rest behind =
    record { front = take c.in_ok-count.count rest; taken = w.told.told; whole = parts; kept = w.cause.kept } in
    handed_on _ _ _ _ _ _ _ _ _ c.pieces.invariant one

pub returns-in_err-count : goal.returns-in_err-count
returns-in_err-count g c =
    let w = c.in_err-count.ensures {u = tt} in
    fails_on (g.K.Sink.taken c.args.out.now) (g.K.Sink.taken c.pieces.out) (g.K.Sink.taken c.write.new.self) (g.K.Sink.faults c.args.out.now) (g.K.Sink.faults c.pieces.out)
    (g.K.Sink.faults c.write.new.self) c.args.bytes.now c.pieces.rest.now c.from_residual.result c.from_residual.ensures.0 c.pieces.invariant
    (breaks_here (g.K.Sink.taken c.pieces.out) (g.K.Sink.taken c.write.new.self) (g.K.Sink.faults c.pieces.out) (g.K.Sink.faults c.write.new.self) c.pieces.rest.now w.told w.cause.later (w.cause.failed refl))
