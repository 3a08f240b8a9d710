use Rattle.std.proofs.Common.{◌≡◌, List, ℕ, ◌++◌, take, ap, sym, ◌∙◌, take-append-drop}
use Rattle.streams.specs.Taken.{IsTakenBut}
use Rattle.streams.proofs.Taking.{taken_on}
use Rattle.streams.proofs.streams.write_all.Goals as goal

pub pieces-preserved : goal.pieces-preserved
pieces-preserved g c =
    let w = c.in_ok-count.ensures {u = tt} in
    let rest : List ℕ = c.pieces.rest.now in
    let behind : List ℕ = c.split_at.result.1.now in
    let parts : rest ≡ take c.in_ok-count.count rest ++ behind =
    sym (take-append-drop c.in_ok-count.count rest) ∙ ap (λ t. take c.in_ok-count.count rest ++ t) (sym c.split_at.ensures.back) in
    let one : IsTakenBut (g.K.Sink.taken c.pieces.out) (g.K.Sink.taken c.write.new.self) rest behind =
    record { front = take c.in_ok-count.count rest; taken = w.told.told; whole = parts } in
    record { told = taken_on _ _ _ _ _ _ c.pieces.invariant.told one; kept = w.cause.kept ∙ c.pieces.invariant.kept }
