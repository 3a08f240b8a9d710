use Rattle.std.proofs.Common.{List, ℕ, ◌≤◌, length, ap, sym, subst, ◌∙◌}
use Rattle.call_model.specs.Names.{method_part}
use Rattle.processor.proofs.Sized.{failure_fits}
use Rattle.processor.proofs.frames.failure_frame.Goals as goal

pub with_size-requires-clause-payload : goal.with_size-requires-clause-payload
with_size-requires-clause-payload c =
    failure_fits _ _ c.args.protocol c.args.head.now.name _ _ _ c.in_ok-framed.ensures c.in_ok-write_exception.ensures.ok (c.method_part.ensures ∙ ap method_part c.name.ensures) c.requires.name
    (subst (λ (t : List ℕ). length t ≤ 268435556) (sym c.as_slice.ensures.value) c.requires.text)
