use Rattle.std.proofs.Common.{ℕ, List, ◌++◌, ap, ◌∙◌, append_assoc}
use Rattle.std.specs.Prelude.{codes}
use Rattle.text_out.specs.Decimal.{natural_of}
use Rattle.recorded_runs.proofs.refusal.put_front.Goals as goal

pub returns : goal.returns
returns c =
    c.in_ok-put_number.ensures ∙ ap (λ (t : List ℕ). t ++ natural_of c.args.number) c.in_ok-extend_from_slice.ensures.items
    ∙ append_assoc c.args.into.now.items (codes "thriftd: script ") (natural_of c.args.number)
