use Rattle.std.proofs.Common.{ℕ, List, ◌++◌, ap, ◌∙◌, append_assoc}
use Rattle.std.specs.Prelude.{codes}
use Rattle.text_out.specs.Decimal.{natural_of}
use Rattle.run_report.proofs.lines.put_address.Goals as goal

pub returns : goal.returns
returns c =
    c.in_ok-put_port.ensures ∙ ap (λ (t : List ℕ). t ++ natural_of c.args.port) c.in_ok-extend_from_slice.ensures.items
    ∙ append_assoc c.args.into.now.items (codes "listening 127.0.0.1:") (natural_of c.args.port)
