use Rattle.std.proofs.Common.{ℕ, List, ◌++◌, sym, ap, ◌∙◌}
use Rattle.text_out.proofs.DecimalLemmas.{digit_is}
use Rattle.run_report.proofs.lines.put_natural.Goals as goal

pub returns-then-n-lt10 : goal.returns-then-n-lt10
returns-then-n-lt10 c =
    c.in_ok-push.ensures.items ∙ ap (λ (digits : List ℕ). c.args.into.now.items ++ digits) (sym (digit_is c.args.n c.if-n-lt10.true))
