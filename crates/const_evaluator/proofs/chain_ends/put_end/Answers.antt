use Rattle.std.proofs.Common.{ap, ◌∙◌, sym}
use Rattle.const_evaluator.specs.ChainTables.{end_in, end_at_link}
use Rattle.const_evaluator.proofs.ChainTabled.{put_told}
use Rattle.const_evaluator.proofs.chain_ends.put_end.Goals as goal

pub returns : goal.returns
returns c = λ other e h.
    put_told c.args.links.now c.args.ends.now.items c.args.which c.end_at_link-end.result other e
    (c.end_at_link-end.ensures ∙ ap (λ es. end_at_link c.args.links.now (end_in es) c.args.which) c.as_slice.ensures.value)
    (sym (ap (λ es. end_in es other) c.set_end.ensures) ∙ h)
