use Rattle.std.proofs.Common.{sym, ◌∙◌}
use Rattle.script_text.specs.TextLines.{is_space}
use Rattle.script_text.proofs.Cuts.{parts_found, parts_missing}
use Rattle.script_text.proofs.words.around_space.Goals as goal

pub returns-in-None : goal.returns-in-None
returns-in-None c = parts_missing is_space c.args.line.now (sym c.first_space.ensures ∙ c.in-None.is)

pub returns-in-Some : goal.returns-in-Some
returns-in-Some c =
    parts_found is_space c.args.line.now c.split_at.result.0.now c.split_at.result.1.now c.split_at-in-Some.result.1.now c.in-Some.at (sym c.first_space.ensures ∙ c.in-Some.is)
    c.split_at.ensures.front c.split_at.ensures.back c.split_at-in-Some.ensures.back
