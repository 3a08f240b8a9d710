use Rattle.std.proofs.Common.{sym, ◌∙◌}
use Rattle.script_text.proofs.Cuts.{cut_whole, cut_found}
use Rattle.script_text.proofs.words.cut_line.Goals as goal

pub returns-in-None-clause-lines : goal.returns-in-None-clause-lines
returns-in-None-clause-lines c =
    cut_whole _ _ _ c.requires (sym c.newline.ensures ∙ c.in-None.is) c.split_at.ensures.front c.split_at.ensures.back

pub returns-in-Some-clause-lines : goal.returns-in-Some-clause-lines
returns-in-Some-clause-lines c =
    cut_found _ _ _ _ c.in-Some.at (sym c.newline.ensures ∙ c.in-Some.is) c.split_at-in-Some.ensures.front c.split_at-in-Some.ensures.back c.split_at-in-Some-2.ensures.back
