use Rattle.std.proofs.Common.{sym, ap, ◌∙◌}
use Rattle.script_text.specs.TextLines.{text_lines}
use Rattle.script_text.specs.Reading.{plan_so_far, plan_read}
use Rattle.script_text.specs.Drafts.{so_far, read_so_far_as}
use Rattle.script_text.proofs.ReadBack.{plan_is_script}
use Rattle.script_text.proofs.read.read_script.Goals as goal

pub kept-requires : goal.kept-requires
kept-requires c =
    plan_is_script c.args.workers c.args.schedule c.args.rest (text_lines c.args.text.now) (plan_so_far (so_far c.in-Ok.draft)) c.requires
    (ap plan_read (sym c.in_ok-draft.ensures ∙ ap read_so_far_as c.in-Ok.is))
