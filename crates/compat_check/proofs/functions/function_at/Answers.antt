use Rattle.std.proofs.Common.{◌∙◌}
use Rattle.compat_check.proofs.Tables.{function_there}
use Rattle.compat_check.proofs.functions.function_at.Goals as goal

pub returns : goal.returns
returns c = function_there c.args.functions.now c.args.place c.copied.result (c.copied.ensures ∙ c.item.ensures)
