use Rattle.std.proofs.Common.{sym, ◌∙◌}
use Rattle.schema_bare.proofs.Ranked.{not_empty}
use Rattle.schema_bare.proofs.finite.some_below.Goals as goal

pub returns : goal.returns
returns c = not_empty c.args.fields.now c.any_below.result _ (sym c.is_empty.ensures ∙ c.if-is_empty.false) c.any_below.ensures
