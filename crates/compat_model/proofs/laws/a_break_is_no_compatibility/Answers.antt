use Rattle.compat_model.proofs.OneBreak.{no_compatibility}
use Rattle.compat_model.proofs.laws.a_break_is_no_compatibility.Goals as goal

pub returns : goal.returns
returns c = no_compatibility
