use Rattle.script_model.proofs.Stilling.{still_pass}
use Rattle.script_model.proofs.ending.a_still_pass.Goals as goal

pub returns : goal.returns
returns g c d r memory fuel budget workers play next e m = still_pass d r memory fuel budget workers play next e m
