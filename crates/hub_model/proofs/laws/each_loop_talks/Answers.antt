use Rattle.hub_model.proofs.Talking.{loop_talks}
use Rattle.hub_model.proofs.laws.each_loop_talks.Goals as goal

pub returns : goal.returns
returns g c n l default d r memories hub log weave loop causes small among o same woven ended = loop_talks default d small r n l memories hub log o among weave loop causes same woven ended
