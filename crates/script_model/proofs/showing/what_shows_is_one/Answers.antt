use Rattle.script_model.proofs.Baring.{firsts_show}
use Rattle.script_model.proofs.BarePlays.{same_shows, shows_one}
use Rattle.script_model.proofs.showing.what_shows_is_one.Goals as goal

pub returns-clause-starts : goal.returns-clause-starts
returns-clause-starts g c memories first other one two = firsts_show memories first other one two

pub returns-clause-same : goal.returns-clause-same
returns-clause-same g c d r memory budget workers script wants others first last other end same a b =
    same_shows d r memory budget workers script wants others first last other end same a b

pub returns-clause-one : goal.returns-clause-one
returns-clause-one g c d r memories memory budget workers script wants others tape marks journal entries causes ends a b =
    shows_one d r memory budget workers script memories wants others tape marks journal entries causes ends a b
