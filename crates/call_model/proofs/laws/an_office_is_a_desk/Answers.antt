use Rattle.call_model.proofs.AsDesk.{sound_desk}
use Rattle.call_model.proofs.SoundAgain.{sound_again}
use Rattle.call_model.proofs.laws.an_office_is_a_desk.Goals as goal

pub returns-clause-sound : goal.returns-clause-sound
returns-clause-sound c = sound_desk

pub returns-clause-again : goal.returns-clause-again
returns-clause-again c = sound_again
