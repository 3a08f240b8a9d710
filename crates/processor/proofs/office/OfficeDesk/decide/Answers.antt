use Rattle.call_model.proofs.SoundAgain.{sound_again}
use Rattle.processor.specs.Offices.{plain_office}
use Rattle.processor.proofs.office.OfficeDesk.decide.Goals as goal

pub decided-requires-clause-sound : goal.decided-requires-clause-sound
decided-requires-clause-sound c = (sound_again (plain_office c.args.self.now) c.args.self.now.sound).schema

pub decided-requires-clause-few : goal.decided-requires-clause-few
decided-requires-clause-few c = (sound_again (plain_office c.args.self.now) c.args.self.now.sound).few
