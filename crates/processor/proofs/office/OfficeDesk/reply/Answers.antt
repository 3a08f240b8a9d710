use Rattle.call_model.proofs.SoundAgain.{sound_again}
use Rattle.processor.specs.Offices.{plain_office}
use Rattle.processor.proofs.office.OfficeDesk.reply.Goals as goal

pub replied-requires-clause-sound : goal.replied-requires-clause-sound
replied-requires-clause-sound c = (sound_again (plain_office c.args.self.now) c.args.self.now.sound).schema

pub replied-requires-clause-few : goal.replied-requires-clause-few
replied-requires-clause-few c = (sound_again (plain_office c.args.self.now) c.args.self.now.sound).few

pub replied-requires-clause-most : goal.replied-requires-clause-most
replied-requires-clause-most c = (sound_again (plain_office c.args.self.now) c.args.self.now.sound).most
