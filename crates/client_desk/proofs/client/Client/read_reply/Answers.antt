use Rattle.client_desk.specs.ClientOf.{plain_client}
use Rattle.client_desk.proofs.Soundness.{schema_sound}
use Rattle.client_desk.proofs.client.Client.read_reply.Goals as goal

pub hear_behind-requires-clause-sound : goal.hear_behind-requires-clause-sound
hear_behind-requires-clause-sound c = schema_sound (plain_client c.args.self.now) c.args.self.now.sound
