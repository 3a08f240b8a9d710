use Rattle.std.proofs.Common.{sym}
use Rattle.schema.specs.SchemaOf.{schema_of, plain_function}
use Rattle.client_desk.specs.ClientOf.{plain_client}
use Rattle.client_desk.proofs.Soundness.{schema_sound, frame_bounded}
use Rattle.client_desk.proofs.client.Client.ask.Goals as goal

pub function-requires : goal.function-requires
function-requires c = record { sound = schema_sound (plain_client c.args.self.now) c.args.self.now.sound }

pub ask_function-requires-clause-sound : goal.ask_function-requires-clause-sound
ask_function-requires-clause-sound c = schema_sound (plain_client c.args.self.now) c.args.self.now.sound

pub ask_function-requires-clause-most : goal.ask_function-requires-clause-most
ask_function-requires-clause-most c = frame_bounded (plain_client c.args.self.now) c.args.self.now.sound

pub ask_function-requires-clause-place : goal.ask_function-requires-clause-place
ask_function-requires-clause-place c =
    c.a_found_function_is_sound.ensures.args (schema_of c.args.self.now.schema) c.args.self.now.service c.args.method.now (plain_function c.in-Some.function.now)
    (schema_sound (plain_client c.args.self.now) c.args.self.now.sound) (sym c.in-Some.ensures)
