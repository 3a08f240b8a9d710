use Rattle.schema.proofs.ExampleIsSound.{example_sound, example_shapes, example_text}
use Rattle.schema.proofs.laws.the_example_is_sound.Goals as goal

pub returns-clause-sound : goal.returns-clause-sound
returns-clause-sound c = example_sound

pub returns-clause-shapes : goal.returns-clause-shapes
returns-clause-shapes c = example_shapes

pub returns-clause-text : goal.returns-clause-text
returns-clause-text c = example_text
