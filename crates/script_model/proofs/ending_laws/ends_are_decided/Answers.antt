use Rattle.host_model.specs.Marks.{input, output}
use Rattle.script_model.proofs.Decided.{talk_decides}
use Rattle.script_model.proofs.ending_laws.ends_are_decided.Goals as goal

pub returns : goal.returns
returns g c d x own es cause left conversation = talk_decides d (input own) left es (output own) cause conversation.talk
