use Rattle.thrift_host.proofs.BoundServices.{arranged_sound}
use Rattle.thrift_host.proofs.laws.an_arranged_office_is_sound.Goals as goal

pub returns : goal.returns
returns c = arranged_sound
