use Rattle.thrift_host.proofs.Lines.{said}
use Rattle.thrift_host.proofs.saying.say.Goals as goal

pub returns : goal.returns
returns g c = said _ _ _ _ c.args.line.now c.write_all.result c.write_all.ensures.told c.write_all.ensures.cause
