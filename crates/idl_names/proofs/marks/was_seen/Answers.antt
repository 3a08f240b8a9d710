use Rattle.idl_names.proofs.Marked.{name_too}
use Rattle.idl_names.proofs.marks.was_seen.Goals as goal

pub returns-clause-after : goal.returns-clause-after
returns-clause-after c = name_too c.args.seen.now c.insert.new.self c.args.name c.in_ok-new.ensures.keys
