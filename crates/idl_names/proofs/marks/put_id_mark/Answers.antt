use Rattle.std.proofs.Common.{rules}
use Rattle.idl_names.proofs.Marked.{id_too}
use Rattle.idl_names.proofs.marks.put_id_mark.Goals as goal

pub returns-clause-after : goal.returns-clause-after
returns-clause-after c = id_too c.args.seen.now c.insert.new.self c.args.id.now (search (rules, c.in_ok-new.ensures.keys))
