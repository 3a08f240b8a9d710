use Rattle.std.proofs.Common.{rules}
use Rattle.compat_check.proofs.Tables.{noted, not_noted}
use Rattle.compat_check.proofs.names.note_if.Goals as goal

pub returns-then-not-holds : goal.returns-then-not-holds
returns-then-not-holds c = not_noted c.args.holds c.args.name.now c.args.place c.args.names.now (search rules)

pub returns : goal.returns
returns c = noted c.args.holds c.args.name.now c.in-Ok.number c.args.place c.args.names.now c.note.new.map (search rules) (search rules) c.in_ok-note.ensures
