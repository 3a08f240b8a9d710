use Rattle.std.proofs.Common.{rules}
use Rattle.idl_names.proofs.Numbered.{new_name, old_name}
use Rattle.idl_names.proofs.name_maps.note.Goals as goal

pub returns-then-contains_key : goal.returns-then-contains_key
returns-then-contains_key c = old_name c.args.map.now c.args.name.now c.args.number (search (rules, c.contains_key.ensures))

pub returns : goal.returns
returns c = new_name c.args.map.now c.insert.new.self c.args.name c.args.number (search (rules, c.contains_key.ensures)) c.in_ok-insert.ensures.entries
