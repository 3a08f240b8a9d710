use Rattle.idl_parser.proofs.Faults.{more_levels}
use Rattle.idl_parser.proofs.laws.one_more_level_changes_no_document.Goals as goal

pub returns : goal.returns
returns c = more_levels
