use Rattle.std.proofs.Common.{map}
use Rattle.idl_parser.specs.Phrases.{pair}
use Rattle.idl_parser.specs.Starts.{entry_starts}
use Rattle.idl_parser.specs.Definitions.{enum_value}
use Rattle.idl_parser.specs.ReaderCalls.{most}
use Rattle.idl_parser.specs.Trees.{enum_value_node}
use Rattle.idl_parser.proofs.Rows.{SoFar}
use Rattle.idl_parser.proofs.reader.SymbolReader.enum_values.Given as goal

abbrev pub invariant-row : goal.invariant-row
invariant-row l = SoFar most l._round pair enum_value entry_starts l.fn.self l.self (map enum_value_node l.all.items)
