use Rattle.std.proofs.Common.{map}
use Rattle.idl_parser.specs.Phrases.{pair}
use Rattle.idl_parser.specs.Starts.{definition_starts}
use Rattle.idl_parser.specs.Definitions.{definition}
use Rattle.idl_parser.specs.ReaderCalls.{most}
use Rattle.idl_parser.specs.Documents.{deepest}
use Rattle.idl_parser.specs.Trees.{definition_node}
use Rattle.idl_parser.proofs.Rows.{SoFar}
use Rattle.idl_parser.proofs.reader.SymbolReader.definitions.Given as goal

abbrev pub invariant-row : goal.invariant-row
invariant-row l = SoFar most l._round pair (definition deepest) definition_starts l.fn.self l.self (map definition_node l.all.items)
