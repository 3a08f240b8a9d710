use Rattle.std.proofs.Common.{map}
use Rattle.idl_parser.specs.Phrases.{pair}
use Rattle.idl_parser.specs.Starts.{function_starts}
use Rattle.idl_parser.specs.Definitions.{function}
use Rattle.idl_parser.specs.ReaderCalls.{most}
use Rattle.idl_parser.specs.Documents.{deepest}
use Rattle.idl_parser.specs.Trees.{function_node}
use Rattle.idl_parser.proofs.Rows.{SoFar}
use Rattle.idl_parser.proofs.reader.SymbolReader.functions.Given as goal

abbrev pub invariant-row : goal.invariant-row
invariant-row l = SoFar most l._round pair (function deepest) function_starts l.fn.self l.self (map function_node l.all.items)
