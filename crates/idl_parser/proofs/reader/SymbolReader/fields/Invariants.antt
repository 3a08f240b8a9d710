use Rattle.std.proofs.Common.{map}
use Rattle.idl_parser.specs.Phrases.{pair}
use Rattle.idl_parser.specs.Starts.{field_starts}
use Rattle.idl_parser.specs.Fields.{field}
use Rattle.idl_parser.specs.ReaderCalls.{most}
use Rattle.idl_parser.specs.Documents.{deepest}
use Rattle.idl_parser.specs.Trees.{field_node}
use Rattle.idl_parser.proofs.Rows.{SoFar}
use Rattle.idl_parser.proofs.reader.SymbolReader.fields.Given as goal

abbrev pub invariant-row : goal.invariant-row
invariant-row l = SoFar most l._round pair (field deepest) field_starts l.fn.self l.self (map field_node l.all.items)
