use Rattle.std.proofs.Common.{List}
use Rattle.idl_parser.specs.Phrases.{Node}
use Rattle.idl_parser.specs.Starts.{header_starts}
use Rattle.idl_parser.specs.Documents.{header, with_header}
use Rattle.idl_parser.specs.ReaderCalls.{most}
use Rattle.idl_parser.proofs.Rows.{SoFar, Kept}
use Rattle.idl_parser.proofs.reader.SymbolReader.headers.Given as goal

abbrev pub invariant-row : goal.invariant-row
invariant-row l = (xs : List Node) × SoFar most l._round with_header header header_starts l.fn.self l.self xs × Kept xs l.all.items
