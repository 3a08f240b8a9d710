use Rattle.std.proofs.Common.{List}
use Rattle.idl_parser.specs.Starts.{entry_starts}
use Rattle.idl_parser.specs.Phrases.{Node}
use Rattle.idl_parser.specs.Leaves.{neither}
use Rattle.idl_parser.specs.Parts.{annotation_entry}
use Rattle.idl_parser.specs.ReaderCalls.{most}
use Rattle.idl_parser.proofs.Rows.{SoFar}
use Rattle.idl_parser.proofs.reader.SymbolReader.annotation_entries.Given as goal

abbrev pub invariant-entries : goal.invariant-entries
invariant-entries l = (xs : List Node) × SoFar most l._round neither annotation_entry entry_starts l.fn.self l.self xs
