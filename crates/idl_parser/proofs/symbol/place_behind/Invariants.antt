use Rattle.std.proofs.Common.{◌≡◌, ◌≤◌, ◌+◌, drop}
use Rattle.idl_parser.specs.ReaderCalls.{place_behind}
use Rattle.idl_parser.proofs.symbol.place_behind.Given as goal

abbrev pub invariant-loop-byte : goal.invariant-loop-byte
invariant-loop-byte l = record {
  rest : place_behind l.place (drop l.byte-index l.bytes) ≡ place_behind l.fn.at l.bytes;
  line : l.place.line ≤ l.fn.at.line + l.byte-index;
  column : l.place.column ≤ l.fn.at.column + l.byte-index;
}
