use Rattle.std.proofs.Common.{◌≡◌, ◌≤◌, ◌+◌, ◌++◌, drop, take, map, length}
use Rattle.idl_token.specs.Tokens.{StandBetween}
use Rattle.idl_parser.specs.Symbols.{lexemes}
use Rattle.idl_parser.specs.ReaderCalls.{start, place_behind, lexeme_of}
use Rattle.idl_parser.proofs.symbol.symbols.Given as goal

abbrev pub invariant-tokens : goal.invariant-tokens
invariant-tokens l = record {
  order : StandBetween l.at (length l.text) (drop l.token-index l.tokens);
  line : l.place.line ≤ 1 + l.at;
  column : l.place.column ≤ 1 + l.at;
  place : l.place ≡ place_behind start (take l.at l.text);
  made : map (lexeme_of l.text) l.all.items ++ lexemes l.text (drop l.token-index l.tokens) ≡ lexemes l.text l.tokens;
}
