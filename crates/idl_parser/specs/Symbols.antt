-- The symbols of a text: its tokens as the grammar sees them.
use Rattle.std.specs.Prelude.{ℕ, ◌==◌, List, map, slice_index, if◌then◌else◌}
use Rattle.std.specs.Option.{unwrap_or}
use Rattle.idl_token.specs.Bytes as byte
use Rattle.idl_token.specs.Words.{keyword_of}
use Rattle.idl_token.specs.Places.{line_and_column}
use Rattle.idl_token.specs.Tokens.{token_bytes}
use Rattle.idl_token.specs.declared.Token.{Token}
use Rattle.idl_token.specs.declared.TokenKind.{TokenKind}
use Rattle.idl_token.specs.declared.TokenKind.TheVariants as kind
use Rattle.idl_token.specs.declared.terminal.Terminal.{Terminal}
use Rattle.idl_token.specs.declared.terminal.Terminal.TheVariants as word
use Rattle.idl_parser.specs.Phrases.{Lexeme}

-- the symbol of a sign
unfoldable pub sign_of : ℕ → Terminal
sign_of b =
    if b == byte.open_brace then word.OpenBrace
    else if b == byte.close_brace then word.CloseBrace
    else if b == byte.open_paren then word.OpenParen
    else if b == byte.close_paren then word.CloseParen
    else if b == byte.open_bracket then word.OpenBracket
    else if b == byte.close_bracket then word.CloseBracket
    else if b == byte.less then word.Less
    else if b == byte.greater then word.Greater
    else if b == byte.comma then word.Comma
    else if b == byte.semicolon then word.Semicolon
    else if b == byte.colon then word.Colon
    else if b == byte.equals then word.Equals
    else if b == byte.star then word.Star
    else word.Refused

-- what a token of this kind with these bytes is to the grammar
abbrev pub terminal_of : TokenKind → List ℕ → Terminal
terminal_of kind.Keyword text = unwrap_or (keyword_of text) word.Refused
terminal_of kind.Identifier text = word.Identifier
terminal_of kind.Int text = word.Int
terminal_of kind.Double text = word.Double
terminal_of kind.Literal text = word.Literal
terminal_of kind.Sign text = sign_of (slice_index text 0)
terminal_of kind.Refused text = word.Refused

-- a token as a symbol, with its bytes and its place
abbrev pub lexeme_at : List ℕ → Token → Lexeme
lexeme_at text token = record {
  what = terminal_of token.kind (token_bytes text token);
  bytes = token_bytes text token;
  place = line_and_column text token.from;
}

-- the tokens of a text as the grammar sees them
abbrev pub lexemes : List ℕ → List Token → List Lexeme
lexemes text tokens = map (lexeme_at text) tokens
