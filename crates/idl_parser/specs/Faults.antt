-- Where and why a text is no document.
use Rattle.std.specs.Prelude.{◌≡◌, ℕ, Bool, true, false, List, [], ◌∷◌, length, if◌then◌else◌}
use Rattle.idl_token.specs.Places.{line_and_column}
use Rattle.idl_token.specs.declared.Place.{Place}
use Rattle.idl_token.specs.declared.Token.{Token}
use Rattle.idl_parser.specs.declared.ParseKind.{ParseKind}
use Rattle.idl_parser.specs.declared.ParseKind.TheVariants.{Found, Refused, TooDeep}
use Rattle.idl_parser.specs.declared.ParseFault.{ParseFault}
use Rattle.idl_token.specs.declared.terminal.Terminal.{Terminal}
use Rattle.idl_token.specs.declared.terminal.Terminal.TheVariants as word
use Rattle.idl_token.specs.Terminals.{same}
use Rattle.idl_parser.specs.Phrases.{Lexeme}
use Rattle.idl_parser.specs.Symbols.{lexemes}
use Rattle.idl_parser.specs.FirstFault.{IsFirstSyntaxFault}
use Rattle.idl_parser.specs.Documents.{deepest}

-- the place of the symbol at fault, or that behind the last byte
abbrev pub next_place : Place → List Lexeme → Place
next_place end [] = end
next_place end (t ∷ rest) = t.place

-- the kind of a fault at such a symbol
abbrev pub kind_at : Bool → Terminal → ParseKind
kind_at true k = TooDeep
kind_at false k = if same k word.Refused then Refused else Found

-- a symbol that opens a level too many, a symbol that is left out by name, or another that can't stand there
abbrev pub fault_kind : Bool → List Lexeme → ParseKind
fault_kind too_deep [] = kind_at too_deep word.Identifier
fault_kind too_deep (t ∷ rest) = kind_at too_deep t.what

-- the first fault of a text with these tokens, where types and constants have so many levels of containers at most
pub record IsFaultWithin (levels : ℕ) (text : List ℕ) (tokens : List Token) (fault : ParseFault) : Type 0 where
  pub rest : List Lexeme
  pub too_deep : Bool
  pub first : IsFirstSyntaxFault levels (lexemes text tokens) rest too_deep
  pub kind : fault.kind ≡ fault_kind too_deep rest
  pub at : fault.at ≡ next_place (line_and_column text (length text)) rest

-- the first fault of a text with these tokens
abbrev pub IsFaultOf : List ℕ → List Token → ParseFault → Type 0
IsFaultOf text tokens fault = IsFaultWithin deepest text tokens fault
