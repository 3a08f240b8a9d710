-- What a file of the interface language is read as: the tree of its document, or why there is none.
use Rattle.std.specs.Prelude.{◌≡◌, ℕ, Bool, true, false, nat_le, List, length, Option, Some, None}
use Rattle.streams.specs.Files.{File, content_of}
use Rattle.idl_token.specs.declared.Place.{Place}
use Rattle.idl_token.specs.declared.Token.{Token}
use Rattle.idl_token.specs.declared.LexKind.{LexKind}
use Rattle.idl_token.specs.Limits.{longest_idl_text}
use Rattle.idl_token.specs.Tokens.{AreTokensOf, IsFirstLexFault}
use Rattle.idl_parser.specs.declared.ParseKind.{ParseKind}
use Rattle.idl_parser.specs.Phrases.{Node}
use Rattle.idl_parser.specs.Symbols.{lexemes}
use Rattle.idl_parser.specs.Documents.{deepest, DocumentIn}
use Rattle.idl_parser.specs.Faults.{IsFaultOf}
use Rattle.idl_parser.specs.Unplaced.{nowhere}

-- why a program can't be loaded
pub data LoadFlawKind : Type 0 where
  -- there is no such file
  absent : LoadFlawKind
  -- the file has more than 4,194,304 bytes
  too_long : LoadFlawKind
  -- an include's literal isn't UTF-8
  bad_name : LoadFlawKind
  -- the lexer's first fault
  lexed_badly : LexKind → LoadFlawKind
  -- the parser's first fault
  parsed_badly : ParseKind → LoadFlawKind
  -- an include leads back to a file that is being loaded
  includes_itself : LoadFlawKind
  -- another file has the same base name
  same_base : LoadFlawKind
  -- it would be file number 257
  too_many : LoadFlawKind

-- what a file is read as
pub data FileReading : Type 0 where
  -- a document with this tree
  read_as : Node → FileReading
  -- no document
  unread : Place → LoadFlawKind → FileReading

-- the text has tokens, and they are a document with this tree (Thrift IDL, 'Document')
pub record IsTreeOf (text : List ℕ) (tree : Node) : Type 0 where
  pub tokens : List Token
  pub cut : AreTokensOf tokens text
  pub document : DocumentIn deepest (lexemes text tokens) tree

-- the first fault that the parser finds in the text's tokens
pub record IsParseFaultIn (text : List ℕ) (at : Place) (kind : ParseKind) : Type 0 where
  pub tokens : List Token
  pub cut : AreTokensOf tokens text
  pub first : IsFaultOf text tokens (record { at = at; kind = kind })

-- what a text is read as
abbrev pub IsTextReadAs : List ℕ → FileReading → Type 0
IsTextReadAs text (read_as tree) = IsTreeOf text tree
IsTextReadAs text (unread at (lexed_badly kind)) = IsFirstLexFault (record { at = at; kind = kind }) text
IsTextReadAs text (unread at (parsed_badly kind)) = IsParseFaultIn text at kind
IsTextReadAs text (unread at _) = ⊥

-- the same where the text is within the limit, or not
abbrev pub IsReadWithin : Bool → List ℕ → FileReading → Type 0
IsReadWithin true text reading = IsTextReadAs text reading
IsReadWithin false text reading = reading ≡ unread nowhere too_long

-- what a file is read as that holds these bytes, or that isn't there
abbrev pub IsHeldReadAs : Option (List ℕ) → FileReading → Type 0
IsHeldReadAs None reading = reading ≡ unread nowhere absent
IsHeldReadAs (Some text) reading = IsReadWithin (nat_le (length text) longest_idl_text) text reading

-- the function says of each name what the file of this name is read as
abbrev pub IsReaderOf : List File → (List ℕ → FileReading) → Type 0
IsReaderOf files reader = (name : List ℕ) → IsHeldReadAs (content_of files name) (reader name)
