-- What it means that a printed document is read again.
use Rattle.std.specs.Prelude.{◌≡◌, ℕ, List}
use Rattle.idl_token.specs.declared.Token.{Token}
use Rattle.idl_token.specs.Tokens.{AreTokensOf}
use Rattle.idl_parser.specs.declared.tree.Document.{Document}
use Rattle.idl_parser.specs.Phrases.{Node}
use Rattle.idl_parser.specs.Documents.{deepest, DocumentIn}
use Rattle.idl_parser.specs.Symbols.{lexemes}
use Rattle.idl_parser.specs.Trees.{document_node}
use Rattle.idl_printer.specs.Unplaced.{without_places}

-- the document is that of some text
pub record IsParsed (d : Document) : Type 0 where
  pub text : List ℕ
  pub tokens : List Token
  pub are : AreTokensOf tokens text
  pub document : DocumentIn deepest (lexemes text tokens) (document_node d)

-- a text has tokens, and these are a document with the same tree, places aside
pub record IsParsedAs (tree : Node) (text : List ℕ) : Type 0 where
  pub tokens : List Token
  pub are : AreTokensOf tokens text
  pub again : Node
  pub document : DocumentIn deepest (lexemes text tokens) again
  pub same : without_places again ≡ without_places tree
