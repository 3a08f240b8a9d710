-- A file is read as something, and as one thing alone.
use Rattle.std.proofs.Common.{◌≡◌, ◌⊎◌, inl, inr, ℕ, Bool, true, false, nat_le, List, length, Option, None, Some, refl, ap, sym, subst, ◌∙◌}
use Rattle.streams.specs.Files.{File, content_of}
use Rattle.idl_token.specs.declared.Place.{Place}
use Rattle.idl_token.specs.declared.Token.{Token}
use Rattle.idl_token.specs.declared.LexFault.{LexFault}
use Rattle.idl_token.specs.declared.LexKind.{LexKind}
use Rattle.idl_token.specs.Limits.{longest_idl_text}
use Rattle.idl_token.specs.Places.{line_and_column}
use Rattle.idl_token.specs.Tokens.{AreTokensOf, IsFirstLexFault, HasTokens, HasFirstLexFault}
use Rattle.idl_parser.specs.declared.ParseFault.{ParseFault}
use Rattle.idl_parser.specs.declared.ParseKind.{ParseKind}
use Rattle.idl_parser.specs.Phrases.{Lexeme, Node}
use Rattle.idl_parser.specs.Symbols.{lexemes}
use Rattle.idl_parser.specs.Documents.{deepest, DocumentIn}
use Rattle.idl_parser.specs.FirstFault.{IsFirstSyntaxFault, AreDocument, HasFirstSyntaxFault}
use Rattle.idl_parser.specs.Faults.{next_place, fault_kind, IsFaultOf}
use Rattle.idl_parser.specs.Unplaced.{nowhere}
use Rattle.idl_include.specs.Readings.{absent, too_long, bad_name, lexed_badly, parsed_badly, includes_itself, same_base, too_many, FileReading, read_as, unread, IsTreeOf, IsParseFaultIn, IsTextReadAs, IsReadWithin, IsHeldReadAs, IsReaderOf}

-- what is known of the lexer and of the parser
pub record Known : Type 0 where
  pub lexed : (text : List ℕ) → HasTokens text ⊎ HasFirstLexFault text
  pub tokens : (text : List ℕ) (ts us : List Token) → AreTokensOf ts text → AreTokensOf us text → ts ≡ us
  pub apart : (text : List ℕ) (ts : List Token) (fault : LexFault) → AreTokensOf ts text → IsFirstLexFault fault text → ⊥
  pub lex_fault : (text : List ℕ) (f g : LexFault) → IsFirstLexFault f text → IsFirstLexFault g text → f ≡ g
  pub parsed : (levels : ℕ) (ts : List Lexeme) → AreDocument levels ts ⊎ HasFirstSyntaxFault levels ts
  pub document : (levels : ℕ) (ts : List Lexeme) (d e : Node) → DocumentIn levels ts d → DocumentIn levels ts e → d ≡ e
  pub no_fault : (levels : ℕ) (ts rest : List Lexeme) (d : Node) (deep : Bool) → DocumentIn levels ts d → IsFirstSyntaxFault levels ts rest deep → ⊥
  pub parse_fault : (text : List ℕ) (tokens : List Token) (f g : ParseFault) → IsFaultOf text tokens f → IsFaultOf text tokens g → f ≡ g

module _ (k : Known) where
  -- tokens that are a document, or have a first fault
  parsed_as : (text : List ℕ) (ts : List Token) → AreTokensOf ts text
      → AreDocument deepest (lexemes text ts) ⊎ HasFirstSyntaxFault deepest (lexemes text ts) → (x : FileReading) × IsTextReadAs text x
  parsed_as text ts cut (inl d) = (read_as d.0, record { tokens = ts; cut = cut; document = d.1 })
  parsed_as text ts cut (inr f) = (
    unread (next_place (line_and_column text (length text)) f.0) (parsed_badly (fault_kind f.1 f.0)),
    record { tokens = ts; cut = cut; first = record { rest = f.0; too_deep = f.1; first = f.2; kind = refl; at = refl } },
  )

  -- a text that has tokens, or a first fault
  lexed_as : (text : List ℕ) → HasTokens text ⊎ HasFirstLexFault text → (x : FileReading) × IsTextReadAs text x
  lexed_as text (inl t) = parsed_as text t.0 t.1 (k.parsed deepest (lexemes text t.0))
  lexed_as text (inr f) = (unread f.0.at (lexed_badly f.0.kind), f.1)

  within : (b : Bool) (text : List ℕ) → (x : FileReading) × IsReadWithin b text x
  within true text = lexed_as text (k.lexed text)
  within false text = (unread nowhere too_long, refl)

  held : (o : Option (List ℕ)) → (x : FileReading) × IsHeldReadAs o x
  held None = (unread nowhere absent, refl)
  held (Some text) = within (nat_le (length text) longest_idl_text) text

  pub some_reader : (files : List File) → (reader : List ℕ → FileReading) × IsReaderOf files reader
  some_reader files = (λ name. (held (content_of files name)).0, λ name. (held (content_of files name)).1)

  -- a tree and a fault of the lexer don't go together, nor with one of the parser
  tree_or_fault : (text : List ℕ) (tree : Node) (at : Place) (kind : ParseKind) → IsTreeOf text tree → IsParseFaultIn text at kind → ⊥
  tree_or_fault text tree at kind p q =
      let P : List Token → Type 0 = λ ts. DocumentIn deepest (lexemes text ts) tree in
      k.no_fault deepest (lexemes text q.tokens) q.first.rest tree q.first.too_deep
      (subst P (k.tokens text p.tokens q.tokens p.cut q.cut) p.document) q.first.first

  one_parse : (text : List ℕ) (at in_other : Place) (kind other : ParseKind) → IsParseFaultIn text at kind → IsParseFaultIn text in_other other
      → unread at (parsed_badly kind) ≡ unread in_other (parsed_badly other)
  one_parse text at in_other kind other p q =
      let f : ParseFault = record { at = at; kind = kind } in
      let g : ParseFault = record { at = in_other; kind = other } in
      let P : List Token → Type 0 = λ ts. IsFaultOf text ts f in
      ap (λ (x : ParseFault). unread x.at (parsed_badly x.kind))
      (k.parse_fault text q.tokens f g (subst P (k.tokens text p.tokens q.tokens p.cut q.cut) p.first) q.first)

  one_lex : (text : List ℕ) (at in_other : Place) (kind other : LexKind)
      → IsFirstLexFault (record { at = at; kind = kind }) text → IsFirstLexFault (record { at = in_other; kind = other }) text
      → unread at (lexed_badly kind) ≡ unread in_other (lexed_badly other)
  one_lex text at in_other kind other p q =
      ap (λ (x : LexFault). unread x.at (lexed_badly x.kind)) (k.lex_fault text (record { at = at; kind = kind }) (record { at = in_other; kind = other }) p q)

  one_text : (text : List ℕ) (x y : FileReading) → IsTextReadAs text x → IsTextReadAs text y → x ≡ y
  one_text text (read_as tree) (read_as other) p q =
      let P : List Token → Type 0 = λ ts. DocumentIn deepest (lexemes text ts) tree in
      ap read_as (k.document deepest (lexemes text q.tokens) tree other (subst P (k.tokens text p.tokens q.tokens p.cut q.cut) p.document) q.document)
  one_text text (read_as tree) (unread at (lexed_badly kind)) p q = absurd (k.apart text p.tokens (record { at = at; kind = kind }) p.cut q)
  one_text text (read_as tree) (unread at (parsed_badly kind)) p q = absurd (tree_or_fault text tree at kind p q)
  one_text text (unread at (lexed_badly kind)) (read_as tree) p q = absurd (k.apart text q.tokens (record { at = at; kind = kind }) q.cut p)
  one_text text (unread at (lexed_badly kind)) (unread in_other (lexed_badly other)) p q = one_lex text at in_other kind other p q
  one_text text (unread at (lexed_badly kind)) (unread in_other (parsed_badly other)) p q = absurd (k.apart text q.tokens (record { at = at; kind = kind }) q.cut p)
  one_text text (unread at (parsed_badly kind)) (read_as tree) p q = absurd (tree_or_fault text tree at kind q p)
  one_text text (unread at (parsed_badly kind)) (unread in_other (lexed_badly other)) p q = absurd (k.apart text p.tokens (record { at = in_other; kind = other }) p.cut q)
  one_text text (unread at (parsed_badly kind)) (unread in_other (parsed_badly other)) p q = one_parse text at in_other kind other p q
  one_text text (unread at absent) y p q = absurd p
  one_text text (unread at too_long) y p q = absurd p
  one_text text (unread at bad_name) y p q = absurd p
  one_text text (unread at includes_itself) y p q = absurd p
  one_text text (unread at same_base) y p q = absurd p
  one_text text (unread at too_many) y p q = absurd p
  one_text text x (unread at absent) p q = absurd q
  one_text text x (unread at too_long) p q = absurd q
  one_text text x (unread at bad_name) p q = absurd q
  one_text text x (unread at includes_itself) p q = absurd q
  one_text text x (unread at same_base) p q = absurd q
  one_text text x (unread at too_many) p q = absurd q

  one_within : (b : Bool) (text : List ℕ) (x y : FileReading) → IsReadWithin b text x → IsReadWithin b text y → x ≡ y
  one_within true text x y p q = one_text text x y p q
  one_within false text x y p q = p ∙ sym q

  one_held : (o : Option (List ℕ)) (x y : FileReading) → IsHeldReadAs o x → IsHeldReadAs o y → x ≡ y
  one_held None x y p q = p ∙ sym q
  one_held (Some text) x y p q = one_within (nat_le (length text) longest_idl_text) text x y p q

  pub one_reader : (files : List File) (r s : List ℕ → FileReading) → IsReaderOf files r → IsReaderOf files s → (name : List ℕ) → r name ≡ s name
  one_reader files r s p q name = one_held (content_of files name) (r name) (s name) (p name) (q name)
