-- Documents, as they are printed and read back.
use Rattle.std.proofs.Common.{◌≡◌, ℕ, zero, suc, List, [], ◌∷◌, ◌++◌, map, refl, sym, ap, ◌∙◌, subst, inl, inr}
use Rattle.std.specs.List.{flat_map}
use mathlib.Core.List.{append-nil}
use Rattle.idl_token.specs.declared.Token.{Token}
use Rattle.idl_token.specs.Tokens.{AreTokensOf}
use Rattle.idl_token.specs.Spellings.{any, Spelling}
use Rattle.idl_token.proofs.Spellings.{joined, nothing as spells_nothing, spelled_tokens}
use Rattle.idl_token.proofs.OneOutcome.{one_token_list}
use Rattle.idl_token.proofs.WholeTokens.{kinds_by_recursion}
use Rattle.idl_token.specs.declared.terminal.Terminal.TheVariants as word
use Rattle.idl_parser.specs.declared.tree.Include.{Include}
use Rattle.idl_parser.specs.declared.tree.Document.{Document}
use Rattle.idl_parser.specs.Phrases.{Lexeme, Node, none, pair, many, Times, Derives}
use Rattle.idl_parser.specs.Definitions.{definition}
use Rattle.idl_parser.specs.Documents.{deepest, include, header, with_header, document, DocumentIn}
use Rattle.idl_parser.specs.Symbols.{lexemes}
use Rattle.idl_parser.specs.Trees.{row, include_node, includes_node, definition_node, document_node}
use Rattle.idl_printer.specs.Unplaced.{without_places}
use Rattle.idl_printer.specs.Printed.{include_line, definition_text, printed}
use Rattle.idl_printer.specs.ReadBack.{IsParsed, IsParsedAs}
use Rattle.idl_parser.proofs.Faults.{one_document}
use Rattle.idl_printer.proofs.Marks.{Marked, marked_split, lexemes_marked, AreSound, lexemes_sound}
use Rattle.idl_printer.proofs.PrintedPhrases.{IsText, Prints, sound_behind, prints_pair, prints_kept, prints_end, prints_lines, word_of_end}
use Rattle.idl_printer.proofs.PrintedWords.{include_word}
use Rattle.idl_printer.proofs.PrintedLeaves.{prints_literal}
use Rattle.idl_printer.proofs.PrintedDefinitions.{prints_definition}

prints_include : (i : Include) → Prints any include (include_node i) (include_line i)
unfolding include_node include_line
prints_include i =
    prints_pair (prints_kept word.Include word.Include i.at (word_of_end 32 refl (λ more. refl) include_word))
    (prints_end 10 refl (λ more. refl) (prints_literal word.Literal i.file.bytes i.file.at)) (λ more q. refl)

-- an include in front of a row of headers
include_cons : {a b : Node} {first second : List ℕ} → IsText any include a first → IsText any (many with_header header) b second
    → IsText any (many with_header header) (pair a b) (first ++ second)
unfolding header
include_cons {a} {b} {first} {second} front back = record {
  marks = front.marks ++ back.marks;
  spells = joined any any first second front.marks back.marks front.spells back.spells (λ more q. refl);
  stands = λ ts rest m.
      let s = marked_split front.marks back.marks ts rest m in
      let l = front.stands ts s.0 s.1 in
      let r = back.stands s.0 rest s.2 in
      let is : with_header l.0 r.0 ≡ pair l.0 r.0 = ap (λ n. with_header n r.0) l.1.5 ∙ ap (λ n. pair n r.0) (sym l.1.5) in
      (pair l.0 r.0, (suc r.1.0, (s.0, l.0, r.0, inl l.1, r.1.1, sym is)), λ i. pair (l.2 i) (r.2 i));
}

no_headers : IsText any (many with_header header) none []
no_headers = record {
  marks = [];
  spells = spells_nothing _;
  stands = λ ts rest m. (none, (zero, (m, refl)), refl);
}

-- one header in front of a row: an include is printed, another is passed over
header_step : (ts mid : List Lexeme) (a b : Node) (i : Include) (is : List Include) → AreSound ts → Derives header ts a mid → row (map include_node (i ∷ is)) ≡ with_header a b
    → (AreSound mid → row (map include_node (i ∷ is)) ≡ b → IsText any (many with_header header) (row (map include_node (i ∷ is))) (flat_map include_line (i ∷ is)))
    → (AreSound mid → b ≡ row (map include_node is) → IsText any (many with_header header) (row (map include_node is)) (flat_map include_line is))
    → IsText any (many with_header header) (row (map include_node (i ∷ is))) (flat_map include_line (i ∷ is))
unfolding header
header_step ts mid a b i is sounds (inl l) is_row pass take =
    let e : pair (include_node i) (row (map include_node is)) ≡ pair a b = is_row ∙ ap (λ n. with_header n b) l.5 ∙ ap (λ n. pair n b) (sym l.5) in
    let first : a ≡ include_node i = cc in
    let more : b ≡ row (map include_node is) = cc in
    include_cons ((prints_include i).print ts mid sounds (subst (λ x. Derives include ts x mid) first l)) (take (sound_behind header ts a mid (inl l) sounds) more)
header_step ts mid a b i is sounds (inr (inl m)) is_row pass take = pass (sound_behind header ts a mid (inr (inl m)) sounds) (is_row ∙ ap (λ n. with_header n b) m.5)
header_step ts mid a b i is sounds (inr (inr n)) is_row pass take = pass (sound_behind header ts a mid (inr (inr n)) sounds) (is_row ∙ ap (λ x. with_header x b) n.5)

-- a row of headers, of which the includes are kept
headers : (count : ℕ) (ts rest : List Lexeme) (is : List Include) → AreSound ts → Times with_header (Derives header) count ts (row (map include_node is)) rest
    → IsText any (many with_header header) (row (map include_node is)) (flat_map include_line is)
headers count ts rest [] sounds h = no_headers
headers zero ts rest (i ∷ is) sounds h = let e : pair (include_node i) (row (map include_node is)) ≡ none = h.1 in absurd (cc)
headers (suc count) ts rest (i ∷ is) sounds h =
    header_step ts h.0 h.1 h.2 i is sounds h.3 h.5
    (λ s e. headers count h.0 rest (i ∷ is) s (subst (λ x. Times with_header (Derives header) count h.0 x rest) (sym e) h.4))
    (λ s e. headers count h.0 rest is s (subst (λ x. Times with_header (Derives header) count h.0 x rest) e h.4))

prints_headers : (is : List Include) → Prints any (many with_header header) (includes_node is) (flat_map include_line is)
prints_headers is = record { print = λ ts rest sounds h. headers h.0 ts rest is sounds h.1 }

-- each document
prints_document : (levels : ℕ) (d : Document) → Prints any (document levels) (document_node d) (printed d)
unfolding document document_node printed
prints_document levels d =
    prints_pair (prints_headers d.includes.items) (prints_lines (definition levels) definition_node definition_text (prints_definition levels) d.definitions.items) (λ more q. refl)

-- a document that was read is read from its printed text
pub read_back : (d : Document) → IsParsed d → IsParsedAs (document_node d) (printed d)
read_back d r =
    let sounds = lexemes_sound r.text r.tokens (kinds_by_recursion r.text r.tokens r.are) in
    let t = (prints_document deepest d).print (lexemes r.text r.tokens) [] sounds r.document in
    let spelling = subst (λ u. Spelling u [] t.marks) (append-nil (printed d)) (t.spells [] refl) in
    let s = spelled_tokens (printed d) t.marks spelling in
    let marked = subst (λ ms. Marked (lexemes (printed d) s.0) ms []) s.2 (lexemes_marked (printed d) s.0) in
    let again = t.stands (lexemes (printed d) s.0) [] marked in
    record { tokens = s.0; are = s.1; again = again.0; document = again.1; same = again.2 }

-- and what is parsed from it is the document
pub parsed_to_itself : (d parsed : Document) (tokens : List Token) → IsParsed d → AreTokensOf tokens (printed d)
    → DocumentIn deepest (lexemes (printed d) tokens) (document_node parsed) → without_places (document_node parsed) ≡ without_places (document_node d)
parsed_to_itself d parsed tokens r are is =
    let b = read_back d r in
    let alike = one_token_list (printed d) tokens b.tokens are b.are in
    let here = subst (λ ts. DocumentIn deepest (lexemes (printed d) ts) (document_node parsed)) alike is in
    ap without_places (one_document deepest (lexemes (printed d) b.tokens) (document_node parsed) b.again here b.document) ∙ b.same
