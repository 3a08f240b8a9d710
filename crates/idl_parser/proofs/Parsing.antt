-- What a reading of a text's symbols tells of the text.
use Rattle.std.proofs.Common.{◌≡◌, ◌≢◌, true, false, ℕ, ◌≤◌, List, length, map, refl, sym, ap, ◌∙◌, subst, arith}
use Rattle.std.proofs.lemmas.List.{length-map}
use Rattle.idl_token.specs.Limits.{longest_idl_text}
use Rattle.idl_token.specs.declared.Token.{Token}
use Rattle.idl_token.specs.Tokens.{StandBetween}
use Rattle.idl_parser.specs.declared.ParseFault.{ParseFault}
use Rattle.idl_parser.specs.declared.reader.Stop.{Stop}
use Rattle.idl_parser.specs.declared.reader.Stop.TheVariants.{NoMemory, Stuck, Deep}
use Rattle.idl_parser.specs.Phrases.{Lexeme, Node}
use Rattle.idl_parser.specs.Documents.{deepest, document, DocumentIn}
use Rattle.idl_token.specs.Places.{line_and_column}
use Rattle.idl_parser.specs.Symbols.{lexemes, lexeme_at}
use Rattle.idl_parser.specs.FirstFault.{IsFirstSyntaxFault}
use Rattle.idl_parser.specs.Faults.{next_place, fault_kind, IsFaultOf}
use Rattle.idl_parser.specs.Reading.{done, whole, read}
use Rattle.idl_parser.specs.ReaderCalls.{most, StopsAt, is_deep}
use Rattle.idl_parser.proofs.Faults.{document_is_read, fault_is_first}
use Rattle.idl_parser.proofs.Places.{few}

-- a text has room for each of its symbols
room_for_all : (text : List ℕ) (tokens : List Token) → length text ≤ longest_idl_text → StandBetween 0 (length text) tokens → length (lexemes text tokens) ≤ most
unfolding most
room_for_all text tokens short order =
    let n = few 0 (length text) tokens order in
    let e : length (map (lexeme_at text) tokens) ≡ length tokens = simp length-map in
    omega arith

pub document_of : (text : List ℕ) (tokens : List Token) (ts rest : List Lexeme) (d : Node) → ts ≡ lexemes text tokens
    → whole (read most (document deepest) ts) ≡ done d rest → DocumentIn deepest (lexemes text tokens) d
document_of text tokens ts rest d is e = subst (λ k. DocumentIn deepest k d) is (document_is_read most deepest ts d rest e)

first_of : (text : List ℕ) (tokens : List Token) (ts rest : List Lexeme) (stop : Stop) → stop ≢ NoMemory → ts ≡ lexemes text tokens
    → length text ≤ longest_idl_text → StandBetween 0 (length text) tokens
    → StopsAt stop (whole (read most (document deepest) ts)) rest → IsFirstSyntaxFault deepest (lexemes text tokens) rest (is_deep stop)
first_of text tokens ts rest NoMemory told is short order e = absurd (told refl)
first_of text tokens ts rest Stuck told is short order e =
    fault_is_first most deepest (lexemes text tokens) rest false (room_for_all text tokens short order) (ap (λ k. whole (read most (document deepest) k)) (sym is) ∙ e)
first_of text tokens ts rest Deep told is short order e =
    fault_is_first most deepest (lexemes text tokens) rest true (room_for_all text tokens short order) (ap (λ k. whole (read most (document deepest) k)) (sym is) ∙ e)

pub fault_of : (text : List ℕ) (tokens : List Token) (fault : ParseFault) (ts rest : List Lexeme) (stop : Stop) → stop ≢ NoMemory → ts ≡ lexemes text tokens
    → length text ≤ longest_idl_text → StandBetween 0 (length text) tokens
    → StopsAt stop (whole (read most (document deepest) ts)) rest
    → fault.at ≡ next_place (line_and_column text (length text)) rest → fault.kind ≡ fault_kind (is_deep stop) rest → IsFaultOf text tokens fault
fault_of text tokens fault ts rest stop told is short order e at kind = record {
  rest = rest;
  too_deep = is_deep stop;
  first = first_of text tokens ts rest stop told is short order e;
  kind = kind;
  at = at;
}
