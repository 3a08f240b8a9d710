-- Words: identifiers, keywords, the two words for truth and the words that are refused.
use Rattle.std.specs.Prelude.{ℕ, ◌&&◌, ◌||◌, Bool, List, [], ◌∷◌, codes, slice_index, Option, Some, None, is_some, if◌then◌else◌, nat_eq}
use Rattle.std.specs.List.{list_any, starts_with}
use Rattle.std.specs.Cmp.Lexicographic.{pointwise}
use Rattle.idl_token.specs.Classes.{is_word_start, is_word_byte, is_run}
use Rattle.idl_token.specs.Terminals.{same}
use Rattle.idl_token.specs.declared.terminal.Terminal.{Terminal}
use Rattle.idl_token.specs.declared.terminal.Terminal.TheVariants as word
use Rattle.idl_token.specs.declared.TokenKind.{TokenKind}
use Rattle.idl_token.specs.declared.TokenKind.TheVariants.{Keyword, Identifier, Int, Refused}

-- a letter or `_`, and then letters, digits, `.` and `_`
abbrev pub is_word : List ℕ → Bool
is_word text = is_word_start (slice_index text 0) && is_run is_word_byte text

-- the text is one of these words
abbrev pub is_one_of : List (List ℕ) → List ℕ → Bool
is_one_of words text = list_any (λ word. pointwise nat_eq text word) words

-- the words with a meaning of their own, which are never identifiers, and what each is to the grammar
unfoldable pub keywords : List (List ℕ × Terminal)
keywords =
    (codes "namespace", word.Namespace) ∷ (codes "include", word.Include) ∷ (codes "cpp_include", word.CppInclude)
    ∷ (codes "const", word.Const) ∷ (codes "typedef", word.Typedef) ∷ (codes "enum", word.Enum) ∷ (codes "struct", word.Struct)
    ∷ (codes "union", word.Union) ∷ (codes "exception", word.Exception) ∷ (codes "service", word.Service)
    ∷ (codes "extends", word.Extends) ∷ (codes "throws", word.Throws) ∷ (codes "oneway", word.Oneway) ∷ (codes "void", word.Void)
    ∷ (codes "required", word.Required) ∷ (codes "optional", word.Optional) ∷ (codes "bool", word.Bool) ∷ (codes "byte", word.Byte)
    ∷ (codes "i8", word.I8) ∷ (codes "i16", word.I16) ∷ (codes "i32", word.I32) ∷ (codes "i64", word.I64)
    ∷ (codes "double", word.DoubleWord) ∷ (codes "string", word.StringWord) ∷ (codes "binary", word.Binary)
    ∷ (codes "uuid", word.Uuid)
    ∷ (codes "map", word.Map) ∷ (codes "set", word.Set) ∷ (codes "list", word.List) ∷ (codes "cpp_type", word.CppType) ∷ []

-- the terminal of the first row with this text, of rows with a text and a terminal
abbrev pub terminal_in : {A : Type 0} → (A → List ℕ) → (A → Terminal) → List A → List ℕ → Option Terminal
terminal_in word terminal [] text = None
terminal_in word terminal (row ∷ rows) text = if pointwise nat_eq text (word row) then Some (terminal row) else terminal_in word terminal rows text

-- the text of the first row with this terminal, and no text where there is none
abbrev pub text_in : {A : Type 0} → (A → List ℕ) → (A → Terminal) → List A → Terminal → List ℕ
text_in word terminal [] k = []
text_in word terminal (row ∷ rows) k = if same (terminal row) k then word row else text_in word terminal rows k

-- the terminal of a keyword
abbrev pub keyword_of : List ℕ → Option Terminal
keyword_of text = terminal_in (λ row. row.0) (λ row. row.1) keywords text

-- the text of a keyword's terminal
abbrev pub keyword_text : Terminal → List ℕ
keyword_text k = text_in (λ row. row.0) (λ row. row.1) keywords k

-- a word with a meaning of its own
abbrev pub is_keyword : List ℕ → Bool
is_keyword text = is_some (keyword_of text)

-- the words that stand for the numbers 1 and 0
unfoldable pub truth_words : List (List ℕ)
truth_words = codes "true" ∷ codes "false" ∷ []

-- one of these two
abbrev pub is_truth_word : List ℕ → Bool
is_truth_word text = is_one_of truth_words text

-- the words that are left out by name
unfoldable pub refused_words : List (List ℕ)
refused_words = codes "senum" ∷ codes "slist" ∷ []

-- the words that begin so are left out too
unfoldable pub refused_front : List ℕ
refused_front = codes "xsd_"

-- a word that is left out
abbrev pub is_refused : List ℕ → Bool
is_refused text = is_one_of refused_words text || starts_with nat_eq text refused_front

-- what a word is
unfoldable pub kind_of_word : List ℕ → TokenKind
kind_of_word text =
    if is_keyword text then Keyword
    else if is_truth_word text then Int
    else if is_refused text then Refused
    else Identifier
