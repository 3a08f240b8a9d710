-- Documents (Thrift IDL, 'Document').
use Rattle.std.specs.Prelude.{ℕ, List, []}
use Rattle.idl_token.specs.declared.terminal.Terminal.TheVariants as word
use Rattle.idl_parser.specs.Phrases.{Lexeme, Node, none, pair, Phrase, chain, either, many, Derives}
use Rattle.idl_parser.specs.Leaves.{sign, kept_word, neither}
use Rattle.idl_parser.specs.Parts.{literal, annotation}
use Rattle.idl_parser.specs.Definitions.{definition}

-- an include (Thrift IDL, 'Include')
abbrev pub include : Phrase
include = chain pair (kept_word word.Include) literal

-- an include of C++ (Thrift IDL, 'CppInclude'), of which nothing is kept
abbrev pub cpp_include : Phrase
cpp_include = chain neither (sign word.CppInclude) (sign word.Literal)

-- what stands behind `namespace` (Thrift IDL, 'Namespace'), of which nothing is kept
unfoldable pub namespace_rest : Phrase
namespace_rest = chain neither (either (sign word.Identifier) (sign word.Star)) (chain neither (sign word.Identifier) annotation)

-- a namespace
abbrev pub namespace : Phrase
namespace = chain neither (sign word.Namespace) namespace_rest

-- a header (Thrift IDL, 'Header')
unfoldable pub header : Phrase
header = either include (either cpp_include namespace)

-- of the headers only includes are kept
abbrev pub with_header : Node → Node → Node
with_header none xs = xs
with_header x xs = pair x xs

-- how many levels of containers may stand in one another in a type or a constant
unfoldable pub deepest : ℕ
deepest = 64

-- headers and then definitions
unfoldable pub document : ℕ → Phrase
document levels = chain pair (many with_header header) (many pair (definition levels))

-- all the symbols are a document
abbrev pub DocumentIn : ℕ → List Lexeme → Node → Type 0
DocumentIn levels ts d = Derives (document levels) ts d []
