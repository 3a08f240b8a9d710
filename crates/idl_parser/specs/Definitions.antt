-- Definitions (Thrift IDL, 'Definition').
use Rattle.std.specs.Prelude.{ℕ}
use Rattle.idl_token.specs.declared.terminal.Terminal.TheVariants as word
use Rattle.idl_parser.specs.Phrases.{given, pair, Phrase, chain, either, maybe, many, marked}
use Rattle.idl_parser.specs.Leaves.{sign, kept_word, flagged, neither, left_tree, right_tree}
use Rattle.idl_parser.specs.Parts.{identifier, integer, separator, annotation}
use Rattle.idl_parser.specs.Types.{type_of}
use Rattle.idl_parser.specs.Constants.{value_of}
use Rattle.idl_parser.specs.Fields.{field_ending, fields}

-- what stands behind `const` (Thrift IDL, 'Const')
unfoldable pub constant_rest : ℕ → Phrase
constant_rest levels = chain pair (type_of levels) (chain pair identifier (chain right_tree (sign word.Equals) (value_of levels)))

-- a constant
abbrev pub constant : ℕ → Phrase
constant levels = chain pair (kept_word word.Const) (constant_rest levels)

-- what stands behind `typedef` (Thrift IDL, 'Typedef')
unfoldable pub typedef_rest : ℕ → Phrase
typedef_rest levels = chain pair (type_of levels) (chain left_tree identifier annotation)

-- a second name of a type
abbrev pub typedef : ℕ → Phrase
typedef levels = chain pair (kept_word word.Typedef) (typedef_rest levels)

-- the number of an enum's value (Thrift IDL, 'Enum')
unfoldable pub enum_number : Phrase
enum_number = maybe given (chain right_tree (sign word.Equals) integer)

-- a name and a number or none
unfoldable pub enum_value : Phrase
enum_value = chain pair identifier (chain left_tree enum_number field_ending)

-- a closing brace, and an annotation or none
unfoldable pub closing : Phrase
closing = chain neither (sign word.CloseBrace) annotation

-- what stands behind `enum`
unfoldable pub enum_rest : Phrase
enum_rest = chain pair identifier (chain right_tree (sign word.OpenBrace) (chain left_tree (many pair enum_value) closing))

-- an enum
abbrev pub enumeration : Phrase
enumeration = chain pair (kept_word word.Enum) enum_rest

-- the word of a struct (Thrift IDL, 'Struct', 'Union', 'Exception')
unfoldable pub struct_word : Phrase
struct_word = either (kept_word word.Struct) (either (kept_word word.Union) (kept_word word.Exception))

-- what stands behind the word of a struct
unfoldable pub struct_rest : ℕ → Phrase
struct_rest levels = chain pair identifier (chain right_tree (sign word.OpenBrace) (chain left_tree (fields levels) closing))

-- a struct, union or exception
abbrev pub structure : ℕ → Phrase
structure levels = chain pair struct_word (struct_rest levels)

-- fields in parentheses (Thrift IDL, 'Function')
unfoldable pub fields_in_parentheses : ℕ → Phrase
fields_in_parentheses levels = chain right_tree (sign word.OpenParen) (chain left_tree (fields levels) (sign word.CloseParen))

-- `oneway` or nothing
unfoldable pub oneway : Phrase
oneway = maybe given (flagged word.Oneway)

-- `void` or a type
unfoldable pub result_type : ℕ → Phrase
result_type levels = either (flagged word.Void) (type_of levels)

-- `throws` and fields in parentheses, or nothing
unfoldable pub throws : ℕ → Phrase
throws levels = maybe given (chain right_tree (sign word.Throws) (fields_in_parentheses levels))

-- a function with the place where it begins
unfoldable pub function : ℕ → Phrase
function levels =
    marked (chain pair oneway (chain pair (result_type levels) (chain pair identifier
    (chain pair (fields_in_parentheses levels) (chain left_tree (throws levels) field_ending)))))

-- the parent of a service (Thrift IDL, 'Service')
unfoldable pub parent : Phrase
parent = maybe given (chain right_tree (sign word.Extends) identifier)

-- what stands behind `service`
unfoldable pub service_rest : ℕ → Phrase
service_rest levels =
    chain pair identifier (chain pair parent (chain right_tree (sign word.OpenBrace) (chain left_tree (many pair (function levels)) closing)))

-- a service (Thrift IDL, 'Service')
abbrev pub service : ℕ → Phrase
service levels = chain pair (kept_word word.Service) (service_rest levels)

-- a definition without its separator
unfoldable pub bare_definition : ℕ → Phrase
bare_definition levels =
    either (constant levels) (either (typedef levels) (either enumeration (either (structure levels) (service levels))))

-- a definition, and a separator or none
unfoldable pub definition : ℕ → Phrase
definition levels = chain left_tree (bare_definition levels) separator
