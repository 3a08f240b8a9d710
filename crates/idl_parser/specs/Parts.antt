-- Phrases of which documents are made: names, numbers, separators, annotations.
use Rattle.idl_token.specs.declared.terminal.Terminal.TheVariants as word
use Rattle.idl_parser.specs.Phrases.{Phrase, one, chain, either, maybe, many}
use Rattle.idl_parser.specs.Leaves.{sign, text_leaf, literal_leaf, number_leaf, neither, left_tree, dropped}

-- a name
abbrev pub identifier : Phrase
identifier = one word.Identifier (text_leaf word.Identifier)

-- an integer
abbrev pub integer : Phrase
integer = one word.Int number_leaf

-- a number with a fraction or an exponent
abbrev pub decimal : Phrase
decimal = one word.Double (text_leaf word.Double)

-- a literal (Thrift IDL, 'Literal')
abbrev pub literal : Phrase
literal = one word.Literal (literal_leaf word.Literal)

-- `,` or `;` (Thrift IDL, 'ListSeparator')
unfoldable pub separator : Phrase
separator = maybe dropped (either (sign word.Comma) (sign word.Semicolon))

-- the value of an annotation's entry: `=` and a literal, or nothing
unfoldable pub annotation_value : Phrase
annotation_value = maybe dropped (chain neither (sign word.Equals) (sign word.Literal))

-- a name, a value or none, a separator or none
unfoldable pub annotation_entry : Phrase
annotation_entry = chain neither (sign word.Identifier) (chain neither annotation_value separator)

-- entries in parentheses, of which nothing is kept
unfoldable pub annotation : Phrase
annotation = maybe dropped (chain neither (sign word.OpenParen) (chain neither (many neither annotation_entry) (sign word.CloseParen)))

-- a phrase and an annotation or none
abbrev pub annotated : Phrase → Phrase
annotated p = chain left_tree p annotation
