-- Constant values (Thrift IDL, 'Constant Values').
use Rattle.std.specs.Prelude.{ℕ, zero, suc}
use Rattle.idl_token.specs.declared.terminal.Terminal.TheVariants as word
use Rattle.idl_parser.specs.Phrases.{pair, Phrase, deep, chain, either, many}
use Rattle.idl_parser.specs.Leaves.{sign, kept_word, left_tree, right_tree}
use Rattle.idl_parser.specs.Parts.{identifier, integer, decimal, literal, separator}

-- the containers, of values such as the inner ones
unfoldable pub list_item : Phrase → Phrase
list_item inner = chain left_tree inner separator

-- what stands behind `[`
unfoldable pub list_value_rest : Phrase → Phrase
list_value_rest inner = chain left_tree (many pair (list_item inner)) (sign word.CloseBracket)

-- a list (Thrift IDL, 'ConstList')
abbrev pub list_value : Phrase → Phrase
list_value inner = chain pair (kept_word word.OpenBracket) (list_value_rest inner)

-- a key and its value, and a separator or none
unfoldable pub map_entry : Phrase → Phrase
map_entry inner = chain pair inner (chain right_tree (sign word.Colon) (chain left_tree inner separator))

-- what stands behind `{`
unfoldable pub map_value_rest : Phrase → Phrase
map_value_rest inner = chain left_tree (many pair (map_entry inner)) (sign word.CloseBrace)

-- a map (Thrift IDL, 'ConstMap')
abbrev pub map_value : Phrase → Phrase
map_value inner = chain pair (kept_word word.OpenBrace) (map_value_rest inner)

-- a list or a map
unfoldable pub collection : Phrase → Phrase
collection inner = either (list_value inner) (map_value inner)

-- where no level is left
unfoldable pub no_collection : Phrase
no_collection = either (deep word.OpenBracket) (deep word.OpenBrace)

-- a number, a literal, a name or something else
abbrev pub leaf_or : Phrase → Phrase
leaf_or other = either integer (either decimal (either literal (either identifier other)))

-- a list or a map of so many levels at most
unfoldable pub inner_value : ℕ → Phrase
inner_value zero = no_collection
inner_value (suc levels) = collection (leaf_or (inner_value levels))

-- a value of so many levels of containers at most
unfoldable pub value_of : ℕ → Phrase
value_of levels = leaf_or (inner_value levels)
