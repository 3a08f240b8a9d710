-- Fields (Thrift IDL, 'Field').
use Rattle.std.specs.Prelude.{ℕ}
use Rattle.idl_token.specs.declared.terminal.Terminal.TheVariants as word
use Rattle.idl_parser.specs.Phrases.{given, pair, Phrase, chain, either, maybe, many, marked}
use Rattle.idl_parser.specs.Leaves.{sign, flagged, neither, left_tree, right_tree}
use Rattle.idl_parser.specs.Parts.{identifier, integer, separator, annotation}
use Rattle.idl_parser.specs.Types.{type_of}
use Rattle.idl_parser.specs.Constants.{value_of}

-- a number and `:`
unfoldable pub field_id : Phrase
field_id = maybe given (chain left_tree integer (sign word.Colon))

-- `required`, `optional` or nothing
unfoldable pub field_need : Phrase
field_need = maybe given (either (flagged word.Required) (flagged word.Optional))

-- `=` and a value, or nothing
unfoldable pub field_default : ℕ → Phrase
field_default levels = maybe given (chain right_tree (sign word.Equals) (value_of levels))

-- an annotation or none, and a separator or none
unfoldable pub field_ending : Phrase
field_ending = chain neither annotation separator

-- a field with the place where it begins
unfoldable pub field : ℕ → Phrase
field levels =
    marked (chain pair field_id (chain pair field_need (chain pair (type_of levels)
    (chain pair identifier (chain left_tree (field_default levels) field_ending)))))

-- fields up to a closing sign, which isn't part of them
unfoldable pub fields : ℕ → Phrase
fields levels = many pair (field levels)
