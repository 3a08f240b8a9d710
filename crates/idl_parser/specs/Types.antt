-- Types (Thrift IDL, 'Types').
use Rattle.std.specs.Prelude.{ℕ, zero, suc}
use Rattle.idl_token.specs.declared.terminal.Terminal.TheVariants as word
use Rattle.idl_parser.specs.Phrases.{pair, Phrase, deep, chain, either, maybe}
use Rattle.idl_parser.specs.Leaves.{sign, kept_word, neither, left_tree, right_tree, dropped}
use Rattle.idl_parser.specs.Parts.{identifier, annotated}

-- a base type's word
unfoldable pub base : Phrase
base =
    either (kept_word word.Bool) (either (kept_word word.Byte) (either (kept_word word.I8) (either (kept_word word.I16) (either (kept_word word.I32)
    (either (kept_word word.I64) (either (kept_word word.DoubleWord) (either (kept_word word.StringWord) (either (kept_word word.Binary) (kept_word word.Uuid)))))))))

-- `cpp_type` and a literal, or nothing; nothing is kept of it
unfoldable pub cpp_type : Phrase
cpp_type = maybe dropped (chain neither (sign word.CppType) (sign word.Literal))

-- the containers, of types such as the inner ones
unfoldable pub map_type_rest : Phrase → Phrase
map_type_rest inner =
    chain right_tree cpp_type (chain right_tree (sign word.Less)
    (chain pair inner (chain right_tree (sign word.Comma) (chain left_tree inner (sign word.Greater)))))

-- a map
abbrev pub map_type : Phrase → Phrase
map_type inner = chain pair (kept_word word.Map) (map_type_rest inner)

-- what stands behind `set`
unfoldable pub set_type_rest : Phrase → Phrase
set_type_rest inner = chain right_tree cpp_type (chain right_tree (sign word.Less) (chain left_tree inner (sign word.Greater)))

-- a set
abbrev pub set_type : Phrase → Phrase
set_type inner = chain pair (kept_word word.Set) (set_type_rest inner)

-- what stands behind `list`
unfoldable pub list_type_rest : Phrase → Phrase
list_type_rest inner =
    chain right_tree cpp_type (chain right_tree (sign word.Less) (chain left_tree inner (chain neither (sign word.Greater) cpp_type)))

-- a list
abbrev pub list_type : Phrase → Phrase
list_type inner = chain pair (kept_word word.List) (list_type_rest inner)

-- a map, a set or a list
unfoldable pub container : Phrase → Phrase
container inner = either (map_type inner) (either (set_type inner) (list_type inner))

-- where no level is left
unfoldable pub no_container : Phrase
no_container = either (deep word.Map) (either (deep word.Set) (deep word.List))

-- a base type, a name or something else
abbrev pub bare_or : Phrase → Phrase
bare_or other = either base (either identifier other)

-- a container of so many levels at most
unfoldable pub inner_type : ℕ → Phrase
inner_type zero = no_container
inner_type (suc levels) = container (annotated (bare_or (inner_type levels)))

-- a type without its annotation
unfoldable pub bare_type : ℕ → Phrase
bare_type levels = bare_or (inner_type levels)

-- a type of so many levels of containers at most, and an annotation or none
unfoldable pub type_of : ℕ → Phrase
type_of levels = annotated (bare_type levels)
