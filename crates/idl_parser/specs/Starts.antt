-- The symbols with which the phrases of a row begin.
use Rattle.std.specs.Prelude.{List, [], ◌∷◌}
use Rattle.idl_token.specs.declared.terminal.Terminal.{Terminal}
use Rattle.idl_token.specs.declared.terminal.Terminal.TheVariants as word

-- entries of an annotation
abbrev pub entry_starts : List Terminal
entry_starts = word.Identifier ∷ []

-- values
abbrev pub value_starts : List Terminal
value_starts = word.Int ∷ word.Double ∷ word.Literal ∷ word.Identifier ∷ word.OpenBracket ∷ word.OpenBrace ∷ []

-- types
abbrev pub type_starts : List Terminal
type_starts =
    word.Bool ∷ word.Byte ∷ word.I8 ∷ word.I16 ∷ word.I32 ∷ word.I64 ∷ word.DoubleWord ∷ word.StringWord ∷ word.Binary ∷ word.Uuid
    ∷ word.Identifier ∷ word.Map ∷ word.Set ∷ word.List ∷ []

-- fields
abbrev pub field_starts : List Terminal
field_starts = word.Int ∷ word.Required ∷ word.Optional ∷ type_starts

-- functions
abbrev pub function_starts : List Terminal
function_starts = word.Oneway ∷ word.Void ∷ type_starts

-- definitions
abbrev pub definition_starts : List Terminal
definition_starts = word.Const ∷ word.Typedef ∷ word.Enum ∷ word.Struct ∷ word.Union ∷ word.Exception ∷ word.Service ∷ []

-- headers
abbrev pub header_starts : List Terminal
header_starts = word.Include ∷ word.CppInclude ∷ word.Namespace ∷ []
