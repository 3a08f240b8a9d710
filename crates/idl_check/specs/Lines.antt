-- The errors' line of an IDL that is refused.
use Rattle.std.specs.Prelude.{ℕ, List, ◌∷◌, ◌++◌, codes}
use Rattle.text_out.specs.Decimal.{natural_of}
use Rattle.text_out.specs.Line.{line_of}
use Rattle.idl_token.specs.declared.Place.{Place}
use Rattle.idl_check.specs.declared.kinds.IdlFaultKind.{IdlFaultKind}
use Rattle.idl_check.specs.declared.kinds.IdlFaultKind.TheVariants as kinds

-- the word of a kind
abbrev pub idl_kind_word : IdlFaultKind → List ℕ
idl_kind_word kinds.Absent = codes "Absent"
idl_kind_word kinds.TooLong = codes "TooLong"
idl_kind_word kinds.TooMany = codes "TooMany"
idl_kind_word kinds.BadName = codes "BadName"
idl_kind_word kinds.Cycle = codes "Cycle"
idl_kind_word kinds.SameBase = codes "SameBase"
idl_kind_word kinds.BadByte = codes "BadByte"
idl_kind_word kinds.OpenLiteral = codes "OpenLiteral"
idl_kind_word kinds.OpenComment = codes "OpenComment"
idl_kind_word kinds.BadEscape = codes "BadEscape"
idl_kind_word kinds.BigNumber = codes "BigNumber"
idl_kind_word kinds.Found = codes "Found"
idl_kind_word kinds.Refused = codes "Refused"
idl_kind_word kinds.TooDeep = codes "TooDeep"
idl_kind_word kinds.DottedName = codes "DottedName"
idl_kind_word kinds.DuplicateName = codes "DuplicateName"
idl_kind_word kinds.UnknownType = codes "UnknownType"
idl_kind_word kinds.TypedefCycle = codes "TypedefCycle"
idl_kind_word kinds.FieldId = codes "FieldId"
idl_kind_word kinds.DuplicateId = codes "DuplicateId"
idl_kind_word kinds.EnumValue = codes "EnumValue"
idl_kind_word kinds.ServiceCycle = codes "ServiceCycle"
idl_kind_word kinds.DuplicateFunction = codes "DuplicateFunction"
idl_kind_word kinds.OnewayNotVoid = codes "OnewayNotVoid"
idl_kind_word kinds.OnewayThrows = codes "OnewayThrows"
idl_kind_word kinds.NotException = codes "NotException"
idl_kind_word kinds.StructLoop = codes "StructLoop"
idl_kind_word kinds.WrongKind = codes "WrongKind"
idl_kind_word kinds.OutOfRange = codes "OutOfRange"
idl_kind_word kinds.UnknownName = codes "UnknownName"
idl_kind_word kinds.DoubleConstant = codes "DoubleConstant"
idl_kind_word kinds.BadUuid = codes "BadUuid"
idl_kind_word kinds.ConstCycle = codes "ConstCycle"
idl_kind_word kinds.UnknownField = codes "UnknownField"
idl_kind_word kinds.MissingField = codes "MissingField"
idl_kind_word kinds.TooLarge = codes "TooLarge"

-- line and column, with `:` (58) between
abbrev pub place_in_text : Place → List ℕ
place_in_text at = natural_of at.line ++ 58 ∷ natural_of at.column

-- the file's name, the place and the kind
abbrev pub idl_refusal_text : List ℕ → Place → IdlFaultKind → List ℕ
idl_refusal_text file at kind = line_of (codes "thriftd: idl " ++ file ++ 32 ∷ place_in_text at ++ 32 ∷ idl_kind_word kind)
