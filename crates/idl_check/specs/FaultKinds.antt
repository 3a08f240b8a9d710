-- The kinds of refusals, by what loading and checking a program find.
use Rattle.std.specs.Prelude.{Option, Some, None}
use Rattle.idl_token.specs.declared.LexKind.{LexKind}
use Rattle.idl_token.specs.declared.LexKind.TheVariants as lex
use Rattle.idl_parser.specs.declared.ParseKind.{ParseKind}
use Rattle.idl_parser.specs.declared.ParseKind.TheVariants as parse
use Rattle.idl_include.specs.Readings.{LoadFlawKind, absent, too_long, bad_name, lexed_badly, parsed_badly, includes_itself, same_base, too_many}
use Rattle.check_model.specs.Worths.{ConstFlaw, wrong_kind, out_of_range, unknown_name, double_constant, bad_uuid, const_cycle, unknown_field, missing_field, too_large}
use Rattle.check_model.specs.Passes.{Pass, dotted_name, duplicate_name, unknown_type, typedef_cycle, field_id, duplicate_id, enum_number, service_cycle, duplicate_function, oneway_not_void, oneway_throws, not_exception, struct_loop, bad_constant}
use Rattle.check_model.specs.FirstFlaw.{FlawKind, found_by, of_value}
use Rattle.idl_check.specs.declared.kinds.IdlFaultKind.{IdlFaultKind}
use Rattle.idl_check.specs.declared.kinds.IdlFaultKind.TheVariants as kinds

-- the kind of a fault of the lexer; want of memory is none
abbrev pub idl_kind_of_lexer : LexKind → Option IdlFaultKind
idl_kind_of_lexer lex.BadByte = Some kinds.BadByte
idl_kind_of_lexer lex.OpenLiteral = Some kinds.OpenLiteral
idl_kind_of_lexer lex.OpenComment = Some kinds.OpenComment
idl_kind_of_lexer lex.BadEscape = Some kinds.BadEscape
idl_kind_of_lexer lex.BigNumber = Some kinds.BigNumber
idl_kind_of_lexer lex.NoMemory = None

-- the kind of a fault of the parser; want of memory is none
abbrev pub idl_kind_of_parser : ParseKind → Option IdlFaultKind
idl_kind_of_parser parse.Found = Some kinds.Found
idl_kind_of_parser parse.Refused = Some kinds.Refused
idl_kind_of_parser parse.TooDeep = Some kinds.TooDeep
idl_kind_of_parser parse.NoMemory = None

-- the kind of a fault at which loading stops
abbrev pub kind_of_loading : LoadFlawKind → Option IdlFaultKind
kind_of_loading absent = Some kinds.Absent
kind_of_loading too_long = Some kinds.TooLong
kind_of_loading bad_name = Some kinds.BadName
kind_of_loading (lexed_badly kind) = idl_kind_of_lexer kind
kind_of_loading (parsed_badly kind) = idl_kind_of_parser kind
kind_of_loading includes_itself = Some kinds.Cycle
kind_of_loading same_base = Some kinds.SameBase
kind_of_loading too_many = Some kinds.TooMany

-- the kind of a fault that a pass finds; those of values have kinds of their own
abbrev pub kind_of_pass : Pass → Option IdlFaultKind
kind_of_pass dotted_name = Some kinds.DottedName
kind_of_pass duplicate_name = Some kinds.DuplicateName
kind_of_pass unknown_type = Some kinds.UnknownType
kind_of_pass typedef_cycle = Some kinds.TypedefCycle
kind_of_pass field_id = Some kinds.FieldId
kind_of_pass duplicate_id = Some kinds.DuplicateId
kind_of_pass enum_number = Some kinds.EnumValue
kind_of_pass service_cycle = Some kinds.ServiceCycle
kind_of_pass duplicate_function = Some kinds.DuplicateFunction
kind_of_pass oneway_not_void = Some kinds.OnewayNotVoid
kind_of_pass oneway_throws = Some kinds.OnewayThrows
kind_of_pass not_exception = Some kinds.NotException
kind_of_pass struct_loop = Some kinds.StructLoop
kind_of_pass bad_constant = None

-- the kind of a fault of a value
abbrev pub kind_of_value : ConstFlaw → IdlFaultKind
kind_of_value wrong_kind = kinds.WrongKind
kind_of_value out_of_range = kinds.OutOfRange
kind_of_value unknown_name = kinds.UnknownName
kind_of_value double_constant = kinds.DoubleConstant
kind_of_value bad_uuid = kinds.BadUuid
kind_of_value const_cycle = kinds.ConstCycle
kind_of_value unknown_field = kinds.UnknownField
kind_of_value missing_field = kinds.MissingField
kind_of_value too_large = kinds.TooLarge

-- the kind of a program's fault
abbrev pub kind_of_flaw : FlawKind → Option IdlFaultKind
kind_of_flaw (found_by pass) = kind_of_pass pass
kind_of_flaw (of_value flaw) = Some (kind_of_value flaw)
