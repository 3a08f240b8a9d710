-- The symbols of the grammar, compared by numbers.
use Rattle.std.specs.Prelude.{ℕ, Bool, ◌==◌}
use Rattle.idl_token.specs.declared.terminal.Terminal.{Terminal}
use Rattle.idl_token.specs.declared.terminal.Terminal.TheVariants as word

-- a number for each symbol, each its own
abbrev pub code : Terminal → ℕ
code word.Identifier = 0
code word.Int = 1
code word.Double = 2
code word.Literal = 3
code word.Refused = 4
code word.Namespace = 5
code word.Include = 6
code word.CppInclude = 7
code word.Const = 8
code word.Typedef = 9
code word.Enum = 10
code word.Struct = 11
code word.Union = 12
code word.Exception = 13
code word.Service = 14
code word.Extends = 15
code word.Throws = 16
code word.Oneway = 17
code word.Void = 18
code word.Required = 19
code word.Optional = 20
code word.Bool = 21
code word.Byte = 22
code word.I8 = 23
code word.I16 = 24
code word.I32 = 25
code word.I64 = 26
code word.DoubleWord = 27
code word.StringWord = 28
code word.Binary = 29
code word.Uuid = 30
code word.Map = 31
code word.Set = 32
code word.List = 33
code word.CppType = 34
code word.OpenBrace = 35
code word.CloseBrace = 36
code word.OpenParen = 37
code word.CloseParen = 38
code word.OpenBracket = 39
code word.CloseBracket = 40
code word.Less = 41
code word.Greater = 42
code word.Comma = 43
code word.Semicolon = 44
code word.Colon = 45
code word.Equals = 46
code word.Star = 47

-- whether two symbols are the same
abbrev pub same : Terminal → Terminal → Bool
same one other = code one == code other
