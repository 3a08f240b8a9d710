-- The words and signs of the grammar, as they are printed.
use Rattle.std.proofs.Common.{◌≡◌, ℕ, List, [], ◌∷◌, refl}
use Rattle.std.specs.Option.{unwrap_or}
use Rattle.idl_token.specs.declared.TokenKind.TheVariants.{Keyword, Sign}
use Rattle.idl_token.specs.Words.{keywords, kind_of_word, keyword_of, keyword_text}
use Rattle.idl_token.specs.Wholes.{sound, whole_of, signs}
use Rattle.idl_token.specs.Spellings.{parted, any}
use Rattle.idl_token.proofs.Spellings.{word as spells_word, sign as spells_sign}
use Rattle.idl_token.specs.declared.terminal.Terminal.{Terminal}
use Rattle.idl_token.specs.declared.terminal.Terminal.TheVariants as word
use Rattle.idl_parser.specs.Symbols.{sign_of}
use Rattle.idl_printer.proofs.PrintedPhrases.{IsWordOf}

keyword : (k : Terminal) (text : List ℕ) → whole_of text ≡ sound Keyword → unwrap_or (keyword_of text) word.Refused ≡ k → IsWordOf parted k text
keyword k text whole what = record { mark = record { kind = Keyword; bytes = text }; what = what; spells = spells_word text Keyword whole }

a_sign : (k : Terminal) (s : ℕ) → whole_of (s ∷ []) ≡ sound Sign → sign_of s ≡ k → IsWordOf any k (s ∷ [])
a_sign k s whole what = record { mark = record { kind = Sign; bytes = s ∷ [] }; what = what; spells = spells_sign s whole }

pub include_word : IsWordOf parted word.Include (keyword_text word.Include)
unfolding keywords kind_of_word
include_word = keyword word.Include (keyword_text word.Include) refl refl

pub const_word : IsWordOf parted word.Const (keyword_text word.Const)
unfolding keywords kind_of_word
const_word = keyword word.Const (keyword_text word.Const) refl refl

pub typedef_word : IsWordOf parted word.Typedef (keyword_text word.Typedef)
unfolding keywords kind_of_word
typedef_word = keyword word.Typedef (keyword_text word.Typedef) refl refl

pub enum_word : IsWordOf parted word.Enum (keyword_text word.Enum)
unfolding keywords kind_of_word
enum_word = keyword word.Enum (keyword_text word.Enum) refl refl

pub struct_word : IsWordOf parted word.Struct (keyword_text word.Struct)
unfolding keywords kind_of_word
struct_word = keyword word.Struct (keyword_text word.Struct) refl refl

pub union_word : IsWordOf parted word.Union (keyword_text word.Union)
unfolding keywords kind_of_word
union_word = keyword word.Union (keyword_text word.Union) refl refl

pub exception_word : IsWordOf parted word.Exception (keyword_text word.Exception)
unfolding keywords kind_of_word
exception_word = keyword word.Exception (keyword_text word.Exception) refl refl

pub service_word : IsWordOf parted word.Service (keyword_text word.Service)
unfolding keywords kind_of_word
service_word = keyword word.Service (keyword_text word.Service) refl refl

pub extends_word : IsWordOf parted word.Extends (keyword_text word.Extends)
unfolding keywords kind_of_word
extends_word = keyword word.Extends (keyword_text word.Extends) refl refl

pub throws_word : IsWordOf parted word.Throws (keyword_text word.Throws)
unfolding keywords kind_of_word
throws_word = keyword word.Throws (keyword_text word.Throws) refl refl

pub oneway_word : IsWordOf parted word.Oneway (keyword_text word.Oneway)
unfolding keywords kind_of_word
oneway_word = keyword word.Oneway (keyword_text word.Oneway) refl refl

pub void_word : IsWordOf parted word.Void (keyword_text word.Void)
unfolding keywords kind_of_word
void_word = keyword word.Void (keyword_text word.Void) refl refl

pub required_word : IsWordOf parted word.Required (keyword_text word.Required)
unfolding keywords kind_of_word
required_word = keyword word.Required (keyword_text word.Required) refl refl

pub optional_word : IsWordOf parted word.Optional (keyword_text word.Optional)
unfolding keywords kind_of_word
optional_word = keyword word.Optional (keyword_text word.Optional) refl refl

pub bool_word : IsWordOf parted word.Bool (keyword_text word.Bool)
unfolding keywords kind_of_word
bool_word = keyword word.Bool (keyword_text word.Bool) refl refl

pub byte_word : IsWordOf parted word.Byte (keyword_text word.Byte)
unfolding keywords kind_of_word
byte_word = keyword word.Byte (keyword_text word.Byte) refl refl

pub i8_word : IsWordOf parted word.I8 (keyword_text word.I8)
unfolding keywords kind_of_word
i8_word = keyword word.I8 (keyword_text word.I8) refl refl

pub i16_word : IsWordOf parted word.I16 (keyword_text word.I16)
unfolding keywords kind_of_word
i16_word = keyword word.I16 (keyword_text word.I16) refl refl

pub i32_word : IsWordOf parted word.I32 (keyword_text word.I32)
unfolding keywords kind_of_word
i32_word = keyword word.I32 (keyword_text word.I32) refl refl

pub i64_word : IsWordOf parted word.I64 (keyword_text word.I64)
unfolding keywords kind_of_word
i64_word = keyword word.I64 (keyword_text word.I64) refl refl

pub double_word : IsWordOf parted word.DoubleWord (keyword_text word.DoubleWord)
unfolding keywords kind_of_word
double_word = keyword word.DoubleWord (keyword_text word.DoubleWord) refl refl

pub string_word : IsWordOf parted word.StringWord (keyword_text word.StringWord)
unfolding keywords kind_of_word
string_word = keyword word.StringWord (keyword_text word.StringWord) refl refl

pub binary_word : IsWordOf parted word.Binary (keyword_text word.Binary)
unfolding keywords kind_of_word
binary_word = keyword word.Binary (keyword_text word.Binary) refl refl

pub uuid_word : IsWordOf parted word.Uuid (keyword_text word.Uuid)
unfolding keywords kind_of_word
uuid_word = keyword word.Uuid (keyword_text word.Uuid) refl refl

pub map_word : IsWordOf parted word.Map (keyword_text word.Map)
unfolding keywords kind_of_word
map_word = keyword word.Map (keyword_text word.Map) refl refl

pub set_word : IsWordOf parted word.Set (keyword_text word.Set)
unfolding keywords kind_of_word
set_word = keyword word.Set (keyword_text word.Set) refl refl

pub list_word : IsWordOf parted word.List (keyword_text word.List)
unfolding keywords kind_of_word
list_word = keyword word.List (keyword_text word.List) refl refl

pub open_brace_sign : IsWordOf any word.OpenBrace (123 ∷ [])
unfolding signs sign_of
open_brace_sign = a_sign word.OpenBrace 123 refl refl

pub close_brace_sign : IsWordOf any word.CloseBrace (125 ∷ [])
unfolding signs sign_of
close_brace_sign = a_sign word.CloseBrace 125 refl refl

pub open_paren_sign : IsWordOf any word.OpenParen (40 ∷ [])
unfolding signs sign_of
open_paren_sign = a_sign word.OpenParen 40 refl refl

pub close_paren_sign : IsWordOf any word.CloseParen (41 ∷ [])
unfolding signs sign_of
close_paren_sign = a_sign word.CloseParen 41 refl refl

pub open_bracket_sign : IsWordOf any word.OpenBracket (91 ∷ [])
unfolding signs sign_of
open_bracket_sign = a_sign word.OpenBracket 91 refl refl

pub close_bracket_sign : IsWordOf any word.CloseBracket (93 ∷ [])
unfolding signs sign_of
close_bracket_sign = a_sign word.CloseBracket 93 refl refl

pub less_sign : IsWordOf any word.Less (60 ∷ [])
unfolding signs sign_of
less_sign = a_sign word.Less 60 refl refl

pub greater_sign : IsWordOf any word.Greater (62 ∷ [])
unfolding signs sign_of
greater_sign = a_sign word.Greater 62 refl refl

pub comma_sign : IsWordOf any word.Comma (44 ∷ [])
unfolding signs sign_of
comma_sign = a_sign word.Comma 44 refl refl

pub colon_sign : IsWordOf any word.Colon (58 ∷ [])
unfolding signs sign_of
colon_sign = a_sign word.Colon 58 refl refl

pub equals_sign : IsWordOf any word.Equals (61 ∷ [])
unfolding signs sign_of
equals_sign = a_sign word.Equals 61 refl refl
