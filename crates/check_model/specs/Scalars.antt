-- Constants of one value: integers, doubles, literals and values of enums, against a type (Thrift IDL, 'Constant Values').
use Rattle.std.specs.Prelude.{ℕ, ℤ, pos, negsuc, ◌&&◌, ◌-◌, ◌^◌, int_le, neg_ℤ, nat_eq, Bool, true, false, List, Option, Some, None, Result, Ok, Err, if◌then◌else◌}
use Rattle.thrift_value.specs.Tree.{Tree, of_bool, of_i8, of_i16, of_i32, of_i64, of_double, of_uuid, of_bytes}
use Rattle.idl_token.specs.Uuids.{uuid_number}
use Rattle.schema.specs.PlainKind.{PlainKind, kind_bool, kind_i8, kind_i16, kind_i32, kind_i64, kind_double, kind_text, kind_binary, kind_uuid, kind_enum}
use Rattle.check_model.specs.Worths.{ConstFlaw, wrong_kind, out_of_range, double_constant, bad_uuid}
use Rattle.check_model.specs.WholeDoubles.{double_number, int_as_double, double_bits}

-- a value, or what is wrong
abbrev pub OneWorth : Type 0
OneWorth = Result Tree ConstFlaw

-- a number from -2 ^ (bits - 1) to 2 ^ (bits - 1) - 1
abbrev pub has_bits : ℕ → ℤ → Bool
has_bits bits n = int_le (neg_ℤ (pos (2 ^ (bits - 1)))) n && int_le n (pos (2 ^ (bits - 1) - 1))

-- a number of so many bits
abbrev pub ranged : (ℤ → Tree) → ℕ → ℤ → OneWorth
ranged tree bits n = if has_bits bits n then Ok (tree n) else Err out_of_range

-- a whole number as a double
abbrev pub doubled : Option ℤ → OneWorth
doubled (Some n) = Ok (of_double (double_bits n))
doubled None = Err double_constant

-- a number as a uuid
abbrev pub as_uuid : Option ℕ → OneWorth
as_uuid (Some n) = Ok (of_uuid n)
as_uuid None = Err bad_uuid

-- a number that is 0 or 1
abbrev pub truth : ℤ → OneWorth
truth (pos n) = if nat_eq n 0 then Ok (of_bool false) else if nat_eq n 1 then Ok (of_bool true) else Err out_of_range
truth (negsuc n) = Err out_of_range

-- an integer
abbrev pub int_worth : PlainKind → ℤ → OneWorth
int_worth kind_bool n = truth n
int_worth kind_i8 n = ranged of_i8 8 n
int_worth kind_i16 n = ranged of_i16 16 n
int_worth kind_i32 n = ranged of_i32 32 n
int_worth kind_i64 n = ranged of_i64 64 n
int_worth kind_double n = doubled (int_as_double n)
int_worth (kind_enum which) n = ranged of_i32 32 n
int_worth _ n = Err wrong_kind

-- a number with a fraction or an exponent
abbrev pub double_worth : PlainKind → List ℕ → OneWorth
double_worth kind_double text = doubled (double_number text)
double_worth _ text = Err wrong_kind

-- a literal
abbrev pub literal_worth : PlainKind → List ℕ → OneWorth
literal_worth kind_text bytes = Ok (of_bytes bytes)
literal_worth kind_binary bytes = Ok (of_bytes bytes)
literal_worth kind_uuid bytes = as_uuid (uuid_number bytes)
literal_worth _ bytes = Err wrong_kind

-- the number of a value of the enum of some number
abbrev pub enum_worth : PlainKind → ℕ → ℤ → OneWorth
enum_worth kind_i8 which n = ranged of_i8 8 n
enum_worth kind_i16 which n = ranged of_i16 16 n
enum_worth kind_i32 which n = ranged of_i32 32 n
enum_worth kind_i64 which n = ranged of_i64 64 n
enum_worth (kind_enum other) which n = if nat_eq other which then Ok (of_i32 n) else Err wrong_kind
enum_worth _ which n = Err wrong_kind
