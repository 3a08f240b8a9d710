-- What tells a caller of a failure, as a value (Thrift RPC specification, 'Application Exceptions').
use Rattle.std.specs.Prelude.{◌<◌, ◌^◌, pos, All, length, FitsSigned}
use Rattle.std.specs.Int.{w32}
use Rattle.envelope.specs.Exception.{Failure}
use Rattle.thrift_value.specs.Tree.{Tree, of_i32, of_bytes, of_struct, no_fields, field}

-- a struct: field 1 is the text, a string, and field 2 the code, an i32
abbrev pub failure_value : Failure → Tree
failure_value failure = of_struct (field (pos 1) (of_bytes failure.text) (field (pos 2) (of_i32 failure.code) no_fields))

-- the text is bytes, with a length of 31 bits, and the code has 32
pub record FitsFailure (failure : Failure) : Type 0 where
  pub size : length failure.text < 2 ^ 31
  pub bytes : All (λ b. b < 256) failure.text
  pub code : FitsSigned w32 failure.code
