-- The struct of a failure, as a codec writes and reads it.
use Rattle.std.proofs.Common.{◌≡◌, ℕ, ℤ, pos, ◌+◌, List, [], ◌++◌, length, refl, sym, ap, ◌∙◌, arith, append-nil, length-append, FitsSigned}
use Rattle.std.specs.Int.{w16}
use Rattle.std.proofs.lemmas.Int.{ints}
use Rattle.envelope.specs.declared.head.Protocol.{Protocol}
use Rattle.envelope.specs.declared.head.Protocol.TheVariants.{Binary, Compact}
use Rattle.envelope.specs.Exception.{Failure, compact_text_field, compact_code_field, failure_struct, exception_head, exception_text}
use Rattle.envelope.specs.Spelling.{compact_name}
use Rattle.thrift_value.specs.Plain.{plain}
use Rattle.thrift_value.specs.Ranges.{IsInRange}
use Rattle.thrift_value.specs.Sizes.{HasSmallSizes}
use Rattle.thrift_value.specs.Tidy.{IsWellTagged}
use Rattle.thrift_value.specs.Tree.{Tree}
use Rattle.wire_model.specs.Encoder.{text}
use Rattle.wire_model.specs.Place.{struct_at, found_struct, IsWithinBounds}
use Rattle.call_model.specs.Arguments.{wire_of}
use Rattle.call_model.specs.FailureValues.{failure_value, FitsFailure}
use Rattle.call_model.specs.Replies.{encoder_of}

-- what is written of a struct is read, in a protocol
abbrev pub StructsAreRead : Protocol → Type 0
StructsAreRead p = (x : Tree) (front more : List ℕ) → IsWellTagged x → IsInRange x → HasSmallSizes x → IsWithinBounds x
    → struct_at (wire_of p) (front ++ (text (encoder_of p) x ++ more)) (length front) ≡ found_struct (plain x) (length front + length (text (encoder_of p) x))

pub written : (p : Protocol) (failure : Failure) → failure_struct p failure ≡ text (encoder_of p) (failure_value failure)
unfolding failure_struct compact_text_field compact_code_field compact_name
written Binary failure = refl
written Compact failure = refl

first_id : FitsSigned w16 (pos 1)
first_id = omega (arith, ints)

second_id : FitsSigned w16 (pos 2)
second_id = omega (arith, ints)

within : (failure : Failure) → IsWithinBounds (failure_value failure)
within failure = record { is_struct = refl; depth = omega arith; count = omega arith }

-- the value is read back
value_back : (p : Protocol) (failure : Failure) (front more : List ℕ) → StructsAreRead p → FitsFailure failure
    → struct_at (wire_of p) (front ++ (text (encoder_of p) (failure_value failure) ++ more)) (length front)
    ≡ found_struct (failure_value failure) (length front + length (text (encoder_of p) (failure_value failure)))
value_back p failure front more structs fits =
    structs (failure_value failure) front more (tt, (tt, tt)) (first_id, fits.bytes, (second_id, fits.code, tt)) (fits.size, (tt, tt)) (within failure)

pub struct_back : (p : Protocol) (failure : Failure) (front more : List ℕ) → StructsAreRead p → FitsFailure failure
    → struct_at (wire_of p) (front ++ (failure_struct p failure ++ more)) (length front) ≡ found_struct (failure_value failure) (length front + length (failure_struct p failure))
struct_back p failure front more structs fits =
    ap (λ t. struct_at (wire_of p) (front ++ (t ++ more)) (length front)) (written p failure)
    ∙ value_back p failure front more structs fits
    ∙ ap (λ t. found_struct (failure_value failure) (length front + length t)) (sym (written p failure))

-- behind the head of an exception there is nothing else
pub message_back : (p : Protocol) (name : List ℕ) (id : ℤ) (failure : Failure) → StructsAreRead p → FitsFailure failure
    → struct_at (wire_of p) (exception_text p name id failure) (length (exception_head p name id)) ≡ found_struct (failure_value failure) (length (exception_text p name id failure))
message_back p name id failure structs fits =
    let head : List ℕ = exception_head p name id in
    let told : List ℕ = failure_struct p failure in
    ap (λ t. struct_at (wire_of p) (head ++ t) (length head)) (sym (append-nil told))
    ∙ struct_back p failure head [] structs fits
    ∙ ap (found_struct (failure_value failure)) (sym (length-append head told))

-- in each protocol, where it is so in both
module _ (binary : StructsAreRead Binary) (compact : StructsAreRead Compact) where
  each : (p : Protocol) → StructsAreRead p
  each Binary = binary
  each Compact = compact

  pub read_anywhere : (p : Protocol) (failure : Failure) (front more : List ℕ) → FitsFailure failure
      → struct_at (wire_of p) (front ++ (failure_struct p failure ++ more)) (length front) ≡ found_struct (failure_value failure) (length front + length (failure_struct p failure))
  read_anywhere p failure front more fits = struct_back p failure front more (each p) fits

  pub read_whole : (p : Protocol) (name : List ℕ) (id : ℤ) (failure : Failure) → FitsFailure failure
      → struct_at (wire_of p) (exception_text p name id failure) (length (exception_head p name id)) ≡ found_struct (failure_value failure) (length (exception_text p name id failure))
  read_whole p name id failure fits = message_back p name id failure (each p) fits
