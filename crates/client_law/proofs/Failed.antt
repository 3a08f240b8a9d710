-- The text of a call that failed.
use Rattle.std.proofs.Common.{◌≡◌, ℕ, pos, ◌<◌, true, List, [], ◌∷◌, codes, refl, arith, FitsSigned}
use Rattle.std.specs.Prelude.{All, nat_lt}
use Rattle.std.specs.Int.{w32}
use Rattle.std.proofs.lemmas.Bool.{ltb-true}
use Rattle.std.proofs.lemmas.Int.{ints}
use Rattle.std.proofs.lemmas.List.{length-append}
use Rattle.std.proofs.lemmas.List.Elements.{All-append, All-cons, All-get_or, All-nil, All-tail}
use Rattle.std.proofs.lemmas.List.Sums.{AllPass-from_list_all}
use Rattle.schema.specs.Sound.{IsSchemaName}
use Rattle.call_model.specs.FailureValues.{FitsFailure}
use Rattle.call_model.specs.Failures.{no_result}
use Rattle.client_law.proofs.Bytes.{all_bytes}

passed : (bytes : List ℕ) → All (λ b. nat_lt b 256 ≡ true) bytes → All (λ b. b < 256) bytes
passed [] all = All-nil (λ b. b < 256)
passed (b ∷ bs) all =
    All-cons (λ b. b < 256) b bs (ltb-true b 256 (All-get_or (λ b. nat_lt b 256 ≡ true) (b ∷ bs) 0 b (omega arith) all))
    (passed bs (All-tail (λ b. nat_lt b 256 ≡ true) b bs all))

front_bytes : All (λ b. b < 256) (codes "Internal error processing ")
front_bytes = passed (codes "Internal error processing ") (AllPass-from_list_all (λ b. nat_lt b 256) (codes "Internal error processing ") refl)

internal : FitsSigned w32 (pos 6)
internal = omega (arith, ints)

-- it can be written and read
pub failure_fits : (method : List ℕ) → IsSchemaName method → FitsFailure (no_result method)
failure_fits method name =
    let short = name.short in
    record {
      size = omega (arith, short, length-append (codes "Internal error processing ") method);
      bytes = All-append (λ b. b < 256) (codes "Internal error processing ") method front_bytes (all_bytes method name.bytes);
      code = internal;
    }
