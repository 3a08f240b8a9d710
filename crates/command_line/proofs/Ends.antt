-- What is handed on where a call came to nothing.
use Rattle.std.proofs.Common.{Result, Ok, Err, true≢false, sym}
use Rattle.std.specs.Prelude.{IfOk, IsErr}

-- nothing was made, so nothing has to hold of it
pub none_made : {A E : Type 0} (P : A → Type 0) (made : Result A E) → IsErr made → IfOk made P
none_made P (Ok value) failed = absurd (true≢false (sym failed))
none_made P (Err fault) failed = tt
