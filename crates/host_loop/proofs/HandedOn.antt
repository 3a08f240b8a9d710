-- A fault that is handed on is the one that came.
use Rattle.std.proofs.Common.{◌≡◌, Result, Err, sym, subst}
use Rattle.std.specs.Prelude.{IfErr}
use Rattle.std.specs.Result.{IsErrAnd}
use Rattle.std.proofs.lemmas.Result.{err_from_is_err_and}

pub same_fault : {A E : Type 0} (r : Result A E) (P : E → Type 0) (fault : E) → IsErrAnd r (λ y. y ≡ fault) → P fault → IfErr r P
same_fault {A} {E} r P fault same holds =
    let at : (y : E) × (r ≡ Err y) × (y ≡ fault) = err_from_is_err_and r same in
    subst (λ (x : Result A E). IfErr x P) (sym at.1) (subst P (sym at.2) holds)
