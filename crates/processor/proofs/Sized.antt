-- A frame's size, and that it fits.
use Rattle.std.proofs.Common.{◌≡◌, ℕ, ℤ, ◌≤◌, List, [], ◌∷◌, ◌++◌, length, ap, arith}
use Rattle.std.proofs.lemmas.List.{length-append}
use Rattle.envelope.specs.declared.head.Protocol.{Protocol}
use Rattle.envelope.specs.Exception.{Failure, exception_text}
use Rattle.call_model.specs.Names.{method_part}
use Rattle.call_model.proofs.Framed.{exception_length}
use Rattle.call_model.proofs.Parts.{method_within}
use Rattle.call_rules.specs.Desks.{longest_payload}

-- a frame that tells of a failure
pub failure_fits : (front framed : List ℕ) (p : Protocol) (name method : List ℕ) (id : ℤ) (failure : Failure) → front ≡ 0 ∷ 0 ∷ 0 ∷ 0 ∷ []
    → framed ≡ front ++ exception_text p method id failure → method ≡ method_part name → length name ≤ longest_payload → length failure.text ≤ 268435556 → length framed ≤ 2147483648
failure_fits front framed p name method id failure empty is part named told =
    let a : length framed ≡ length (front ++ exception_text p method id failure) = ap length is in
    let b : length front ≡ 4 = ap length empty in
    let m : length method ≡ length (method_part name) = ap length part in
    omega (arith, a, b, m, length-append front (exception_text p method id failure), exception_length p method id failure, method_within name, named, told)
