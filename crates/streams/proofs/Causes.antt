-- What a call's count of faults says behind calls that counted none.
use Rattle.std.proofs.Common.{◌≡◌, ℕ, Result, Ok, Err, subst}
use Rattle.std.specs.Prelude.{OnOk}
use Rattle.streams.specs.Cause.{HasCause}

-- the count was as before when the call was made
pub cause_on : {A E : Type 0} (before between now : ℕ) (result : Result A E) → between ≡ before → HasCause between now result → HasCause before now result
cause_on before between now result same h = subst (λ n. HasCause n now result) same h

pub kept_on : {A E : Type 0} (before between now : ℕ) (result : Result A E) → between ≡ before → OnOk result (now ≡ between) → OnOk result (now ≡ before)
kept_on before between now result same h = subst (λ n. OnOk result (now ≡ n)) same h

-- what holds in any case holds of an answer
pub on_ok : {A E P : Type 0} (result : Result A E) → P → OnOk result P
on_ok (Ok a) p = p
on_ok (Err e) p = tt

-- what follows from what an answer says
pub ok_then : {A E P Q : Type 0} (result : Result A E) → (P → Q) → OnOk result P → OnOk result Q
ok_then (Ok a) f p = f p
ok_then (Err e) f p = tt
