use Rattle.std.proofs.Common.{◌≡◌, ◌≢◌, refl, subst}
use Rattle.std.specs.Result.{IsErrAnd}
use Rattle.hex.specs.declared.error.FromHexError.TheVariants.{OutOfMemory}
use Rattle.text_out.specs.declared.HexFault.TheVariants.{Bad}
use Rattle.text_out.proofs.HexLemmas.{decoded_ok, decoded_bad}
use Rattle.text_out.proofs.read_hex.Goals as goal

pub returns-clause-ok : goal.returns-clause-ok
returns-clause-ok c = decoded_ok _ _ c.in_ok-decode.ensures.ok

-- `From` makes `Bad` of no want of memory
pub returns-in_err-decode-clause-bad : goal.returns-in_err-decode-clause-bad
returns-in_err-decode-clause-bad c is_bad =
    let told : Bad ≡ Bad → c.in_err-decode.field-0.0 ≢ OutOfMemory =
    subst (λ answer. IsErrAnd answer (λ fault. fault ≡ Bad → c.in_err-decode.field-0.0 ≢ OutOfMemory)) is_bad c.from_residual.ensures.1 in
    decoded_bad c.args.text.now _ c.in_err-decode.ensures.err (told refl)
