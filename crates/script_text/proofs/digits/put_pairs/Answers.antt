use Rattle.std.proofs.Common.{◌≡◌, ℕ, ◌+◌, ◌*◌, ◌%◌, List, take, drop, slice_set, ap, ◌∙◌, arith}
use Rattle.std.specs.Prelude.{max, nat_lt}
use Rattle.text_out.specs.Hex.{unhex_of}
use Rattle.script_text.specs.Pairs.{no_digit}
use Rattle.script_text.proofs.Pairing.{joined, larger, pair_put}
use Rattle.script_text.proofs.digits.put_pairs.Goals as goal

pub pairs-preserved : goal.pairs-preserved
pairs-preserved c =
    let put : List ℕ = slice_set c.pairs.room c.pairs.i (c.worth-high.result % 16 * 16 + c.worth-low.result % 16) in
    let high-low : c.max.result ≡ max c.worth-high.result c.worth-low.result = c.max.ensures in
    let most-is : c.max-most.result ≡ max c.pairs.most (max c.worth-high.result c.worth-low.result) =
    c.max-most.ensures ∙ larger c.pairs.most c.max.result ∙ ap (λ (n : ℕ). max c.pairs.most n) high-low in
    ap (λ (most : ℕ). joined (nat_lt most no_digit) (take (c.pairs.i + 1) put) (unhex_of (drop (2 * (c.pairs.i + 1)) c.args.text.now))) most-is
    ∙ pair_put c.args.text.now c.pairs.room c.pairs.i c.pairs.most c.worth-high.result c.worth-low.result (omega arith) (omega arith)
    c.worth-high.ensures.value c.worth-low.ensures.value c.worth-high.ensures.small c.worth-low.ensures.small c.pairs.invariant
