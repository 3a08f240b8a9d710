use Rattle.std.proofs.Common.{List, ℕ, ◌∷◌, ◌++◌, codes, ap, arith}
use Rattle.std.proofs.lemmas.Fmt.{decimal_digit}
use Rattle.value_text.proofs.rows.worked_texts.Goals as goal

pub returns-clause-number : goal.returns-clause-number
returns-clause-number c = ap (λ (ds : List ℕ). 45 ∷ ds ++ codes "i") (decimal_digit 7 (omega arith))

pub returns-clause-fields : goal.returns-clause-fields
returns-clause-fields c = ap (λ (ds : List ℕ). 123 ∷ 45 ∷ (ds ++ codes "=true") ++ codes "}") (decimal_digit 1 (omega arith))
