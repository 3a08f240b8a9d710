use Rattle.std.proofs.Common.{◌≡◌, sym, subst, ◌∙◌}
use Rattle.std.specs.Str.{IsUtf8}
use Rattle.std.specs.Cmp.Lexicographic.{other_text}
use Rattle.text_out.specs.Decimal.{decimal_of}
use Rattle.text_out.proofs.DecimalLemmas.{IsUtf8-decimal_of, parse-decimal_of, printed_same}
use Rattle.text_out.proofs.read_decimal.Goals as goal

-- a decimal is text
pub returns-in_default : goal.returns-in_default
returns-in_default c z fits is = c.in_default.ensures.cases.0 (subst IsUtf8 (sym is) (IsUtf8-decimal_of z fits))

-- `parse` reads each decimal
pub returns-in_default-parse : goal.returns-in_default-parse
returns-in_default-parse c z fits is =
    c.in_default-parse.not-Ok z (parse-decimal_of z _ _ fits (c.in-Ok.ensures.cases.0 ∙ is) c.parse.ensures.value.0)

-- and what it read is printed the same
pub returns-else-eq : goal.returns-else-eq
returns-else-eq c z fits is =
    let text = c.in-Ok.ensures.cases.0 ∙ is in
    let read = parse-decimal_of z _ _ fits text c.parse.ensures.value.0 in
    let number : c.in-Ok-parse.n ≡ z = cc in
    let printed : c.format.result.now ≡ decimal_of z = c.format.ensures.text ∙ printed_same c.in-Ok-parse.n z number fits in
    other_text _ _ c.if-eq.ensures (printed ∙ sym text)
