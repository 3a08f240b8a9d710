use Rattle.std.proofs.Common.{sym, subst, ◌∙◌}
use Rattle.std.proofs.lemmas.Bool.{eqb-true}
use Rattle.std.specs.Str.Parse.{ParsesUnsigned}
use Rattle.script_text.proofs.Numbers.{empty_unread, plus_unread, no_text_unread, unparsed, parsed}
use Rattle.script_text.proofs.words.read_number.Goals as goal

pub returns-then-is_empty : goal.returns-then-is_empty
returns-then-is_empty c = sym (empty_unread c.args.text.now (eqb-true _ _ (sym c.is_empty.ensures ∙ c.if-is_empty.true)))

pub returns-then-first-eq43 : goal.returns-then-first-eq43
returns-then-first-eq43 c = sym (plus_unread c.args.text.now c.if-first-eq43.true)

pub returns-in_default : goal.returns-in_default
returns-in_default c = sym (no_text_unread c.args.text.now c.in_default.ensures.cases.0)

pub returns-in_default-parse : goal.returns-in_default-parse
returns-in_default-parse c =
    sym (unparsed c.args.text.now c.parse.result (subst (λ t. ParsesUnsigned 32 10 t c.parse.result) c.in-Ok.ensures.cases.0 c.parse.ensures.value.0) c.in_default-parse.not-Ok)

pub returns : goal.returns
returns c =
    sym (parsed c.args.text.now c.parse.result c.in-Ok-parse.number (subst (λ t. ParsesUnsigned 32 10 t c.parse.result) c.in-Ok.ensures.cases.0 c.parse.ensures.value.0)
    c.in-Ok-parse.is c.if-first-eq43.false c.if-first-eq48.false)
