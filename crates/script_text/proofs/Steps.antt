-- A rule that is kept, and what follows where a result is Ok.
use Rattle.std.proofs.Common.{◌≡◌, ℕ, ◌<◌, List, [], ◌∷◌, ◌++◌, length, get_or, set, map, Result, Ok, Err, OnOk, sym, ap, ◌∙◌}
use Rattle.std.proofs.lemmas.List.{map-set, get_or-map, map-append}
use Rattle.script_text.specs.declared.lines.WriteRule.{WriteRule as RuleKept}
use Rattle.script_text.specs.Reading.{with_rule}
use Rattle.script_text.specs.Plans.{plain_rule, plain_rules}

-- a rule behind those of its connection
pub rule_put : (rules now : List (List RuleKept)) (c : ℕ) (old new : List RuleKept) (rule : RuleKept) → c < length rules → old ≡ get_or rules c old → now ≡ set rules c new
    → new ≡ old ++ rule ∷ [] → map plain_rules now ≡ with_rule c (plain_rule rule) (map plain_rules rules)
rule_put rules now c old new rule within is put more =
    let own : get_or (map plain_rules rules) c [] ≡ plain_rules old = get_or-map plain_rules rules c old [] within ∙ ap plain_rules (sym is) in
    let added : plain_rules new ≡ get_or (map plain_rules rules) c [] ++ plain_rule rule ∷ [] =
    ap plain_rules more ∙ map-append plain_rule old (rule ∷ []) ∙ ap (λ xs. xs ++ plain_rule rule ∷ []) (sym own) in
    ap (map plain_rules) put ∙ map-set plain_rules rules c new ∙ ap (λ xs. set (map plain_rules rules) c xs) added

-- what follows from what holds on Ok
pub on_ok : {A E P Q : Type 0} (r : Result A E) → (P → Q) → OnOk r P → OnOk r Q
on_ok (Ok x) f h = f h
on_ok (Err e) f h = tt
