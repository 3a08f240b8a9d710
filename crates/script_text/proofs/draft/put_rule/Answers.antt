use Rattle.std.proofs.Common.{◌<◌, length, rules, refl, arith}
use Rattle.script_text.proofs.Steps.{on_ok, rule_put}
use Rattle.script_text.proofs.draft.put_rule.Goals as goal

pub returns-then-c-len : goal.returns-then-c-len
returns-then-c-len c =
    let within : c.args.c < length c.args.rules.now.items = first_of (omega arith, search rules) in
    on_ok c.push.result (λ more. rule_put c.args.rules.now.items _ c.args.c c.index_mut.result.now c.push.new.self c.args.rule within c.index_mut.ensures.value refl more) c.push.ensures.ok
