use Rattle.std.proofs.Common.{map, nat_cmp, sym, rules, ◌∙◌}
use Rattle.std.specs.Cmp.Lexicographic.{slice_cmp}
use Rattle.std.proofs.lemmas.Fn.{always_returns_same}
use Rattle.schema.specs.SchemaOf.{plain_function}
use Rattle.processor.specs.Tables.{name_at_place}
use Rattle.processor.proofs.Searched.{search_found, search_missed}
use Rattle.processor.proofs.functions.searched.Goals as goal

pub returns-in-Ok : goal.returns-in-Ok
returns-in-Ok c =
    let fs = map plain_function c.args.functions.now in
    let equal = c.in-Ok.ensures.position (λ place. slice_cmp nat_cmp (name_at_place fs place) c.args.name.now) (always_returns_same _ _ _ (λ a r g called. search rules)) in
    c.function_in.ensures ∙ search_found c.args.name.now fs c.args.table.now c.in-Ok.at c.requires.tabled c.requires.different c.in-Ok.ensures.bound equal

pub returns-in-Err : goal.returns-in-Err
returns-in-Err c =
    let fs = map plain_function c.args.functions.now in
    let parted = c.in-Err.ensures.position (λ place. slice_cmp nat_cmp (name_at_place fs place) c.args.name.now) (always_returns_same _ _ _ (λ a r g called. search rules)) in
    sym (search_missed c.args.name.now fs c.args.table.now c.in-Err.field-0 c.requires.tabled parted)
