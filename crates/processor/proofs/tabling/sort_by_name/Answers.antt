use Rattle.std.proofs.Common.{map, rules}
use Rattle.std.proofs.lemmas.Cmp.{nat_list_cmp_total}
use Rattle.std.proofs.lemmas.Fn.{always_returns_same}
use Rattle.std.proofs.lemmas.List.Sorted.{ranks_by}
use Rattle.schema.specs.SchemaOf.{plain_function}
use Rattle.processor.specs.Tables.{is_placed_before, name_at_place}
use Rattle.processor.proofs.tabling.sort_by_name.Goals as goal

pub returns-clause-sorted : goal.returns-clause-sorted
returns-clause-sorted c =
    let fs = map plain_function c.args.functions.now in
    c.in_ok-sort_by.ensures.sorted (is_placed_before fs) (ranks_by nat_list_cmp_total (name_at_place fs)) (always_returns_same _ _ _ (λ a r g called. search rules))
