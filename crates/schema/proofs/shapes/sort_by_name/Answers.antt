use Rattle.std.proofs.Common.{rules}
use Rattle.std.specs.Borrow.{Bor}
use Rattle.std.proofs.lemmas.Cmp.{nat_list_cmp_total}
use Rattle.std.proofs.lemmas.List.Sorted.{answers_always, ranks_by}
use Rattle.schema.specs.declared.types.FnDesc.{FnDesc}
use Rattle.schema.specs.Shapes.{is_shown_before}
use Rattle.schema.proofs.shapes.sort_by_name.Goals as goal

pub returns-clause-sorted : goal.returns-clause-sorted
returns-clause-sorted c =
    c.in_ok-sort_by.ensures.sorted is_shown_before (ranks_by nat_list_cmp_total (λ (f : Bor FnDesc). f.now.name)) (answers_always _ _ _ (λ f a r g called. search rules))
