use Rattle.std.proofs.Common.{◌≡◌, ◌++◌, ℕ, List, map, take, drop, []}
use Rattle.idl_include.specs.Loading.{is_among}
use Rattle.idl_names.specs.Before.{name_marks}
use Rattle.idl_names.specs.NameSets.{has_name}
use Rattle.idl_names.proofs.marks.repeated_names.Given as goal

abbrev pub invariant-loop-item : goal.invariant-loop-item
invariant-loop-item g l =
    let text = g.D.Named.text in
    record {
      marked : l.marks.items ++ name_marks (map text (take l.item-index l.items)) (map text (drop l.item-index l.items)) ≡ name_marks [] (map text l.items);
      seen : (other : List ℕ) → has_name l.seen other ≡ is_among other (map text (take l.item-index l.items));
    }
