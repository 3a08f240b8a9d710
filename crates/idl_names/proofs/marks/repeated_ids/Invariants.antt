use Rattle.std.proofs.Common.{◌≡◌, ◌++◌, ℤ, take, drop, []}
use Rattle.std.specs.Ordering.{int_eq}
use Rattle.std.specs.List.{list_any}
use Rattle.idl_names.specs.Before.{id_marks}
use Rattle.idl_names.specs.NameSets.{has_id}
use Rattle.idl_names.proofs.marks.repeated_ids.Given as goal

abbrev pub invariant-loop-id : goal.invariant-loop-id
invariant-loop-id l =
    record {
      marked : l.marks.items ++ id_marks (take l.id-index l.ids) (drop l.id-index l.ids) ≡ id_marks [] l.ids;
      seen : (other : ℤ) → has_id l.seen other ≡ list_any (int_eq other) (take l.id-index l.ids);
    }
