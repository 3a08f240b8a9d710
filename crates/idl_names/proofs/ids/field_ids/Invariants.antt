use Rattle.std.proofs.Common.{◌≡◌, ◌++◌, ℕ, suc, pos, map, drop}
use Rattle.std.specs.Prelude.{neg_ℤ}
use Rattle.idl_include.specs.DeclaredIn.{field_in}
use Rattle.idl_include.specs.FieldIds.{ids_behind, field_ids}
use Rattle.idl_names.proofs.ids.field_ids.Given as goal

abbrev pub invariant-loop-field : goal.invariant-loop-field
invariant-loop-field l =
    (unnumbered : ℕ) × (l.next ≡ neg_ℤ (pos (suc unnumbered)))
    × (l.ids.items ++ ids_behind unnumbered (map field_in (drop l.field-index l.fields)) ≡ field_ids (map field_in l.fields))
