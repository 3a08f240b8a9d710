use Rattle.std.proofs.Common.{◌≡◌, ◌++◌, map, drop}
use Rattle.schema.specs.SchemaOf.{plain_field}
use Rattle.struct_skew.specs.Needs.{places_from, is_required_field}
use Rattle.struct_skew.proofs.needs.required_places.Given as goal

-- the places so far, and those of what is left, are the places of all
abbrev pub invariant-loop-place : goal.invariant-loop-place
invariant-loop-place l =
    l.places.items ++ places_from is_required_field l.place (map plain_field (drop l.place l.fields)) ≡ places_from is_required_field 0 (map plain_field l.fields)
