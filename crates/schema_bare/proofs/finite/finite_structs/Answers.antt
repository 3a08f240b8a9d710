use Rattle.std.proofs.Common.{rules, ◌≡◌, map}
use Rattle.std.specs.Prelude.{nat_lt}
use Rattle.schema.specs.SchemaOf.{schema_of}
use Rattle.schema_bare.specs.Ranks.{unranked}
use Rattle.schema_bare.proofs.Ranked.{if_made, finite_told}
use Rattle.schema_bare.proofs.finite.finite_structs.Goals as goal

pub returns : goal.returns
returns c =
    if_made c.marks.result (λ v. v.items ≡ map (λ r. nat_lt r unranked) c.in_ok-ranks.ranks.items) _ (search (rules, c.marks.ensures, c.as_slice-2.ensures.value))
    (λ v is number. finite_told (schema_of c.args.schema.now) c.in_ok-ranks.ranks.items v.items
    (search (rules, c.if-not-are_ranks.ensures, c.are_ranks.ensures, c.as_slice.ensures.value, c.as_slice-structs.ensures)) is number)
