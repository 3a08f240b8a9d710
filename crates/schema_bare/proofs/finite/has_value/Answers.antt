use Rattle.std.proofs.Common.{rules}
use Rattle.schema_bare.specs.Ranks.{is_below}
use Rattle.schema_bare.proofs.Ranked.{of_union, of_others}
use Rattle.schema_bare.proofs.finite.has_value.Goals as goal

pub returns-in-Union : goal.returns-in-Union
returns-in-Union c =
    of_union (is_below c.args.ranks.now c.args.bound) c.args.one.now.kind c.args.one.now.fields c.some_below.result c.in-Union.is
    (search (rules, c.some_below.ensures, c.as_slice.ensures))

pub returns-in-Struct : goal.returns-in-Struct
returns-in-Struct c =
    of_others (is_below c.args.ranks.now c.args.bound) c.args.one.now.kind c.args.one.now.fields c.all_below.result c.in-Struct.is
    (search (rules, c.all_below.ensures, c.as_slice-in-Struct.ensures))
