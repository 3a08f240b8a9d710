use Rattle.std.proofs.lemmas.Option.{slice_get-get_or}
use Rattle.conn_table.proofs.Ranks.{rank_at}
use Rattle.conn_table.proofs.places.rank_of.Goals as goal

pub returns-then-rows-hint-clause-rank_below : goal.returns-then-rows-hint-clause-rank_below
returns-then-rows-hint-clause-rank_below c =
    rank_at c.args.number c.args.hint _ c.args.rows.now c.requires (slice_get-get_or c.args.rows.now c.args.hint _ c.if-hint-rows.true) c.if-rows-hint.true
