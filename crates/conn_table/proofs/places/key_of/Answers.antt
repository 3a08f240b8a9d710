use Rattle.std.proofs.Common.{◌<◌, Some, length, get_or, ap, ◌∙◌, sym, subst}
use Rattle.std.proofs.lemmas.Option.{slice_get_within, get_or_from_slice_get}
use Rattle.conn_table.specs.declared.places.Row.{Row}
use Rattle.conn_table.specs.Rows.{rank_below}
use Rattle.conn_table.proofs.Ranks.{rank_found}
use Rattle.conn_table.proofs.Placing.{value_of}
use Rattle.conn_table.proofs.places.key_of.Goals as goal

pub bounds-rows-rank_of : goal.bounds-rows-rank_of
bounds-rows-rank_of c =
    let v = value_of _ c.requires.open in
    let t = rank_found c.args.number v.0 c.args.rows.now c.requires.rising v.1 in
    subst (λ i. i < length c.args.rows.now) (sym c.rank_of.ensures.rank_below) (slice_get_within c.args.rows.now (rank_below c.args.number c.args.rows.now) t.0 t.1)

pub returns : goal.returns
returns c =
    let v = value_of _ c.requires.open in
    let t = rank_found c.args.number v.0 c.args.rows.now c.requires.rising v.1 in
    v.1 ∙ ap Some (sym t.3)
    ∙ ap (λ (row : Row). Some row.key) (sym (ap (λ i. get_or c.args.rows.now i (record { number = 0; key = 0 })) c.rank_of.ensures.rank_below ∙ get_or_from_slice_get c.args.rows.now (rank_below c.args.number c.args.rows.now) t.0 (record { number = 0; key = 0 }) t.1))
