use Rattle.std.proofs.Common.{rules, ◌∙◌, map}
use Rattle.idl_include.specs.SourcesOf.{program_in}
use Rattle.idl_types.proofs.RowsMade.{row_next, rows_end, aliases_of, aliases_are}
use Rattle.idl_types.proofs.rows.typedef_rows.Goals as goal

pub loop-typedef-preserved : goal.loop-typedef-preserved
loop-typedef-preserved c =
    row_next (λ row. row.items) (aliases_of (program_in c.args.names.now)) c.args.typedefs.now c.loop-typedef.typedef-index c.typedef-item.result c.put_aliases.new.row
    c.loop-typedef.rows.items c.push.new.self.items c.loop-typedef-test.true c.typedef-item.is (search (rules, c.in_ok-put_aliases.ensures)) c.in_ok-push.ensures.items
    c.loop-typedef.invariant

pub returns : goal.returns
returns c =
    rows_end (aliases_of (program_in c.args.names.now)) c.args.typedefs.now c.loop-typedef.typedef-index (map (λ row. row.items) c.loop-typedef.rows.items)
    c.loop-typedef-test.false c.loop-typedef.invariant
    ∙ aliases_are (program_in c.args.names.now) c.args.typedefs.now c.requires
