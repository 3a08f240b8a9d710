use Rattle.std.proofs.Common.{◌≡◌, ℕ, true, List, map, sym, subst}
use Rattle.schema.specs.PlainSchema.{PlainFunction}
use Rattle.schema.specs.SchemaOf.{plain_function, schema_of}
use Rattle.schema.specs.Sound.{AreDifferent}
use Rattle.processor.specs.Tables.{is_table, table_at}
use Rattle.processor.proofs.Searched.{own_different}
use Rattle.processor.proofs.Tabled.{table_of_each}
use Rattle.processor.proofs.functions.own_function.Goals as goal

pub searched-requires-clause-different : goal.searched-requires-clause-different
searched-requires-clause-different c =
    subst (λ (fs : List PlainFunction). AreDifferent (map (λ (f : PlainFunction). f.name) fs)) (sym c.requires.own)
    (own_different (schema_of c.args.schema.now) c.requires.sound c.args.which)

pub searched-requires-clause-tabled : goal.searched-requires-clause-tabled
searched-requires-clause-tabled c =
    subst (λ (table : List ℕ). is_table (map plain_function c.args.functions.now) table ≡ true) (sym c.own_table.ensures)
    (subst (λ (fs : List PlainFunction). is_table fs (table_at c.args.tables.now c.args.which) ≡ true) (sym c.requires.own)
    (table_of_each (schema_of c.args.schema.now).services c.args.tables.now c.requires.tabled c.args.which))
