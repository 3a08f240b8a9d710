use Rattle.std.proofs.Common.{◌≡◌, List, ℕ, true, length, map, sym, subst}
use Rattle.std.proofs.lemmas.List.{length-map}
use Rattle.schema.specs.SchemaOf.{plain_function}
use Rattle.processor.specs.Tables.{is_table}
use Rattle.processor.proofs.Tabled.{tabled}
use Rattle.processor.proofs.tabling.function_table.Goals as goal

pub returns : goal.returns
returns c =
    let fs = map plain_function c.args.functions.now in
    subst (λ (table : List ℕ). is_table fs table ≡ true) (sym c.new.ensures)
    (tabled fs (length c.args.functions.now) c.in_ok-places.places.items c.sort_by_name.new.places.items (length-map c.args.functions.now plain_function) c.in_ok-places.ensures.each c.in_ok-places.ensures.within
    c.sort_by_name.ensures.permutation c.in_ok-sort_by_name.ensures.sorted)
