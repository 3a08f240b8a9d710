use Rattle.std.proofs.Common.{rules, map}
use Rattle.std.specs.Option.{option_map}
use Rattle.schema.specs.SchemaOf.{plain_service}
use Rattle.schema.specs.Shapes.{shown_function}
use Rattle.compat_check.specs.Plain.{change_of, plain_found_break}
use Rattle.compat_check.specs.Tables.{tabled_function}
use Rattle.compat_check.proofs.OfServices.{all_rising, not_broken, gone, broken}
use Rattle.compat_check.proofs.services.break_of_service.Goals as goal

pub returns-then-service-ne0 : goal.returns-then-service-ne0
returns-then-service-ne0 c = not_broken (change_of c.args.change.now) c.args.which (plain_service c.args.service.now) (search rules)

pub returns-in_default : goal.returns-in_default
returns-in_default c = gone (change_of c.args.change.now) c.args.which (plain_service c.args.service.now) c.as_slice-name.result.now (search rules) (search rules) (search rules)

pub first_break_of_functions-requires-clause-rising : goal.first_break_of_functions-requires-clause-rising
first_break_of_functions-requires-clause-rising c =
    all_rising (change_of c.args.change.now).old c.args.which (map shown_function c.as_slice-3.result.now) c.requires.old (search rules)

pub returns : goal.returns
returns c =
    broken (change_of c.args.change.now) c.args.which (plain_service c.args.service.now) c.in-Some.other (tabled_function c.in_ok-table.table)
    (map shown_function c.as_slice-3.result.now) (option_map plain_found_break c.first_break_of_functions.result) (search rules) (search rules)
    c.in_ok-table.ensures (search rules) c.first_break_of_functions.ensures
