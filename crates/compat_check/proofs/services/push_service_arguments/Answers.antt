use Rattle.std.proofs.Common.{rules, map}
use Rattle.schema.specs.SchemaOf.{plain_service}
use Rattle.schema.specs.Shapes.{shown_function}
use Rattle.compat_model.specs.StructPairs.{argument_pairs}
use Rattle.compat_check.specs.Plain.{change_of, plain_pair}
use Rattle.compat_check.specs.Tables.{tabled_function}
use Rattle.compat_check.proofs.OfServices.{no_pairs, pairs_gone, pairs_served}
use Rattle.compat_check.proofs.services.push_service_arguments.Goals as goal

pub returns-then-service-ne0 : goal.returns-then-service-ne0
returns-then-service-ne0 c = no_pairs (change_of c.args.change.now) c.args.which (plain_service c.args.service.now) argument_pairs (map plain_pair c.args.into.now.items) (search rules)

pub returns-in_default : goal.returns-in_default
returns-in_default c =
    pairs_gone (change_of c.args.change.now) c.args.which (plain_service c.args.service.now) argument_pairs (map plain_pair c.args.into.now.items) (search rules) (search rules)

pub returns : goal.returns
returns c =
    pairs_served (change_of c.args.change.now) c.args.which (plain_service c.args.service.now) argument_pairs (map plain_pair c.args.into.now.items)
    c.in-Some.other (tabled_function c.in_ok-table.table) (map shown_function c.as_slice-2.result.now) _ (search rules) (search rules)
    c.in_ok-table.ensures (search rules) c.in_ok-push_all_arguments.ensures
