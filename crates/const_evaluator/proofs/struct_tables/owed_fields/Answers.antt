use Rattle.std.proofs.Common.{map}
use Rattle.idl_const.specs.FieldRows.{owed_in}
use Rattle.check_model.specs.FieldLists.{NumberedField}
use Rattle.const_evaluator.specs.Places.{number_at_place}
use Rattle.const_evaluator.specs.GivenFields.{default_number}
use Rattle.const_evaluator.proofs.OwedBeside.{ids_next, owed_next, ids_end, owed_end}
use Rattle.const_evaluator.proofs.struct_tables.owed_fields.Goals as goal

pub loop-place-preserved : goal.loop-place-preserved
loop-place-preserved c =
    let found = c.in-Some.ensures.lookup in
    record {
      ids =
          ids_next c.args.sorted.now c.args.fields.now c.loop-place.place c.in-Some.by_id.now c.index-fields-place.result _ found.3.0 found.1 c.loop-place-test.true
          c.index-fields-place.is c.in_ok-put_field.ensures.id c.loop-place.invariant.ids;
      owed =
          owed_next (λ (f : NumberedField). default_number (number_at_place c.args.places.now) c.args.file f.decl) c.args.sorted.now c.args.fields.now c.loop-place.place c.in-Some.by_id.now c.index-fields-place.result
          (map owed_in c.loop-place.owed.items) (map owed_in c.put_field.new.owed.items) _ found.3.0 found.1 c.loop-place-test.true
          c.index-fields-place.is c.in_ok-put_field.ensures.put c.loop-place.invariant.owed;
    }

pub returns-clause-ids : goal.returns-clause-ids
returns-clause-ids c = ids_end c.args.sorted.now c.args.fields.now c.loop-place.place _ c.loop-place-test.false c.loop-place.invariant.ids

pub returns-clause-owed : goal.returns-clause-owed
returns-clause-owed c =
    owed_end (λ (f : NumberedField). default_number (number_at_place c.args.places.now) c.args.file f.decl) c.args.sorted.now c.args.fields.now c.loop-place.place
    (map owed_in c.loop-place.owed.items) _ c.loop-place-test.false c.loop-place.invariant.owed
